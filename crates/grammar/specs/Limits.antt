-- The limited reader: the machine again, which also refuses a token that opens too deep a level or heads a nested declaration.
use Rattle.std.specs.Prelude.{ℕ, suc, pred, Bool, true, false, List, [], ◌∷◌, nat_le}
use Rattle.std.proofs.Math.Option.{Option, none, some}
use Rattle.grammar.specs.Tree.{Mark, Token, Stmts, Decls, mark_discrete, indent, def, nonlocal, name, lit, dot, lparen, lbracket, not_word, op, mark, wrong, at, empty, then}
use Rattle.grammar.specs.Reader.{Frame, Outer, Body, Hole, Slot, Naming, State, Next, Outcome, main, locals, inside, members, base, arms, other, loops, eachs, line, value, arm_test, loop_test, each_of}
use Rattle.grammar.specs.Reader.{rhs, under, paren, index, group, of_var, of_param, of_result, of_item, field, for_def, for_class, for_super, for_param, for_global, for_nonlocal, for_each, want, first}
use Rattle.grammar.specs.Reader.{have, naming, seq, opens, params, typing, typed, value_of, returns, more, start, inner, done, step, accepted, refused, short, stops}
use Rattle.grammar.specs.Profile.{Label, plain, opening, nested}

-- How many levels are open.
abbrev mutual
  pub frame_depth : Frame → ℕ
  frame_depth (main ds) = 0
  frame_depth (locals p n ps a ds o) = suc (outer_depth o)

  pub outer_depth : Outer → ℕ
  outer_depth (inside fr) = frame_depth fr
  outer_depth (members p n m ds os) = 1

abbrev pub body_depth : Body → ℕ
body_depth (base fr ss) = frame_depth fr
body_depth (arms aa p e ss b) = suc (body_depth b)
body_depth (other aa ss b) = suc (body_depth b)
body_depth (loops p e ss b) = suc (body_depth b)
body_depth (eachs p n e ss b) = suc (body_depth b)

abbrev pub hole_depth : Hole → ℕ
hole_depth (line p es b) = body_depth b
hole_depth (value p b) = body_depth b
hole_depth (arm_test aa p b) = body_depth b
hole_depth (loop_test p b) = body_depth b
hole_depth (each_of p n b) = body_depth b
hole_depth (rhs p o a h) = hole_depth h
hole_depth (under p q h) = suc (hole_depth h)
hole_depth (paren p h) = suc (hole_depth h)
hole_depth (index p a h) = suc (hole_depth h)
hole_depth (group g es h) = suc (hole_depth h)

abbrev pub slot_depth : Slot → ℕ
slot_depth (of_var n o) = outer_depth o
slot_depth (of_param p n ps m o) = suc (outer_depth o)
slot_depth (of_result p n ps o) = outer_depth o
slot_depth (of_item p s) = suc (slot_depth s)

abbrev pub naming_depth : Naming → ℕ
naming_depth (field p e h) = hole_depth h
naming_depth (for_def p o) = outer_depth o
naming_depth (for_class p ds) = 0
naming_depth (for_super p n ds) = 1
naming_depth (for_param p n ps o) = suc (outer_depth o)
naming_depth (for_global p o) = outer_depth o
naming_depth (for_nonlocal p o) = outer_depth o
naming_depth (for_each p b) = body_depth b

-- of tokens that must come: once they have come
abbrev pub depth : State → ℕ
depth (want h) = hole_depth h
depth (first g h) = suc (hole_depth h)
depth (have p f e h) = hole_depth h
depth (naming k) = naming_depth k
depth (seq m ms s) = depth s
depth (opens s) = depth s
depth (params p n o) = suc (outer_depth o)
depth (typing s) = slot_depth s
depth (typed a s) = slot_depth s
depth (value_of n a o) = outer_depth o
depth (returns p b) = body_depth b
depth (more aa b) = body_depth b
depth (start b) = body_depth b
depth (inner p n m ds os) = 1
depth (done ds ss) = 0

-- a bracket opens a level; the label of a sign and of a mark are given
abbrev pub label : ℕ → Label → (Mark → Label) → Token → Label
label n l k (at (name x) p) = plain
label n l k (at (lit x) p) = plain
label n l k (at dot p) = plain
label n l k (at lparen p) = opening n
label n l k (at lbracket p) = opening n
label n l k (at not_word p) = l
label n l k (at (op o) p) = l
label n l k (at (mark m) p) = k m
label n l k (at (wrong x) p) = plain

abbrev pub no_label : Mark → Label
no_label m = plain

-- where an operand may begin: the sign stands before it, and opens a level
abbrev pub operand : ℕ → Token → Label
operand n = label n (opening n) no_label

abbrev pub is_it : {A : Type 0} → Dec A → Label → Label → Label
is_it (yes a) l k = l
is_it (no a) l k = k

-- the mark that must come: an INDENT opens the level that is there afterwards
abbrev pub indents : Mark → ℕ → Label
indents m n = is_it (mark_discrete indent m) (opening (pred n)) plain

-- a declaration in the body of a function, before its first statement
abbrev pub declaring : Body → Label
declaring (base (main ds) empty) = plain
declaring (base (locals p n ps a ds o) empty) = nested
declaring (base fr (then ss s)) = plain
declaring (arms aa p e ss b) = plain
declaring (other aa ss b) = plain
declaring (loops p e ss b) = plain
declaring (eachs p n e ss b) = plain

abbrev pub heads : Label → Mark → Label
heads l m = is_it (mark_discrete def m) l (is_it (mark_discrete nonlocal m) l plain)

-- what a token does that the state takes
abbrev pub sees : State → Token → Label
sees (want h) t = operand (hole_depth h) t
sees (first g h) t = operand (suc (hole_depth h)) t
sees (have p f e h) t = label (hole_depth h) plain no_label t
sees (naming k) t = plain
sees (seq m ms s) t = indents m (depth s)
sees (opens s) t = opening (pred (depth s))
sees (params p n o) t = plain
sees (typing s) t = label (slot_depth s) plain no_label t
sees (typed a s) t = plain
sees (value_of n a o) t = plain
sees (returns p b) t = operand (body_depth b) t
sees (more aa b) t = operand (body_depth b) t
sees (start b) t = label (body_depth b) (opening (body_depth b)) (heads (declaring b)) t
sees (inner p n m ds os) t = plain
sees (done ds ss) t = plain

-- the labels that the machine sees on its way, and its outcome
abbrev pub Trail : Type 0
Trail = List Label × Outcome

abbrev pub moves : (State → Trail) → Label → Token → List Token → Next → Trail
moves k l t ts none = ([], refused t ts)
moves k l t ts (some s) = (l ∷ (k s).0, (k s).1)

abbrev pub trail : List Token → State → Trail
trail [] s = ([], stops s)
trail (t ∷ ts) s = moves (trail ts) (sees s t) t ts (step s t)

-- The two limits: of levels, and of declarations within functions.
pub data Limit : Type 0 where
  levels nests : Limit

abbrev pub when_true : Bool → Limit → Option Limit
when_true true l = some l
when_true false l = none

abbrev pub exceeds : ℕ → Label → Option Limit
exceeds lim plain = none
exceeds lim (opening n) = when_true (nat_le lim n) levels
exceeds lim nested = some nests

pub data Reading : Type 0 where
  complete : Decls → Stmts → Reading
  -- no program has the token here; the tokens after it
  barred : Token → List Token → Reading
  -- the token is over a limit
  beyond : Limit → Token → List Token → Reading
  -- the tokens end too soon
  unfinished : Reading

abbrev pub at_the_end : Outcome → Reading
at_the_end (accepted ds ss) = complete ds ss
at_the_end (refused t ts) = barred t ts
at_the_end short = unfinished

abbrev pub unless : Option Limit → Token → List Token → Reading → Reading
unless none t ts r = r
unless (some l) t ts r = beyond l t ts

abbrev pub proceeds : (State → Reading) → Option Limit → Token → List Token → Next → Reading
proceeds k x t ts none = barred t ts
proceeds k x t ts (some s) = unless x t ts (k s)

-- lim levels at most
abbrev pub limited : ℕ → List Token → State → Reading
limited lim [] s = at_the_end (stops s)
limited lim (t ∷ ts) s = proceeds (limited lim ts) (exceeds lim (sees s t)) t ts (step s t)
