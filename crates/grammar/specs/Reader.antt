-- The reader: a machine that takes one token at a time. What is still open is the state.
use Rattle.std.specs.Prelude.{ℕ, Bool, true, false, List, [], ◌∷◌, nat_le}
use Rattle.std.proofs.Math.Option.{Option, none, some}
use Rattle.grammar.specs.Tree.{Text, Op, Pre, Literal, Mark, Token, Id, Expr, Exprs, Ann, Params, Stmt, Stmts, Arms, Decl, Decls, Form, Where, place, rank, level, left, right, reach, tight, callable}
use Rattle.grammar.specs.Tree.{target, mark_discrete, op_discrete, minus, not, neg, text, rparen, rbracket, comma, assign, colon, arrow, newline, indent, dedent, end, class, def, global, nonlocal, pass}
use Rattle.grammar.specs.Tree.{return, if, elif, else, while, for, within, name, lit, dot, lparen, lbracket, not_word, op, mark, wrong, at, id, var, con, bin, pre, mem, idx, call, list, nil, snoc, cls}
use Rattle.grammar.specs.Tree.{quoted, list_of, no_params, param, skip, ret₀, ret, assigns, choose, loop, each, empty, then, no_arms, arm, a_var, a_func, a_class, a_global, a_nonlocal, no_decls, decl}
use Rattle.grammar.specs.Tree.{lit_none, lit_true, lit_false, int, named, member, indexed, closed, binary, prefix, in_program, in_class, in_function}

mutual
  -- a body that takes declarations and then statements
  pub data Frame : Type 0 where
    main : Decls → Frame
    locals : ℕ → Id → Params → Ann → Decls → Outer → Frame

  -- what takes declarations
  pub data Outer : Type 0 where
    inside : Frame → Outer
    members : ℕ → Id → Id → Decls → Decls → Outer

-- the blocks that are open, with the statements that each has so far
pub data Body : Type 0 where
  base : Frame → Stmts → Body
  arms : Arms → ℕ → Expr → Stmts → Body → Body
  other : Arms → Stmts → Body → Body
  loops : ℕ → Expr → Stmts → Body → Body
  eachs : ℕ → Text → Expr → Stmts → Body → Body

-- what a list of expressions in brackets is for
pub data Group : Type 0 where
  of_call : ℕ → Expr → Group
  of_list : ℕ → Group

-- where an expression goes that is being read
pub data Hole : Type 0 where
  line : ℕ → Exprs → Body → Hole
  value : ℕ → Body → Hole
  arm_test : Arms → ℕ → Body → Hole
  loop_test : ℕ → Body → Hole
  each_of : ℕ → Text → Body → Hole
  rhs : ℕ → Op → Expr → Hole → Hole
  under : ℕ → Pre → Hole → Hole
  paren : ℕ → Hole → Hole
  index : ℕ → Expr → Hole → Hole
  group : Group → Exprs → Hole → Hole

-- where a type goes
pub data Slot : Type 0 where
  of_var : Id → Outer → Slot
  of_param : ℕ → Id → Params → Id → Outer → Slot
  of_result : ℕ → Id → Params → Outer → Slot
  of_item : ℕ → Slot → Slot

-- what a name is for
pub data Naming : Type 0 where
  field : ℕ → Expr → Hole → Naming
  for_def : ℕ → Outer → Naming
  for_class : ℕ → Decls → Naming
  for_super : ℕ → Id → Decls → Naming
  for_param : ℕ → Id → Params → Outer → Naming
  for_global for_nonlocal : ℕ → Outer → Naming
  for_each : ℕ → Body → Naming

pub data State : Type 0 where
  -- an expression must begin
  want : Hole → State
  -- the same, or the bracket closes
  first : Group → Hole → State
  -- an expression stands here, which may go on
  have : ℕ → Form → Expr → Hole → State
  -- a name must come
  naming : Naming → State
  -- this mark must come, and these after it
  seq : Mark → List Mark → State → State
  -- a `(` must come
  opens : State → State
  -- a parameter or `)` must come
  params : ℕ → Id → Outer → State
  -- a type must begin, or stands here
  typing : Slot → State
  typed : Ann → Slot → State
  -- a literal must come
  value_of : Id → Ann → Outer → State
  -- a value must begin, or the line end
  returns : ℕ → Body → State
  -- `elif` or `else` may come
  more : Arms → Body → State
  -- a statement must begin, or the block end
  start : Body → State
  -- a member must begin, or the class end
  inner : ℕ → Id → Id → Decls → Decls → State
  done : Decls → Stmts → State

abbrev pub add : Stmt → Body → Body
add s (base fr ss) = base fr (then ss s)
add s (arms aa p e ss b) = arms aa p e (then ss s) b
add s (other aa ss b) = other aa (then ss s) b
add s (loops p e ss b) = loops p e (then ss s) b
add s (eachs p n e ss b) = eachs p n e (then ss s) b

abbrev pub join : Decl → Outer → Outer
join d (inside (main ds)) = inside (main (decl ds d))
join d (inside (locals p n ps a ds o)) = inside (locals p n ps a (decl ds d) o)
join d (members p n m ds os) = members p n m (decl ds d) os

-- where the next declaration is read
abbrev pub awaits : Outer → State
awaits (inside fr) = start (base fr empty)
awaits (members p n m ds os) = inner p n m ds os

abbrev pub where_of : Outer → Where
where_of (inside (main ds)) = in_program
where_of (inside (locals p n ps a ds o)) = in_function
where_of (members p n m ds os) = in_class

-- how tight an expression must be to go here
abbrev pub asks : Hole → ℕ
asks (line p es b) = 0
asks (value p b) = 0
asks (arm_test aa p b) = 0
asks (loop_test p b) = 0
asks (each_of p n b) = 0
asks (rhs p o a h) = right (rank o)
asks (under p q h) = reach q
asks (paren p h) = 0
asks (index p a h) = 0
asks (group g es h) = 0

abbrev pub Next : Type 0
Next = Option State

abbrev pub either : Next → Next → Next
either none y = y
either (some x) y = some x

-- only where the test passes
abbrev pub only : Bool → Next → Next
only true x = x
only false x = none

abbrev pub given : {A : Type 0} → Dec A → State → Next
given (yes p) s = some s
given (no p) s = none

-- the token is this mark
abbrev pub expect : Mark → (ℕ → State) → Token → Next
expect m s (at (name n) p) = none
expect m s (at (lit l) p) = none
expect m s (at dot p) = none
expect m s (at lparen p) = none
expect m s (at lbracket p) = none
expect m s (at not_word p) = none
expect m s (at (op o) p) = none
expect m s (at (mark k) p) = given (mark_discrete m k) (s p)
expect m s (at (wrong k) p) = none

-- a mark that may come, and what follows: always, or only where a test passes
pub data Offer : Type 0 where
  on : Mark → (ℕ → State) → Offer
  when : Bool → Mark → (ℕ → State) → Offer

abbrev pub pick : List Offer → Token → Next
pick [] t = none
pick (on m s ∷ os) t = either (expect m s t) (pick os t)
pick (when b m s ∷ os) t = either (only b (expect m s t)) (pick os t)

abbrev pub due : List Mark → State → State
due [] s = s
due (m ∷ ms) s = seq m ms s

abbrev pub closer : Group → Mark
closer (of_call p a) = rparen
closer (of_list p) = rbracket

abbrev pub from : Group → ℕ
from (of_call p a) = p
from (of_list p) = p

abbrev pub build : Group → Exprs → Expr
build (of_call p a) es = call p a es
build (of_list p) es = list p es

-- the token begins an expression
abbrev pub begins : Hole → Token → Next
begins h (at (name n) p) = some (have p (named n) (var p n) h)
begins h (at (lit l) p) = some (have p closed (con p l) h)
begins h (at dot p) = none
begins h (at lparen p) = some (want (paren p h))
begins h (at lbracket p) = some (first (of_list p) h)
begins h (at not_word p) = only (nat_le (asks h) (reach not)) (some (want (under p not h)))
begins h (at (op o) p) = only (nat_le (asks h) (reach neg)) (given (op_discrete minus o) (want (under p neg h)))
begins h (at (mark k) p) = none
begins h (at (wrong k) p) = none

-- the token goes on with the expression
abbrev pub grows : ℕ → Form → Expr → Hole → Token → Next
grows p f e h (at (name n) q) = none
grows p f e h (at (lit l) q) = none
grows p f e h (at dot q) = only (nat_le 8 (tight f)) (some (naming (field p e h)))
grows p f e h (at lparen q) = only (callable f) (some (first (of_call p e) h))
grows p f e h (at lbracket q) = only (nat_le 8 (tight f)) (some (want (index p e h)))
grows p f e h (at not_word q) = none
grows p f e h (at (op o) q) = only (nat_le (asks h) (level (rank o))) (only (nat_le (left (rank o)) (tight f)) (some (want (rhs p o e h))))
grows p f e h (at (mark k) q) = none
grows p f e h (at (wrong k) q) = none

-- a name at the beginning of a line, before any statement, may be declared
abbrev pub declared : Frame → ℕ → Form → List Offer
declared fr p (named n) = on colon (λ q. typing (of_var (id p n) (inside fr))) ∷ []
declared fr p member = []
declared fr p indexed = []
declared fr p closed = []
declared fr p (binary r) = []
declared fr p (prefix q) = []

abbrev pub vars : Exprs → Body → ℕ → Form → List Offer
vars nil (base fr empty) p f = declared fr p f
vars nil (base fr (then ss s)) p f = []
vars nil (arms aa q e ss b) p f = []
vars nil (other aa ss b) p f = []
vars nil (loops q e ss b) p f = []
vars nil (eachs q n e ss b) p f = []
vars (snoc es e) b p f = []

-- a block that begins after a colon
abbrev pub block_of : Body → State
block_of b = seq newline (indent ∷ []) (start b)

-- the expression is complete, and the token comes after it
abbrev pub leaves : Hole → ℕ → Form → Expr → Token → Next
leaves (line i es b) p f e t =
    pick (on newline (λ q. start (add (assigns i es e) b)) ∷ when (target f) assign (λ q. want (line i (snoc es e) b)) ∷ vars es b p f) t
leaves (value i b) p f e t = pick (on newline (λ q. start (add (ret i e) b)) ∷ []) t
leaves (arm_test aa i b) p f e t = pick (on colon (λ q. block_of (arms aa i e empty b)) ∷ []) t
leaves (loop_test i b) p f e t = pick (on colon (λ q. block_of (loops i e empty b)) ∷ []) t
leaves (each_of i n b) p f e t = pick (on colon (λ q. block_of (eachs i n e empty b)) ∷ []) t
leaves (rhs i o a h) p f e t =
    either (grows i (binary (rank o)) (bin i o a e) h t) (leaves h i (binary (rank o)) (bin i o a e) t)
leaves (under i u h) p f e t = either (grows i (prefix u) (pre i u e) h t) (leaves h i (prefix u) (pre i u e) t)
leaves (paren i h) p f e t = pick (on rparen (λ q. have i closed e h) ∷ []) t
leaves (index i a h) p f e t = pick (on rbracket (λ q. have i indexed (idx i a e) h) ∷ []) t
leaves (group g es h) p f e t =
    pick (on comma (λ q. want (group g (snoc es e) h)) ∷ on (closer g) (λ q. have (from g) closed (build g (snoc es e)) h) ∷ []) t

-- the name m at the place q is read
abbrev pub calls : Naming → ℕ → Text → State
calls (field p e h) q m = have p member (mem p e m) h
calls (for_def p o) q m = opens (params p (id q m) o)
calls (for_class p ds) q m = opens (naming (for_super p (id q m) ds))
calls (for_super p n ds) q m = seq rparen (colon ∷ newline ∷ indent ∷ []) (inner p n (id q m) no_decls ds)
calls (for_param p n ps o) q m = seq colon [] (typing (of_param p n ps (id q m) o))
calls (for_global p o) q m = seq newline [] (awaits (join (a_global p (id q m)) o))
calls (for_nonlocal p o) q m = seq newline [] (awaits (join (a_nonlocal p (id q m)) o))
calls (for_each p b) q m = seq within [] (want (each_of p m b))

-- the token is a name
abbrev pub names : (ℕ → Text → State) → Token → Next
names s (at (name n) p) = some (s p n)
names s (at (lit l) p) = none
names s (at dot p) = none
names s (at lparen p) = none
names s (at lbracket p) = none
names s (at not_word p) = none
names s (at (op o) p) = none
names s (at (mark k) p) = none
names s (at (wrong k) p) = none

abbrev pub parens : State → Token → Next
parens s (at (name n) p) = none
parens s (at (lit l) p) = none
parens s (at dot p) = none
parens s (at lparen p) = some s
parens s (at lbracket p) = none
parens s (at not_word p) = none
parens s (at (op o) p) = none
parens s (at (mark k) p) = none
parens s (at (wrong k) p) = none

abbrev pub literals : (ℕ → Literal → State) → Token → Next
literals s (at (name n) p) = none
literals s (at (lit l) p) = some (s p l)
literals s (at dot p) = none
literals s (at lparen p) = none
literals s (at lbracket p) = none
literals s (at not_word p) = none
literals s (at (op o) p) = none
literals s (at (mark k) p) = none
literals s (at (wrong k) p) = none

abbrev pub quotes : Literal → ℕ → Slot → Next
quotes lit_none p s = none
quotes lit_true p s = none
quotes lit_false p s = none
quotes (int n) p s = none
quotes (text n) p s = some (typed (quoted p n) s)

-- the token begins a type
abbrev pub types : Slot → Token → Next
types s (at (name n) p) = some (typed (cls p n) s)
types s (at (lit l) p) = quotes l p s
types s (at dot p) = none
types s (at lparen p) = none
types s (at lbracket p) = some (typing (of_item p s))
types s (at not_word p) = none
types s (at (op o) p) = none
types s (at (mark k) p) = none
types s (at (wrong k) p) = none

-- the type is complete
abbrev pub ends_type : Slot → Ann → List Offer
ends_type (of_var n o) a = on assign (λ q. value_of n a o) ∷ []
ends_type (of_param p n ps m o) a =
    on comma (λ i. naming (for_param p n (param ps m a) o)) ∷ on rparen (λ i. seq arrow [] (typing (of_result p n (param ps m a) o))) ∷ []
ends_type (of_result p n ps o) a = on colon (λ q. block_of (base (locals p n ps a no_decls o) empty)) ∷ []
ends_type (of_item p s) a = on rbracket (λ q. typed (list_of p a) s) ∷ []

-- the declarations that begin with a mark
abbrev pub decls : Body → List Offer
decls (base (main ds) empty) =
    on def (λ p. naming (for_def p (inside (main ds)))) ∷ on class (λ p. naming (for_class p ds)) ∷ []
decls (base (locals i n ps a ds o) empty) =
    on def (λ p. naming (for_def p (inside (locals i n ps a ds o))))
    ∷ on global (λ p. naming (for_global p (inside (locals i n ps a ds o))))
    ∷ on nonlocal (λ p. naming (for_nonlocal p (inside (locals i n ps a ds o)))) ∷ []
decls (base fr (then ss s)) = []
decls (arms aa p e ss b) = []
decls (other aa ss b) = []
decls (loops p e ss b) = []
decls (eachs p n e ss b) = []

-- the block ends
abbrev pub ends : Body → List Offer
ends (base fr empty) = []
ends (base (main ds) (then ss s)) = on end (λ q. done ds (then ss s)) ∷ []
ends (base (locals p n ps a ds o) (then ss s)) = on dedent (λ q. awaits (join (a_func p n ps a ds (then ss s)) o)) ∷ []
ends (arms aa p e empty b) = []
ends (arms aa p e (then ss s) b) = on dedent (λ q. more (arm aa p e (then ss s)) b) ∷ []
ends (other aa empty b) = []
ends (other aa (then ss s) b) = on dedent (λ q. start (add (choose aa (then ss s)) b)) ∷ []
ends (loops p e empty b) = []
ends (loops p e (then ss s) b) = on dedent (λ q. start (add (loop p e (then ss s)) b)) ∷ []
ends (eachs p n e empty b) = []
ends (eachs p n e (then ss s) b) = on dedent (λ q. start (add (each p n e (then ss s)) b)) ∷ []

-- the statements that begin with a mark
abbrev pub stmts : Body → List Offer
stmts b =
    on pass (λ p. seq newline [] (start (add (skip p) b))) ∷ on return (λ p. returns p b) ∷ on if (λ p. want (arm_test no_arms p b))
    ∷ on while (λ p. want (loop_test p b)) ∷ on for (λ p. naming (for_each p b)) ∷ []

abbrev pub starts : Body → Token → Next
starts b t = either (pick (stmts b) t) (either (pick (decls b) t) (either (pick (ends b) t) (begins (line (place t) nil b) t)))

abbrev pub branches : Arms → Body → List Offer
branches aa b = on elif (λ p. want (arm_test aa p b)) ∷ on else (λ p. seq colon (newline ∷ indent ∷ []) (start (other aa empty b))) ∷ []

-- the members of a class
abbrev pub member_marks : ℕ → Id → Id → Decls → Decls → List Offer
member_marks p n m ds os =
    on def (λ i. naming (for_def i (members p n m ds os))) ∷ on dedent (λ i. start (base (main (decl os (a_class p n m ds))) empty)) ∷ []

abbrev pub step : State → Token → Next
step (want h) t = begins h t
step (first g h) t = either (pick (on (closer g) (λ q. have (from g) closed (build g nil) h) ∷ []) t) (begins (group g nil h) t)
step (have p f e h) t = either (grows p f e h t) (leaves h p f e t)
step (naming k) t = names (calls k) t
step (seq m ms s) t = expect m (λ q. due ms s) t
step (opens s) t = parens s t
step (params p n o) t =
    either (names (calls (for_param p n no_params o)) t) (pick (on rparen (λ q. seq arrow [] (typing (of_result p n no_params o))) ∷ []) t)
step (typing s) t = types s t
step (typed a s) t = pick (ends_type s a) t
step (value_of n a o) t = literals (λ q l. seq newline [] (awaits (join (a_var n a q l) o))) t
step (returns p b) t = either (pick (on newline (λ q. start (add (ret₀ p) b)) ∷ []) t) (begins (value p b) t)
step (more aa b) t = either (pick (branches aa b) t) (starts (add (choose aa empty) b) t)
step (start b) t = starts b t
step (inner p n m ds os) t =
    either (pick (member_marks p n m ds os) t) (names (λ i x. seq colon [] (typing (of_var (id i x) (members p n m ds os)))) t)
step (done ds ss) t = none

pub data Outcome : Type 0 where
  accepted : Decls → Stmts → Outcome
  -- no program has the token here; the tokens after it
  refused : Token → List Token → Outcome
  -- the tokens end too soon
  short : Outcome

abbrev pub stops : State → Outcome
stops (want h) = short
stops (first g h) = short
stops (have p f e h) = short
stops (naming k) = short
stops (seq m ms s) = short
stops (opens s) = short
stops (params p n o) = short
stops (typing s) = short
stops (typed a s) = short
stops (value_of n a o) = short
stops (returns p b) = short
stops (more aa b) = short
stops (start b) = short
stops (inner p n m ds os) = short
stops (done ds ss) = accepted ds ss

abbrev pub goes : (State → Outcome) → Token → List Token → Next → Outcome
goes k t ts none = refused t ts
goes k t ts (some s) = k s

abbrev pub run : List Token → State → Outcome
run [] s = stops s
run (t ∷ ts) s = goes (run ts) t ts (step s t)

abbrev pub begin : State
begin = start (base (main no_decls) empty)

abbrev pub read : List Token → Outcome
read ts = run ts begin
