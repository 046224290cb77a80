-- What the reader accepts is what the grammar says: each step keeps a derivation of what has been read.
use Rattle.std.proofs.Common.{◌≡◌, ℕ, ◌≤◌, Bool, true, false, T, leb, List, [], ◌∷◌, sym, refl, subst, arith, leb→le}
use mathlib.Core.Option.{none, some}
use Rattle.grammar.specs.Tree.{Text, Op, Literal, Mark, Kind, Token, Id, Expr, Exprs, Ann, Params, Stmt, Stmts, Arms, Decl, Decls, Form, rank, level, left, reach, tight, callable, target, function?}
use Rattle.grammar.specs.Tree.{mark_discrete, op_discrete, minus, not, neg, text, rparen, rbracket, comma, assign, colon, arrow, newline, indent, dedent, end, class, def, global, nonlocal, pass, return}
use Rattle.grammar.specs.Tree.{if, elif, else, while, for, within, name, lit, dot, lparen, lbracket, not_word, op, mark, wrong, at, id, bin, pre, idx, call, list, nil, snoc, no_params, param, skip}
use Rattle.grammar.specs.Tree.{ret₀, ret, assigns, choose, loop, each, empty, then, no_arms, arm, a_var, a_func, a_class, a_global, a_nonlocal, no_decls, decl, lit_none, lit_true, lit_false, int, named}
use Rattle.grammar.specs.Tree.{member, indexed, closed, binary, prefix, in_program, in_class, in_function}
use Rattle.grammar.specs.Grammar.{Reads, Items, Targets, Says, Ways, Block, Lines, Types, Takes, Sig, Declares, Defs, Program, r_name, r_lit, r_paren, r_list₀, r_list, r_member, r_index, r_call₀, r_call}
use Rattle.grammar.specs.Grammar.{r_binary, r_not, r_neg, i_one, i_more, t_none, t_more, s_pass, s_return₀, s_return, s_line, s_if, s_else, s_while, s_for, w_if, w_elif, block, l_none, l_more, y_name}
use Rattle.grammar.specs.Grammar.{y_text, y_list, p_one, p_more, g_none, g_some, d_var, d_func, d_class, d_global, d_nonlocal, n_none, n_more, whole}
use Rattle.grammar.specs.Reader.{Frame, Outer, Body, Group, Hole, Slot, Naming, State, Next, Offer, Outcome, main, locals, inside, members, base, arms, other, loops, eachs, of_call, of_list, line, value}
use Rattle.grammar.specs.Reader.{arm_test, loop_test, each_of, rhs, under, paren, index, group, of_var, of_param, of_result, of_item, field, for_def, for_class, for_super, for_param, for_global}
use Rattle.grammar.specs.Reader.{for_nonlocal, for_each, want, first, have, naming, seq, opens, params, typing, typed, value_of, returns, more, start, inner, done, add, join, awaits, where_of, asks}
use Rattle.grammar.specs.Reader.{either, only, given, expect, on, when, pick, due, closer, from, build, begins, grows, declared, vars, block_of, leaves, calls, names, parens, literals, quotes, types}
use Rattle.grammar.specs.Reader.{ends_type, decls, ends, stmts, starts, branches, member_marks, step, accepted, refused, short, stops, goes, run, begin}
use Rattle.grammar.specs.Theorems.{Sound}
use Rattle.grammar.proofs.Complete.{loose}

-- expressions, each with a comma after it
data Sofar : Exprs → List Token → List Token → Type 0 where
  o_none : {ts : List Token} → Sofar nil ts ts
  o_more : {f : Form} {es : Exprs} {e : Expr} {p i : ℕ} {ts us : List Token}
      → Items es i f e ts (at (mark comma) p ∷ us) → Sofar (snoc es e) ts us

one_more : {i : ℕ} {f : Form} {es : Exprs} {e : Expr} {ts us vs : List Token} → Sofar es ts us → Reads i f e us vs → Items es i f e ts vs
one_more o_none d = i_one d
one_more (o_more i) d = i_more i d

-- parameters, each with a comma after it
data Given : Params → List Token → List Token → Type 0 where
  v_none : {ts : List Token} → Given no_params ts ts
  v_more : {ps : Params} {n : Id} {q : ℕ} {a : Ann} {ts us : List Token} → Takes ps n a ts (at (mark comma) q ∷ us) → Given (param ps n a) ts us

one_param : {ps : Params} {n : Text} {p q : ℕ} {a : Ann} {ts us vs : List Token} → Given ps ts (at (name n) p ∷ at (mark colon) q ∷ us) → Types a us vs → Takes ps (id p n) a ts vs
one_param v_none d = p_one d
one_param (v_more t) d = p_more t d

-- the `if`, or the arms and an `elif`
data Leads : Arms → ℕ → List Token → List Token → Type 0 where
  h_if : {p : ℕ} {us : List Token} → Leads no_arms p (at (mark if) p ∷ us) us
  h_elif : {aa : Arms} {p : ℕ} {ts us : List Token} → Ways aa ts (at (mark elif) p ∷ us) → Leads aa p ts us

one_arm : {aa : Arms} {p i j : ℕ} {f : Form} {e : Expr} {ss : Stmts} {ts us vs ws : List Token}
    → Leads aa p ts us → Reads i f e us (at (mark colon) j ∷ vs) → Block ss vs ws → Ways (arm aa p e ss) ts ws
one_arm h_if d l = w_if d l
one_arm (h_elif w) d l = w_elif w d l

-- What has been read of the tokens ts₀ when the rest is the last argument.
module _ (ts₀ : List Token) where
  mutual
    data AtFrame : Frame → List Token → Type 0 where
      f_main : {ds : Decls} {us : List Token} → Defs in_program ds ts₀ us → AtFrame (main ds) us
      f_locals : {o : Outer} {ps : Params} {a : Ann} {ds : Decls} {n : Text} {p q r i j k l : ℕ} {ts us vs ws : List Token}
          → AtOuter o (at (mark def) p ∷ at (name n) q ∷ at lparen r ∷ ts) → Sig ps ts (at (mark arrow) i ∷ us)
          → Types a us (at (mark colon) j ∷ at (mark newline) k ∷ at (mark indent) l ∷ vs) → Defs in_function ds vs ws
          → AtFrame (locals p (id q n) ps a ds o) ws

    data AtOuter : Outer → List Token → Type 0 where
      o_inside : {fr : Frame} {us : List Token} → AtFrame fr us → AtOuter (inside fr) us
      o_members : {ds os : Decls} {n m : Text} {p q r i j k l h : ℕ} {ts us : List Token}
          → Defs in_program os ts₀
          (at (mark class) p ∷ at (name n) r ∷ at lparen i ∷ at (name m) q ∷ at (mark rparen) j ∷ at (mark colon) k ∷ at (mark newline) l ∷ at (mark indent) h ∷ ts)
          → Defs in_class ds ts us → AtOuter (members p (id r n) (id q m) ds os) us

  data Before : Body → List Token → Type 0 where
    b_base : {fr : Frame} {ss : Stmts} {ts us : List Token} → AtFrame fr ts → Lines ss ts us → Before (base fr ss) us
    b_arms : {b : Body} {aa : Arms} {f : Form} {e : Expr} {ss : Stmts} {p i j k l : ℕ} {ts us vs ws : List Token}
        → Before b ts → Leads aa p ts us → Reads i f e us (at (mark colon) j ∷ at (mark newline) k ∷ at (mark indent) l ∷ vs)
        → Lines ss vs ws → Before (arms aa p e ss b) ws
    b_other : {b : Body} {aa : Arms} {ss : Stmts} {i j k l : ℕ} {ts us vs : List Token}
        → Before b ts → Ways aa ts (at (mark else) i ∷ at (mark colon) j ∷ at (mark newline) k ∷ at (mark indent) l ∷ us)
        → Lines ss us vs → Before (other aa ss b) vs
    b_loops : {b : Body} {f : Form} {e : Expr} {ss : Stmts} {p i j k l : ℕ} {ts us vs : List Token}
        → Before b (at (mark while) p ∷ ts) → Reads i f e ts (at (mark colon) j ∷ at (mark newline) k ∷ at (mark indent) l ∷ us)
        → Lines ss us vs → Before (loops p e ss b) vs
    b_eachs : {b : Body} {f : Form} {e : Expr} {ss : Stmts} {n : Text} {p q r i j k l : ℕ} {ts us vs : List Token}
        → Before b (at (mark for) p ∷ at (name n) q ∷ at (mark within) r ∷ ts)
        → Reads i f e ts (at (mark colon) j ∷ at (mark newline) k ∷ at (mark indent) l ∷ us)
        → Lines ss us vs → Before (eachs p n e ss b) vs

  data Into : Hole → List Token → Type 0 where
    g_line : {b : Body} {es : Exprs} {k : Kind} {p : ℕ} {ts us : List Token} → Before b (at k p ∷ ts) → Targets es (at k p ∷ ts) us → Into (line p es b) us
    g_value : {b : Body} {p : ℕ} {us : List Token} → Before b (at (mark return) p ∷ us) → Into (value p b) us
    g_arm : {b : Body} {aa : Arms} {p : ℕ} {ts us : List Token} → Before b ts → Leads aa p ts us → Into (arm_test aa p b) us
    g_loop : {b : Body} {p : ℕ} {us : List Token} → Before b (at (mark while) p ∷ us) → Into (loop_test p b) us
    g_each : {b : Body} {n : Text} {p q r : ℕ} {us : List Token} → Before b (at (mark for) p ∷ at (name n) q ∷ at (mark within) r ∷ us) → Into (each_of p n b) us
    g_rhs : {h : Hole} {f : Form} {o : Op} {a : Expr} {p q : ℕ} {ts us : List Token}
        → Into h ts → Reads p f a ts (at (op o) q ∷ us) → left (rank o) ≤ tight f → asks h ≤ level (rank o) → Into (rhs p o a h) us
    g_not : {h : Hole} {p : ℕ} {us : List Token} → Into h (at not_word p ∷ us) → asks h ≤ reach not → Into (under p not h) us
    g_neg : {h : Hole} {p : ℕ} {us : List Token} → Into h (at (op minus) p ∷ us) → asks h ≤ reach neg → Into (under p neg h) us
    g_paren : {h : Hole} {p : ℕ} {us : List Token} → Into h (at lparen p ∷ us) → Into (paren p h) us
    g_index : {h : Hole} {f : Form} {a : Expr} {p q : ℕ} {ts us : List Token}
        → Into h ts → Reads p f a ts (at lbracket q ∷ us) → 8 ≤ tight f → Into (index p a h) us
    g_call : {h : Hole} {f : Form} {a : Expr} {es : Exprs} {p q : ℕ} {ts us vs : List Token}
        → Into h ts → Reads p f a ts (at lparen q ∷ us) → T (callable f) → Sofar es us vs → Into (group (of_call p a) es h) vs
    g_list : {h : Hole} {es : Exprs} {p : ℕ} {us vs : List Token}
        → Into h (at lbracket p ∷ us) → Sofar es us vs → Into (group (of_list p) es h) vs

  data InSlot : Slot → List Token → Type 0 where
    l_var : {o : Outer} {n : Text} {p q : ℕ} {us : List Token} → AtOuter o (at (name n) p ∷ at (mark colon) q ∷ us) → InSlot (of_var (id p n) o) us
    l_param : {o : Outer} {ps : Params} {n m : Text} {p q i j k : ℕ} {ts us : List Token}
        → AtOuter o (at (mark def) p ∷ at (name n) i ∷ at lparen j ∷ ts) → Given ps ts (at (name m) q ∷ at (mark colon) k ∷ us) → InSlot (of_param p (id i n) ps (id q m) o) us
    l_result : {o : Outer} {ps : Params} {n : Text} {p i j k : ℕ} {ts us : List Token}
        → AtOuter o (at (mark def) p ∷ at (name n) i ∷ at lparen j ∷ ts) → Sig ps ts (at (mark arrow) k ∷ us) → InSlot (of_result p (id i n) ps o) us
    l_item : {s : Slot} {p : ℕ} {us : List Token} → InSlot s (at lbracket p ∷ us) → InSlot (of_item p s) us

  data Named : Naming → List Token → Type 0 where
    k_field : {h : Hole} {f : Form} {e : Expr} {p q : ℕ} {ts us : List Token} → Into h ts → Reads p f e ts (at dot q ∷ us) → 8 ≤ tight f → Named (field p e h) us
    k_def : {o : Outer} {p : ℕ} {us : List Token} → AtOuter o (at (mark def) p ∷ us) → Named (for_def p o) us
    k_class : {ds : Decls} {p : ℕ} {us : List Token} → Defs in_program ds ts₀ (at (mark class) p ∷ us) → Named (for_class p ds) us
    k_super : {ds : Decls} {n : Text} {p i j : ℕ} {us : List Token} → Defs in_program ds ts₀ (at (mark class) p ∷ at (name n) i ∷ at lparen j ∷ us) → Named (for_super p (id i n) ds) us
    k_param : {o : Outer} {ps : Params} {n : Text} {p i j : ℕ} {ts us : List Token}
        → AtOuter o (at (mark def) p ∷ at (name n) i ∷ at lparen j ∷ ts) → Given ps ts us → Named (for_param p (id i n) ps o) us
    k_global : {o : Outer} {p : ℕ} {us : List Token} → AtOuter o (at (mark global) p ∷ us) → T (function? (where_of o)) → Named (for_global p o) us
    k_nonlocal : {o : Outer} {p : ℕ} {us : List Token} → AtOuter o (at (mark nonlocal) p ∷ us) → T (function? (where_of o)) → Named (for_nonlocal p o) us
    k_each : {b : Body} {p : ℕ} {us : List Token} → Before b (at (mark for) p ∷ us) → Named (for_each p b) us

  data Finished : Decls → Stmts → List Token → Type 0 where
    e_done : {ds : Decls} {ss : Stmts} {s : Stmt} {p : ℕ} {ts us : List Token}
        → Defs in_program ds ts₀ ts → Lines (then ss s) ts (at (mark end) p ∷ us) → Finished ds (then ss s) us

  -- K holds once these marks have come
  abbrev After : List Mark → (List Token → Type 0) → List Token → Type 0
  After [] K us = K us
  After (m ∷ ms) K us = (vs : List Token) (q : ℕ) → us ≡ at (mark m) q ∷ vs → After ms K vs

  -- what D says of the tokens with these marks in front gives K
  abbrev Gives : List Mark → (List Token → Type 0) → (List Token → Type 0) → Type 0
  Gives [] D K = (us : List Token) → D us → K us
  Gives (m ∷ ms) D K = Gives ms (λ us. (q : ℕ) × D (at (mark m) q ∷ us)) K

  later : (ms : List Mark) (D K : List Token → Type 0) (us : List Token) → D us → Gives ms D K → After ms K us
  later [] D K us d g = g us d
  later (m ∷ ms) D K us d g = λ vs q e. later ms (λ us. (q : ℕ) × D (at (mark m) q ∷ us)) K vs (q, subst D e d) g

  abbrev Kept : State → List Token → Type 0
  Kept (want h) us = Into h us
  Kept (first g h) us = Into (group g nil h) us
  Kept (have p f e h) us = (ts : List Token) × Into h ts × Reads p f e ts us × (asks h ≤ tight f)
  Kept (naming k) us = Named k us
  Kept (seq m ms s) us = After (m ∷ ms) (Kept s) us
  Kept (opens s) us = (vs : List Token) (q : ℕ) → us ≡ at lparen q ∷ vs → Kept s vs
  Kept (params p n o) us = Named (for_param p n no_params o) us
  Kept (typing s) us = InSlot s us
  Kept (typed a s) us = (ts : List Token) × InSlot s ts × Types a ts us
  Kept (value_of n a o) us = (ts : List Token) × (i : ℕ) × InSlot (of_var n o) ts × Types a ts (at (mark assign) i ∷ us)
  Kept (returns p b) us = Into (value p b) us
  Kept (more aa b) us = (ts : List Token) × Before b ts × Ways aa ts us
  Kept (start b) us = Before b us
  Kept (inner p n m ds os) us = AtOuter (members p n m ds os) us
  Kept (done ds ss) us = Finished ds ss us

  added : {b : Body} {s : Stmt} {ts us : List Token} → Before b ts → Says s ts us → Before (add s b) us
  added (b_base f l) d = b_base f (l_more l d)
  added (b_arms b h e l) d = b_arms b h e (l_more l d)
  added (b_other b w l) d = b_other b w (l_more l d)
  added (b_loops b e l) d = b_loops b e (l_more l d)
  added (b_eachs b e l) d = b_eachs b e (l_more l d)

  joined : {o : Outer} {d : Decl} {ts us : List Token} → AtOuter o ts → Declares (where_of o) d ts us → Kept (awaits (join d o)) us
  joined (o_inside (f_main x)) d = b_base (f_main (n_more x d)) l_none
  joined (o_inside (f_locals o s a x)) d = b_base (f_locals o s a (n_more x d)) l_none
  joined (o_members c x) d = o_members c (n_more x d)

  -- the state after a token, if there is one, is kept with the rest us
  module _ (us : List Token) where
    abbrev Then : Next → Type 0
    Then none = Unit {0}
    Then (some s) = Kept s us

    or_else : (x y : Next) → Then x → Then y → Then (either x y)
    or_else none y a b = b
    or_else (some s) y a b = a

    only_if : (b : Bool) (x : Next) → (T b → Then x) → Then (only b x)
    only_if true x k = k tt
    only_if false x k = tt

    is_given : {A : Type 0} (d : Dec A) (s : State) → (A → Kept s us) → Then (given d s)
    is_given (yes a) s k = k a
    is_given (no a) s k = tt

    -- a mark: what is known of the token is known of the mark
    marks : (m : Mark) (s : ℕ → State) (t : Token) (Q : Token → Type 0) → Q t → ((p : ℕ) → Q (at (mark m) p) → Kept (s p) us) → Then (expect m s t)
    marks m s (at (name n) p) Q q k = tt
    marks m s (at (lit l) p) Q q k = tt
    marks m s (at dot p) Q q k = tt
    marks m s (at lparen p) Q q k = tt
    marks m s (at lbracket p) Q q k = tt
    marks m s (at not_word p) Q q k = tt
    marks m s (at (op o) p) Q q k = tt
    marks m s (at (mark j) p) Q q k = is_given (mark_discrete m j) (s p) (λ e. k p (subst (λ x. Q (at (mark x) p)) (sym e) q))
    marks m s (at (wrong j) p) Q q k = tt

    -- each offer is kept
    abbrev Offered : (Token → Type 0) → List Offer → Type 0
    Offered Q [] = Unit {0}
    Offered Q (on m s ∷ os) = ((p : ℕ) → Q (at (mark m) p) → Kept (s p) us) × Offered Q os
    Offered Q (when b m s ∷ os) = ((p : ℕ) → T b → Q (at (mark m) p) → Kept (s p) us) × Offered Q os

    picks : (os : List Offer) (t : Token) (Q : Token → Type 0) → Q t → Offered Q os → Then (pick os t)
    picks [] t Q q k = tt
    picks (on m s ∷ os) t Q q k = or_else (expect m s t) (pick os t) (marks m s t Q q k.0) (picks os t Q q k.1)
    picks (when b m s ∷ os) t Q q k =
        or_else (only b (expect m s t)) (pick os t) (only_if b (expect m s t) (λ c. marks m s t Q q (λ p. k.0 p c))) (picks os t Q q k.1)

    fits : (h : Hole) → asks h ≤ 8
    fits h = omega (arith, loose h)

    begins_keeps : (h : Hole) (t : Token) → Into h (t ∷ us) → Then (begins h t)
    begins_keeps h (at (name n) p) d = (_, d, r_name, fits h)
    begins_keeps h (at (lit l) p) d = (_, d, r_lit, fits h)
    begins_keeps h (at dot p) d = tt
    begins_keeps h (at lparen p) d = g_paren d
    begins_keeps h (at lbracket p) d = g_list d o_none
    begins_keeps h (at not_word p) d = only_if (leb (asks h) (reach not)) _ (λ c. g_not d (leb→le (asks h) (reach not) c))
    begins_keeps h (at (op o) p) d =
        only_if (leb (asks h) (reach neg)) (given (op_discrete minus o) (want (under p neg h)))
        (λ c. is_given (op_discrete minus o) (want (under p neg h)) (λ e. g_neg (subst (λ x. Into h (at (op x) p ∷ us)) (sym e) d) (leb→le (asks h) (reach neg) c)))
    begins_keeps h (at (mark k) p) d = tt
    begins_keeps h (at (wrong k) p) d = tt

    grows_keeps : (p : ℕ) (f : Form) (e : Expr) (h : Hole) (t : Token) {ts : List Token} → Into h ts → Reads p f e ts (t ∷ us) → Then (grows p f e h t)
    grows_keeps p f e h (at (name n) q) g d = tt
    grows_keeps p f e h (at (lit l) q) g d = tt
    grows_keeps p f e h (at dot q) g d = only_if (leb 8 (tight f)) _ (λ c. k_field g d (leb→le 8 (tight f) c))
    grows_keeps p f e h (at lparen q) g d = only_if (callable f) _ (λ c. g_call g d c o_none)
    grows_keeps p f e h (at lbracket q) g d = only_if (leb 8 (tight f)) _ (λ c. g_index g d (leb→le 8 (tight f) c))
    grows_keeps p f e h (at not_word q) g d = tt
    grows_keeps p f e h (at (op o) q) g d =
        only_if (leb (asks h) (level (rank o))) _ (λ a. only_if (leb (left (rank o)) (tight f)) _
        (λ l. g_rhs g d (leb→le (left (rank o)) (tight f) l) (leb→le (asks h) (level (rank o)) a)))
    grows_keeps p f e h (at (mark k) q) g d = tt
    grows_keeps p f e h (at (wrong k) q) g d = tt

    bare : {fr : Frame} {n : Text} {p : ℕ} {e : Expr} {ts vs : List Token} → AtFrame fr ts → Reads p (named n) e ts vs → AtOuter (inside fr) (at (name n) p ∷ vs)
    bare g r_name = o_inside g

    declared_keeps : (fr : Frame) (p : ℕ) (f : Form) (e : Expr) {ts : List Token} → AtFrame fr ts → Offered (λ t. Reads p f e ts (t ∷ us)) (declared fr p f)
    declared_keeps fr p (named n) e g = ((λ q d. l_var (bare g d)), tt)
    declared_keeps fr p member e g = tt
    declared_keeps fr p indexed e g = tt
    declared_keeps fr p closed e g = tt
    declared_keeps fr p (binary r) e g = tt
    declared_keeps fr p (prefix q) e g = tt

    vars_keeps : (es : Exprs) (b : Body) (p : ℕ) (f : Form) (e : Expr) {ws ts : List Token} → Before b ws → Targets es ws ts
        → Offered (λ t. Reads p f e ts (t ∷ us)) (vars es b p f)
    vars_keeps nil (base fr empty) p f e (b_base g l_none) t_none = declared_keeps fr p f e g
    vars_keeps nil (base fr (then ss s)) p f e g x = tt
    vars_keeps nil (arms aa q y ss b) p f e g x = tt
    vars_keeps nil (other aa ss b) p f e g x = tt
    vars_keeps nil (loops q y ss b) p f e g x = tt
    vars_keeps nil (eachs q n y ss b) p f e g x = tt
    vars_keeps (snoc es y) b p f e g x = tt

    leaves_keeps : {h : Hole} {ts : List Token} → Into h ts → (p : ℕ) (f : Form) (e : Expr) (t : Token) → Reads p f e ts (t ∷ us) → asks h ≤ tight f → Then (leaves h p f e t)
    leaves_keeps {ts = ts} (g_line {b = b} {es = es} {p = i} g x) p f e t d l =
        picks (on newline (λ q. start (add (assigns i es e) b)) ∷ when (target f) assign (λ q. want (line i (snoc es e) b)) ∷ vars es b p f) t
        (λ t. Reads p f e ts (t ∷ us)) d ((λ q d. added g (s_line x d)), ((λ q c d. g_line g (t_more x d c)), vars_keeps es b p f e g x))
    leaves_keeps {ts = ts} (g_value {b = b} {p = i} g) p f e t d l =
        picks (on newline (λ q. start (add (ret i e) b)) ∷ []) t (λ t. Reads p f e ts (t ∷ us)) d ((λ q d. added g (s_return d)), tt)
    leaves_keeps {ts = ts} (g_arm {b = b} {aa = aa} {p = i} g h) p f e t d l =
        picks (on colon (λ q. block_of (arms aa i e empty b)) ∷ []) t (λ t. Reads p f e ts (t ∷ us)) d
        ((λ q d. later (newline ∷ indent ∷ []) (λ vs. Reads p f e ts (at (mark colon) q ∷ vs)) (Before (arms aa i e empty b)) us d (λ vs d. b_arms g h d.1.1 l_none)), tt)
    leaves_keeps {ts = ts} (g_loop {b = b} {p = i} g) p f e t d l =
        picks (on colon (λ q. block_of (loops i e empty b)) ∷ []) t (λ t. Reads p f e ts (t ∷ us)) d
        ((λ q d. later (newline ∷ indent ∷ []) (λ vs. Reads p f e ts (at (mark colon) q ∷ vs)) (Before (loops i e empty b)) us d (λ vs d. b_loops g d.1.1 l_none)), tt)
    leaves_keeps {ts = ts} (g_each {b = b} {n = n} {p = i} g) p f e t d l =
        picks (on colon (λ q. block_of (eachs i n e empty b)) ∷ []) t (λ t. Reads p f e ts (t ∷ us)) d
        ((λ q d. later (newline ∷ indent ∷ []) (λ vs. Reads p f e ts (at (mark colon) q ∷ vs)) (Before (eachs i n e empty b)) us d (λ vs d. b_eachs g d.1.1 l_none)), tt)
    leaves_keeps (g_rhs {h = h} {o = o} {a = a} {p = i} g x k m) p f e t d l =
        let y : Expr = bin i o a e in
        or_else (grows i (binary (rank o)) y h t) (leaves h i (binary (rank o)) y t)
        (grows_keeps i (binary (rank o)) y h t g (r_binary x k d l)) (leaves_keeps g i (binary (rank o)) y t (r_binary x k d l) m)
    leaves_keeps (g_not {h = h} {p = i} g m) p f e t d l =
        let y : Expr = pre i not e in
        or_else (grows i (prefix not) y h t) (leaves h i (prefix not) y t)
        (grows_keeps i (prefix not) y h t g (r_not d l)) (leaves_keeps g i (prefix not) y t (r_not d l) m)
    leaves_keeps (g_neg {h = h} {p = i} g m) p f e t d l =
        let y : Expr = pre i neg e in
        or_else (grows i (prefix neg) y h t) (leaves h i (prefix neg) y t)
        (grows_keeps i (prefix neg) y h t g (r_neg d l)) (leaves_keeps g i (prefix neg) y t (r_neg d l) m)
    leaves_keeps {ts = ts} (g_paren {h = h} {p = i} g) p f e t d l =
        picks (on rparen (λ q. have i closed e h) ∷ []) t (λ t. Reads p f e ts (t ∷ us)) d ((λ q d. (_, g, r_paren d, fits h)), tt)
    leaves_keeps {ts = ts} (g_index {h = h} {a = a} {p = i} g x k) p f e t d l =
        picks (on rbracket (λ q. have i indexed (idx i a e) h) ∷ []) t (λ t. Reads p f e ts (t ∷ us)) d ((λ q d. (_, g, r_index x k d, fits h)), tt)
    leaves_keeps {ts = ts} (g_call {h = h} {a = a} {es = es} {p = i} g x c y) p f e t d l =
        picks (on comma (λ q. want (group (of_call i a) (snoc es e) h)) ∷ on rparen (λ q. have i closed (call i a (snoc es e)) h) ∷ []) t (λ t. Reads p f e ts (t ∷ us)) d
        ((λ q d. g_call g x c (o_more (one_more y d))), ((λ q d. (_, g, r_call x c (one_more y d), fits h)), tt))
    leaves_keeps {ts = ts} (g_list {h = h} {es = es} {p = i} g y) p f e t d l =
        picks (on comma (λ q. want (group (of_list i) (snoc es e) h)) ∷ on rbracket (λ q. have i closed (list i (snoc es e)) h) ∷ []) t (λ t. Reads p f e ts (t ∷ us)) d
        ((λ q d. g_list g (o_more (one_more y d))), ((λ q d. (_, g, r_list (one_more y d), fits h)), tt))

    -- A name, a literal, a `(`: what is known of the token is known of it.
    names_keeps : (s : ℕ → Text → State) (t : Token) (Q : Token → Type 0) → Q t → ((p : ℕ) (n : Text) → Q (at (name n) p) → Kept (s p n) us) → Then (names s t)
    names_keeps s (at (name n) p) Q q k = k p n q
    names_keeps s (at (lit l) p) Q q k = tt
    names_keeps s (at dot p) Q q k = tt
    names_keeps s (at lparen p) Q q k = tt
    names_keeps s (at lbracket p) Q q k = tt
    names_keeps s (at not_word p) Q q k = tt
    names_keeps s (at (op o) p) Q q k = tt
    names_keeps s (at (mark m) p) Q q k = tt
    names_keeps s (at (wrong m) p) Q q k = tt

    literals_keeps : (s : ℕ → Literal → State) (t : Token) (Q : Token → Type 0) → Q t → ((p : ℕ) (l : Literal) → Q (at (lit l) p) → Kept (s p l) us) → Then (literals s t)
    literals_keeps s (at (name n) p) Q q k = tt
    literals_keeps s (at (lit l) p) Q q k = k p l q
    literals_keeps s (at dot p) Q q k = tt
    literals_keeps s (at lparen p) Q q k = tt
    literals_keeps s (at lbracket p) Q q k = tt
    literals_keeps s (at not_word p) Q q k = tt
    literals_keeps s (at (op o) p) Q q k = tt
    literals_keeps s (at (mark m) p) Q q k = tt
    literals_keeps s (at (wrong m) p) Q q k = tt

    parens_keeps : (s : State) (t : Token) → Kept (opens s) (t ∷ us) → Then (parens s t)
    parens_keeps s (at (name n) p) d = tt
    parens_keeps s (at (lit l) p) d = tt
    parens_keeps s (at dot p) d = tt
    parens_keeps s (at lparen p) d = d us p refl
    parens_keeps s (at lbracket p) d = tt
    parens_keeps s (at not_word p) d = tt
    parens_keeps s (at (op o) p) d = tt
    parens_keeps s (at (mark m) p) d = tt
    parens_keeps s (at (wrong m) p) d = tt

    calls_keeps : (k : Naming) (q : ℕ) (m : Text) → Named k (at (name m) q ∷ us) → Kept (calls k q m) us
    calls_keeps (field p e h) q m (k_field g d l) = (_, g, r_member d l, fits h)
    calls_keeps (for_def p o) q m (k_def g) = λ vs r e. k_param (subst (λ x. AtOuter o (at (mark def) p ∷ at (name m) q ∷ x)) e g) v_none
    calls_keeps (for_class p ds) q m (k_class x) = λ vs r e. k_super (subst (λ y. Defs in_program ds ts₀ (at (mark class) p ∷ at (name m) q ∷ y)) e x)
    calls_keeps (for_super p (id i n) ds) q m (k_super {j = j} x) =
        later (rparen ∷ colon ∷ newline ∷ indent ∷ []) (λ vs. Defs in_program ds ts₀ (at (mark class) p ∷ at (name n) i ∷ at lparen j ∷ at (name m) q ∷ vs))
        (AtOuter (members p (id i n) (id q m) no_decls ds)) us x (λ vs d. o_members d.1.1.1.1 n_none)
    calls_keeps (for_param p n ps o) q m (k_param {ts = ts} g v) =
        later (colon ∷ []) (λ vs. Given ps ts (at (name m) q ∷ vs)) (InSlot (of_param p n ps (id q m) o)) us v (λ vs d. l_param g d.1)
    calls_keeps (for_global p o) q m (k_global g c) =
        later (newline ∷ []) (λ vs. AtOuter o (at (mark global) p ∷ at (name m) q ∷ vs)) (Kept (awaits (join (a_global p (id q m)) o))) us g (λ vs d. joined d.1 (d_global c))
    calls_keeps (for_nonlocal p o) q m (k_nonlocal g c) =
        later (newline ∷ []) (λ vs. AtOuter o (at (mark nonlocal) p ∷ at (name m) q ∷ vs)) (Kept (awaits (join (a_nonlocal p (id q m)) o))) us g (λ vs d. joined d.1 (d_nonlocal c))
    calls_keeps (for_each p b) q m (k_each g) =
        later (within ∷ []) (λ vs. Before b (at (mark for) p ∷ at (name m) q ∷ vs)) (Into (each_of p m b)) us g (λ vs d. g_each d.1)

    quotes_keeps : (l : Literal) (p : ℕ) (s : Slot) → InSlot s (at (lit l) p ∷ us) → Then (quotes l p s)
    quotes_keeps lit_none p s d = tt
    quotes_keeps lit_true p s d = tt
    quotes_keeps lit_false p s d = tt
    quotes_keeps (int n) p s d = tt
    quotes_keeps (text n) p s d = (_, d, y_text)

    types_keeps : (s : Slot) (t : Token) → InSlot s (t ∷ us) → Then (types s t)
    types_keeps s (at (name n) p) d = (_, d, y_name)
    types_keeps s (at (lit l) p) d = quotes_keeps l p s d
    types_keeps s (at dot p) d = tt
    types_keeps s (at lparen p) d = tt
    types_keeps s (at lbracket p) d = l_item d
    types_keeps s (at not_word p) d = tt
    types_keeps s (at (op o) p) d = tt
    types_keeps s (at (mark m) p) d = tt
    types_keeps s (at (wrong m) p) d = tt

    ends_type_keeps : (s : Slot) (a : Ann) {ts : List Token} → InSlot s ts → Offered (λ t. Types a ts (t ∷ us)) (ends_type s a)
    ends_type_keeps (of_var n o) a g = ((λ q d. (_, q, g, d)), tt)
    ends_type_keeps (of_param p n ps m o) a (l_param {ts = ts} g v) = (
      (λ i d. k_param g (v_more (one_param v d))),
      ((λ i d. later (arrow ∷ []) (λ vs. Sig (param ps m a) ts vs) (InSlot (of_result p n (param ps m a) o)) us (g_some (one_param v d)) (λ vs d. l_result g d.1)), tt),
    )
    ends_type_keeps (of_result p n ps o) a {ts} (l_result g s) = (
      (λ q d. later (newline ∷ indent ∷ []) (λ vs. Types a ts (at (mark colon) q ∷ vs)) (Before (base (locals p n ps a no_decls o) empty)) us d
          (λ vs d. b_base (f_locals g s d.1.1 n_none) l_none)),
      tt,
    )
    ends_type_keeps (of_item p s) a (l_item g) = ((λ q d. (_, g, y_list d)), tt)

    outer : {fr : Frame} {ts : List Token} → Before (base fr empty) ts → AtOuter (inside fr) ts
    outer (b_base g l_none) = o_inside g

    defs_of : {ds : Decls} {ts : List Token} → Before (base (main ds) empty) ts → Defs in_program ds ts₀ ts
    defs_of (b_base (f_main x) l_none) = x

    decls_keeps : (b : Body) → Offered (λ t. Before b (t ∷ us)) (decls b)
    decls_keeps (base (main ds) empty) = ((λ p d. k_def (outer d)), ((λ p d. k_class (defs_of d)), tt))
    decls_keeps (base (locals i n ps a ds o) empty) =
        ((λ p d. k_def (outer d)), ((λ p d. k_global (outer d) tt), ((λ p d. k_nonlocal (outer d) tt), tt)))
    decls_keeps (base fr (then ss s)) = tt
    decls_keeps (arms aa p e ss b) = tt
    decls_keeps (other aa ss b) = tt
    decls_keeps (loops p e ss b) = tt
    decls_keeps (eachs p n e ss b) = tt

    -- What the end of a block leads to.
    main_ends : {ds : Decls} {ss : Stmts} {s : Stmt} {q : ℕ} → Before (base (main ds) (then ss s)) (at (mark end) q ∷ us) → Finished ds (then ss s) us
    main_ends (b_base (f_main x) l) = e_done x l

    func_ends : {o : Outer} {ps : Params} {a : Ann} {ds : Decls} {ss : Stmts} {s : Stmt} {n : Id} {p q : ℕ}
        → Before (base (locals p n ps a ds o) (then ss s)) (at (mark dedent) q ∷ us) → Kept (awaits (join (a_func p n ps a ds (then ss s)) o)) us
    func_ends (b_base (f_locals g s a x) l) = joined g (d_func s a x l)

    arm_ends : {b : Body} {aa : Arms} {e : Expr} {ss : Stmts} {s : Stmt} {p q : ℕ}
        → Before (arms aa p e (then ss s) b) (at (mark dedent) q ∷ us) → Kept (more (arm aa p e (then ss s)) b) us
    arm_ends (b_arms g h d l) = (_, g, one_arm h d (block l))

    other_ends : {b : Body} {aa : Arms} {ss : Stmts} {s : Stmt} {q : ℕ}
        → Before (other aa (then ss s) b) (at (mark dedent) q ∷ us) → Before (add (choose aa (then ss s)) b) us
    other_ends (b_other g w l) = added g (s_else w (block l))

    loop_ends : {b : Body} {e : Expr} {ss : Stmts} {s : Stmt} {p q : ℕ}
        → Before (loops p e (then ss s) b) (at (mark dedent) q ∷ us) → Before (add (loop p e (then ss s)) b) us
    loop_ends (b_loops g d l) = added g (s_while d (block l))

    each_ends : {b : Body} {e : Expr} {ss : Stmts} {s : Stmt} {n : Text} {p q : ℕ}
        → Before (eachs p n e (then ss s) b) (at (mark dedent) q ∷ us) → Before (add (each p n e (then ss s)) b) us
    each_ends (b_eachs g d l) = added g (s_for d (block l))

    ends_keeps : (b : Body) → Offered (λ t. Before b (t ∷ us)) (ends b)
    ends_keeps (base fr empty) = tt
    ends_keeps (base (main ds) (then ss s)) = ((λ q d. main_ends d), tt)
    ends_keeps (base (locals p n ps a ds o) (then ss s)) = ((λ q d. func_ends d), tt)
    ends_keeps (arms aa p e empty b) = tt
    ends_keeps (arms aa p e (then ss s) b) = ((λ q d. arm_ends d), tt)
    ends_keeps (other aa empty b) = tt
    ends_keeps (other aa (then ss s) b) = ((λ q d. other_ends d), tt)
    ends_keeps (loops p e empty b) = tt
    ends_keeps (loops p e (then ss s) b) = ((λ q d. loop_ends d), tt)
    ends_keeps (eachs p n e empty b) = tt
    ends_keeps (eachs p n e (then ss s) b) = ((λ q d. each_ends d), tt)

    returned : {b : Body} {p q : ℕ} → Into (value p b) (at (mark newline) q ∷ us) → Before (add (ret₀ p) b) us
    returned (g_value g) = added g s_return₀

    stmts_keeps : (b : Body) → Offered (λ t. Before b (t ∷ us)) (stmts b)
    stmts_keeps b = (
      (λ p d. later (newline ∷ []) (λ vs. Before b (at (mark pass) p ∷ vs)) (Before (add (skip p) b)) us d (λ vs d. added d.1 s_pass)),
      ((λ p d. g_value d), ((λ p d. g_arm d h_if), ((λ p d. g_loop d), ((λ p d. k_each d), tt)))),
    )

    starts_keeps : (b : Body) (t : Token) → Before b (t ∷ us) → Then (starts b t)
    starts_keeps b (at k p) d =
        let t : Token = at k p in
        or_else (pick (stmts b) t) (either (pick (decls b) t) (either (pick (ends b) t) (begins (line p nil b) t)))
        (picks (stmts b) t (λ t. Before b (t ∷ us)) d (stmts_keeps b))
        (or_else (pick (decls b) t) (either (pick (ends b) t) (begins (line p nil b) t)) (picks (decls b) t (λ t. Before b (t ∷ us)) d (decls_keeps b))
        (or_else (pick (ends b) t) (begins (line p nil b) t) (picks (ends b) t (λ t. Before b (t ∷ us)) d (ends_keeps b)) (begins_keeps (line p nil b) t (g_line d t_none))))

    no_items : (g : Group) {h : Hole} (p : ℕ) → Into (group g nil h) (at (mark (closer g)) p ∷ us) → Kept (have (from g) closed (build g nil) h) us
    no_items (of_call p a) {h} q (g_call g x c o_none) = (_, g, r_call₀ x c, fits h)
    no_items (of_list p) {h} q (g_list g o_none) = (_, g, r_list₀, fits h)

    no_param : {n : Id} {p q : ℕ} {o : Outer} → Named (for_param p n no_params o) (at (mark rparen) q ∷ us) → Kept (seq arrow [] (typing (of_result p n no_params o))) us
    no_param {p = p} {q = q} {o = o} (k_param {n = n} {i = i} {j = j} g v_none) =
        later (arrow ∷ []) (λ vs. AtOuter o (at (mark def) p ∷ at (name n) i ∷ at lparen j ∷ at (mark rparen) q ∷ vs)) (InSlot (of_result p (id i n) no_params o)) us g
        (λ vs d. l_result d.1 g_none)

    valued : {o : Outer} {n : Id} {q i j : ℕ} {a : Ann} {l : Literal} {ts vs : List Token} → InSlot (of_var n o) ts
        → Types a ts (at (mark assign) i ∷ at (lit l) q ∷ at (mark newline) j ∷ vs) → Kept (awaits (join (a_var n a q l) o)) vs
    valued (l_var g) d = joined g (d_var d)

    class_ends : {ds os : Decls} {n m : Id} {p i : ℕ} → AtOuter (members p n m ds os) (at (mark dedent) i ∷ us) → Before (base (main (decl os (a_class p n m ds))) empty) us
    class_ends (o_members c x) = b_base (f_main (n_more c (d_class tt x))) l_none

    due_kept : (ms : List Mark) (s : State) → After ms (Kept s) us → Kept (due ms s) us
    due_kept [] s k = k
    due_kept (m ∷ ms) s k = k

    keeps : (s : State) (t : Token) → Kept s (t ∷ us) → Then (step s t)
    keeps (want h) t d = begins_keeps h t d
    keeps (first g h) t d =
        or_else (pick (on (closer g) (λ q. have (from g) closed (build g nil) h) ∷ []) t) (begins (group g nil h) t)
        (picks (on (closer g) (λ q. have (from g) closed (build g nil) h) ∷ []) t (λ t. Into (group g nil h) (t ∷ us)) d (no_items g, tt)) (begins_keeps (group g nil h) t d)
    keeps (have p f e h) t d =
        or_else (grows p f e h t) (leaves h p f e t) (grows_keeps p f e h t d.1 d.2) (leaves_keeps d.1 p f e t d.2 d.3)
    keeps (naming k) t d = names_keeps (calls k) t (λ t. Named k (t ∷ us)) d (calls_keeps k)
    keeps (seq m ms s) t d = marks m (λ q. due ms s) t (λ t. Kept (seq m ms s) (t ∷ us)) d (λ q k. due_kept ms s (k us q refl))
    keeps (opens s) t d = parens_keeps s t d
    keeps (params p n o) t d =
        let rest : List Offer = on rparen (λ q. seq arrow [] (typing (of_result p n no_params o))) ∷ [] in
        or_else (names (calls (for_param p n no_params o)) t) (pick rest t)
        (names_keeps (calls (for_param p n no_params o)) t (λ t. Named (for_param p n no_params o) (t ∷ us)) d (calls_keeps (for_param p n no_params o)))
        (picks rest t (λ t. Named (for_param p n no_params o) (t ∷ us)) d ((λ q d. no_param d), tt))
    keeps (typing s) t d = types_keeps s t d
    keeps (typed a s) t d = picks (ends_type s a) t (λ t. Types a d.0 (t ∷ us)) d.2 (ends_type_keeps s a d.1)
    keeps (value_of n a o) t d =
        literals_keeps (λ q l. seq newline [] (awaits (join (a_var n a q l) o))) t (λ t. Types a d.0 (at (mark assign) d.1 ∷ t ∷ us)) d.3
        (λ q l y. later (newline ∷ []) (λ vs. Types a d.0 (at (mark assign) d.1 ∷ at (lit l) q ∷ vs)) (Kept (awaits (join (a_var n a q l) o))) us y (λ vs y. valued d.2 y.1))
    keeps (returns p b) t d =
        let rest : List Offer = on newline (λ q. start (add (ret₀ p) b)) ∷ [] in
        or_else (pick rest t) (begins (value p b) t) (picks rest t (λ t. Into (value p b) (t ∷ us)) d ((λ q d. returned d), tt)) (begins_keeps (value p b) t d)
    keeps (more aa b) t d =
        or_else (pick (branches aa b) t) (starts (add (choose aa empty) b) t)
        (picks (branches aa b) t (λ t. Ways aa d.0 (t ∷ us)) d.2 (
          (λ p w. g_arm d.1 (h_elif w)),
          ((λ p w. later (colon ∷ newline ∷ indent ∷ []) (λ vs. Ways aa d.0 (at (mark else) p ∷ vs)) (Before (other aa empty b)) us w (λ vs x. b_other d.1 x.1.1.1 l_none)), tt),
        ))
        (starts_keeps (add (choose aa empty) b) t (added d.1 (s_if d.2)))
    keeps (start b) t d = starts_keeps b t d
    keeps (inner p n m ds os) t d =
        or_else (pick (member_marks p n m ds os) t) (names (λ i x. seq colon [] (typing (of_var (id i x) (members p n m ds os)))) t)
        (picks (member_marks p n m ds os) t (λ t. AtOuter (members p n m ds os) (t ∷ us)) d ((λ i d. k_def d), ((λ i d. class_ends d), tt)))
        (names_keeps (λ i x. seq colon [] (typing (of_var (id i x) (members p n m ds os)))) t (λ t. AtOuter (members p n m ds os) (t ∷ us)) d
        (λ i x d. later (colon ∷ []) (λ vs. AtOuter (members p n m ds os) (at (name x) i ∷ vs)) (InSlot (of_var (id i x) (members p n m ds os))) us d (λ vs d. l_var d.1)))
    keeps (done ds ss) t d = tt

  finished : {ds : Decls} {ss : Stmts} → Finished ds ss [] → Program ds ss ts₀
  finished (e_done x l) = whole x l

  abbrev Accepts : Outcome → Type 0
  Accepts (accepted ds ss) = Program ds ss ts₀
  Accepts (refused t ts) = Unit {0}
  Accepts short = Unit {0}

  at_end : (s : State) → Kept s [] → Accepts (stops s)
  at_end (want h) d = tt
  at_end (first g h) d = tt
  at_end (have p f e h) d = tt
  at_end (naming k) d = tt
  at_end (seq m ms s) d = tt
  at_end (opens s) d = tt
  at_end (params p n o) d = tt
  at_end (typing s) d = tt
  at_end (typed a s) d = tt
  at_end (value_of n a o) d = tt
  at_end (returns p b) d = tt
  at_end (more aa b) d = tt
  at_end (start b) d = tt
  at_end (inner p n m ds os) d = tt
  at_end (done ds ss) d = finished d

  after : (t : Token) (ts : List Token) (x : Next) → Then ts x → ((s : State) → Kept s ts → Accepts (run ts s)) → Accepts (goes (run ts) t ts x)
  after t ts none d k = tt
  after t ts (some s) d k = k s d

  runs : (ts : List Token) (s : State) → Kept s ts → Accepts (run ts s)
  runs [] s d = at_end s d
  runs (t ∷ ts) s d = after t ts (step s t) (keeps ts s t d) (runs ts)

pub sound : Sound
sound ts ds ss e = subst (Accepts ts) e (runs ts ts begin (b_base (f_main n_none) l_none))
