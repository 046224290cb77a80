-- What the grammar says, the reader reads, and the labels that it sees are those of the derivation.
use Rattle.std.proofs.Common.{◌≡◌, ℕ, suc, pred, ◌<◌, ◌≤◌, Bool, true, false, T, leb, List, [], ◌∷◌, sym, refl, ap, ◌∙◌, subst, zero-le, arith, lit≤, le→leb, leb→le}
use mathlib.Core.Option.{none, some}
use Rattle.grammar.specs.Tree.{Text, Op, Pre, Mark, Token, Id, Expr, Exprs, Ann, Params, Stmt, Stmts, Arms, Decl, Decls, Rank, Form, Where, place, rank, level, left, reach, tight, callable, target}
use Rattle.grammar.specs.Tree.{program?, function?, mark_discrete, minus, not, neg, rparen, assign, colon, arrow, newline, indent, dedent, class, def, global, nonlocal, elif, else, name, lit, dot}
use Rattle.grammar.specs.Tree.{lparen, lbracket, not_word, op, mark, wrong, at, id, bin, pre, nil, snoc, no_params, param, ret₀, choose, loop, each, empty, then, no_arms, arm, a_class, a_global}
use Rattle.grammar.specs.Tree.{a_nonlocal, no_decls, decl, disjunction, conjunction, comparison, sum, product, named, member, indexed, closed, binary, prefix}
use Rattle.grammar.specs.Grammar.{Reads, Items, Targets, Says, Ways, Block, Lines, Types, Takes, Sig, Declares, Defs, Program, r_name, r_lit, r_paren, r_list₀, r_list, r_member, r_index, r_call₀, r_call}
use Rattle.grammar.specs.Grammar.{r_binary, r_not, r_neg, i_one, i_more, t_none, t_more, s_pass, s_return₀, s_return, s_line, s_if, s_else, s_while, s_for, w_if, w_elif, block, l_none, l_more, y_name}
use Rattle.grammar.specs.Grammar.{y_text, y_list, p_one, p_more, g_none, g_some, d_var, d_func, d_class, d_global, d_nonlocal, n_none, n_more, whole}
use Rattle.grammar.specs.Reader.{Outer, Body, Group, Hole, Slot, State, Next, Offer, main, locals, inside, members, base, arms, other, loops, eachs, of_call, of_list, line, value, arm_test, loop_test}
use Rattle.grammar.specs.Reader.{each_of, rhs, under, paren, index, group, of_var, of_param, of_result, of_item, field, want, first, have, naming, seq, params, typing, typed, returns, more, start, inner}
use Rattle.grammar.specs.Reader.{add, join, awaits, where_of, asks, either, expect, on, when, pick, closer, from, build, begins, grows, block_of, leaves, decls, ends, stmts, starts, step, accepted, short}
use Rattle.grammar.specs.Reader.{stops, goes, run, begin}
use Rattle.grammar.specs.Profile.{Label, plain, opening, nested, expr_labels, item_labels, target_labels, stmt_labels, arm_labels, block_labels, line_labels, type_labels, param_labels, sig_labels, heading}
use Rattle.grammar.specs.Profile.{decl_labels, def_labels, profile}
use Rattle.grammar.specs.Limits.{frame_depth, outer_depth, body_depth, hole_depth, slot_depth, label, no_label, operand, is_it, declaring, heads, sees, Trail, moves, trail}
use Rattle.grammar.specs.Theorems.{Complete}

-- labels that come before those of a trail
abbrev over : (List Label → List Label) → Trail → Trail
over f w = (f w.0, w.1)

abbrev put : Label → Trail → Trail
put l w = (l ∷ w.0, w.1)

-- how tight the operator is that a token may be
abbrev power : Token → ℕ
power (at (name n) p) = 0
power (at (lit l) p) = 0
power (at dot p) = 8
power (at lparen p) = 8
power (at lbracket p) = 8
power (at not_word p) = 0
power (at (op o) p) = level (rank o)
power (at (mark k) p) = 0
power (at (wrong k) p) = 0

abbrev ahead : List Token → ℕ
ahead [] = 0
ahead (t ∷ ts) = power t

pub so : (b : Bool) → T b → b ≡ true
so true t = refl
so false t = absurd t

pub nor : (b : Bool) → (T b → ⊥) → b ≡ false
nor true t = absurd (t tt)
nor false t = refl

pub at_most : {m n : ℕ} → m ≤ n → leb m n ≡ true
at_most {m} {n} l = so (leb m n) (le→leb m n l)

-- The facts of the table.
low : (r : Rank) → level r ≤ 6
low disjunction = lit≤ tt
low conjunction = lit≤ tt
low comparison = lit≤ tt
low sum = lit≤ tt
low product = lit≤ tt

tighter : (r : Rank) → level r ≤ left r
tighter disjunction = lit≤ tt
tighter conjunction = lit≤ tt
tighter comparison = lit≤ tt
tighter sum = lit≤ tt
tighter product = lit≤ tt

between : (q : Pre) → (0 < reach q) × (reach q ≤ 7)
between not = omega arith
between neg = omega arith

-- no operator between two operands stands on the level of one before
apart : (r : Rank) (q : Pre) → level r ≡ reach q → ⊥
apart disjunction not e = omega arith
apart conjunction not e = omega arith
apart comparison not e = omega arith
apart sum not e = omega arith
apart product not e = omega arith
apart disjunction neg e = omega arith
apart conjunction neg e = omega arith
apart comparison neg e = omega arith
apart sum neg e = omega arith
apart product neg e = omega arith

pub loose : (h : Hole) → asks h ≤ 7
loose (line p es b) = zero-le
loose (value p b) = zero-le
loose (arm_test aa p b) = zero-le
loose (loop_test p b) = zero-le
loose (each_of p n b) = zero-le
loose (rhs p o a h) = omega (arith, low (rank o))
loose (under p q h) = (between q).1
loose (paren p h) = zero-le
loose (index p a h) = zero-le
loose (group g es h) = zero-le

tall : (f : Form) → T (callable f) → 8 ≤ tight f
tall (named n) c = lit≤ tt
tall member c = lit≤ tt
tall indexed c = absurd c
tall closed c = absurd c
tall (binary r) c = absurd c
tall (prefix q) c = absurd c

off : (q : Pre) (t : Token) → power t ≡ reach q → ⊥
off q (at (name n) p) e = omega (arith, between q)
off q (at (lit l) p) e = omega (arith, between q)
off q (at dot p) e = omega (arith, between q)
off q (at lparen p) e = omega (arith, between q)
off q (at lbracket p) e = omega (arith, between q)
off q (at not_word p) e = omega (arith, between q)
off q (at (op o) p) e = apart (rank o) q e
off q (at (mark k) p) e = omega (arith, between q)
off q (at (wrong k) p) e = omega (arith, between q)

strict : (q : Pre) (ts : List Token) → ahead ts ≤ reach q → ahead ts < reach q
strict q [] l = (between q).0
strict q (t ∷ ts) l = omega (arith, off q t)

-- a token that is too loose does not go on with what stands in the hole
barred : (i : ℕ) (f : Form) (e : Expr) (h : Hole) (t : Token) → power t < asks h → grows i f e h t ≡ none
barred i f e h (at (name n) p) l = refl
barred i f e h (at (lit k) p) l = refl
barred i f e h (at dot p) l = absurd (omega (arith, loose h))
barred i f e h (at lparen p) l = absurd (omega (arith, loose h))
barred i f e h (at lbracket p) l = absurd (omega (arith, loose h))
barred i f e h (at not_word p) l = refl
barred i f e h (at (op o) p) l = rw (nor (leb (asks h) (level (rank o))) (λ t. omega (arith, leb→le (asks h) (level (rank o)) t)))
barred i f e h (at (mark k) p) l = refl
barred i f e h (at (wrong k) p) l = refl

-- What stands in the hole goes on.
dots : (i : ℕ) (f : Form) (e : Expr) (h : Hole) (p : ℕ) (ts : List Token) → 8 ≤ tight f
    → trail (at dot p ∷ ts) (have i f e h) ≡ put plain (trail ts (naming (field i e h)))
dots i f e h p ts l = rw (at_most l)

subs : (i : ℕ) (f : Form) (e : Expr) (h : Hole) (p : ℕ) (ts : List Token) → 8 ≤ tight f
    → trail (at lbracket p ∷ ts) (have i f e h) ≡ put (opening (hole_depth h)) (trail ts (want (index i e h)))
subs i f e h p ts l = rw (at_most l)

pars : (i : ℕ) (f : Form) (e : Expr) (h : Hole) (p : ℕ) (ts : List Token) → T (callable f)
    → trail (at lparen p ∷ ts) (have i f e h) ≡ put (opening (hole_depth h)) (trail ts (first (of_call i e) h))
pars i f e h p ts c = rw (so (callable f) c)

joins : (i : ℕ) (f : Form) (e : Expr) (h : Hole) (o : Op) (p : ℕ) (ts : List Token) → asks h ≤ level (rank o) → left (rank o) ≤ tight f
    → trail (at (op o) p ∷ ts) (have i f e h) ≡ put plain (trail ts (want (rhs i o e h)))
joins i f e h o p ts a l = rw (at_most a, at_most l)

nots : (h : Hole) (p : ℕ) (ts : List Token) → asks h ≤ reach not
    → trail (at not_word p ∷ ts) (want h) ≡ put (opening (hole_depth h)) (trail ts (want (under p not h)))
nots h p ts a = rw (at_most a)

negs : (h : Hole) (p : ℕ) (ts : List Token) → asks h ≤ reach neg
    → trail (at (op minus) p ∷ ts) (want h) ≡ put (opening (hole_depth h)) (trail ts (want (under p neg h)))
negs h p ts a = rw (at_most a)

assigned : (i j : ℕ) (f : Form) (e : Expr) (es : Exprs) (b : Body) (p : ℕ) (ts : List Token) → T (target f)
    → trail (at (mark assign) p ∷ ts) (have i f e (line j es b)) ≡ put plain (trail ts (want (line j (snoc es e) b)))
assigned i j f e es b p ts c = rw (so (target f) c)

-- a token that is no bracket has the same label at any depth
shallow : (m n : ℕ) (t : Token) → power t < 8 → label m plain no_label t ≡ label n plain no_label t
shallow m n (at (name x) p) l = refl
shallow m n (at (lit x) p) l = refl
shallow m n (at dot p) l = refl
shallow m n (at lparen p) l = absurd (omega arith)
shallow m n (at lbracket p) l = absurd (omega arith)
shallow m n (at not_word p) l = refl
shallow m n (at (op o) p) l = refl
shallow m n (at (mark k) p) l = refl
shallow m n (at (wrong k) p) l = refl

-- or it is complete
shut : (i : ℕ) (f : Form) (e : Expr) (h : Hole) (ts : List Token) (k : State) → stops k ≡ short
    → ((t : Token) → leaves h i f e t ≡ step k t) → ((t : Token) → power t < 8 → sees (have i f e h) t ≡ sees k t)
    → ahead ts < asks h → trail ts (have i f e h) ≡ trail ts k
shut i f e h [] k z l v a = sym (ap (λ o. ([], o)) z)
shut i f e h (t ∷ ts) k z l v a =
    ap (λ x. moves (trail ts) (sees (have i f e h) t) t ts (either x (leaves h i f e t))) (barred i f e h t a)
    ∙ (λ j. moves (trail ts) (v t (omega (arith, loose h)) j) t ts (l t j))

-- A list that begins with no mark.
abbrev NoMark : Token → Type 0
NoMark (at (name n) p) = Unit {0}
NoMark (at (lit l) p) = Unit {0}
NoMark (at dot p) = Unit {0}
NoMark (at lparen p) = Unit {0}
NoMark (at lbracket p) = Unit {0}
NoMark (at not_word p) = Unit {0}
NoMark (at (op o) p) = Unit {0}
NoMark (at (mark k) p) = ⊥
NoMark (at (wrong k) p) = Unit {0}

abbrev Opens : List Token → Type 0
Opens [] = ⊥
Opens (t ∷ ts) = NoMark t

no_mark : (t : Token) → NoMark t → (m : Mark) (s : ℕ → State) → expect m s t ≡ none
no_mark (at (name n) p) o m s = refl
no_mark (at (lit l) p) o m s = refl
no_mark (at dot p) o m s = refl
no_mark (at lparen p) o m s = refl
no_mark (at lbracket p) o m s = refl
no_mark (at not_word p) o m s = refl
no_mark (at (op x) p) o m s = refl
no_mark (at (mark k) p) o m s = absurd o
no_mark (at (wrong k) p) o m s = refl

unmarked : (n : ℕ) (l : Label) (f g : Mark → Label) (t : Token) → NoMark t → label n l f t ≡ label n l g t
unmarked n l f g (at (name x) p) o = refl
unmarked n l f g (at (lit x) p) o = refl
unmarked n l f g (at dot p) o = refl
unmarked n l f g (at lparen p) o = refl
unmarked n l f g (at lbracket p) o = refl
unmarked n l f g (at not_word p) o = refl
unmarked n l f g (at (op x) p) o = refl
unmarked n l f g (at (mark k) p) o = absurd o
unmarked n l f g (at (wrong k) p) o = refl

none_picked : (os : List Offer) (t : Token) → NoMark t → pick os t ≡ none
none_picked [] t o = refl
none_picked (on m s ∷ os) t o = λ i. either (no_mark t o m s i) (none_picked os t o i)
none_picked (when true m s ∷ os) t o = λ i. either (no_mark t o m s i) (none_picked os t o i)
none_picked (when false m s ∷ os) t o = none_picked os t o

opened : {i : ℕ} {f : Form} {e : Expr} {ts us : List Token} → Reads i f e ts us → Opens ts
opened r_name = tt
opened r_lit = tt
opened (r_paren d) = tt
opened r_list₀ = tt
opened (r_list d) = tt
opened (r_member d l) = opened d
opened (r_index d l k) = opened d
opened (r_call₀ d c) = opened d
opened (r_call d c i) = opened d
opened (r_binary d l k r) = opened d
opened (r_not d l) = tt
opened (r_neg d l) = tt

all_opened : {i : ℕ} {f : Form} {es : Exprs} {e : Expr} {ts us : List Token} → Items es i f e ts us → Opens ts
all_opened (i_one d) = opened d
all_opened (i_more i d) = all_opened i

targets_opened : {es : Exprs} {ts us : List Token} → Targets es ts us → Opens us → Opens ts
targets_opened t_none o = o
targets_opened (t_more t d c) o = targets_opened t (opened d)

first_opens : (g : Group) (h : Hole) (ts : List Token) → Opens ts → trail ts (first g h) ≡ trail ts (want (group g nil h))
first_opens g h [] o = absurd o
first_opens g h (t ∷ ts) o =
    ap (λ x. moves (trail ts) (sees (first g h) t) t ts (either x (begins (group g nil h) t)))
    (none_picked (on (closer g) (λ q. have (from g) closed (build g nil) h) ∷ []) t o)

start_opens : (b : Body) (t : Token) (ts : List Token) → NoMark t → trail (t ∷ ts) (start b) ≡ trail (t ∷ ts) (want (line (place t) nil b))
start_opens b t ts o = λ i.
    moves (trail ts) (unmarked (body_depth b) (opening (body_depth b)) (heads (declaring b)) no_label t o i) t ts
    (either (none_picked (stmts b) t o i) (either (none_picked (decls b) t o i) (either (none_picked (ends b) t o i) (begins (line (place t) nil b) t))))

returns_opens : (p : ℕ) (b : Body) (ts : List Token) → Opens ts → trail ts (returns p b) ≡ trail ts (want (value p b))
returns_opens p b [] o = absurd o
returns_opens p b (t ∷ ts) o =
    ap (λ x. moves (trail ts) (sees (returns p b) t) t ts (either x (begins (value p b) t))) (none_picked (on newline (λ q. start (add (ret₀ p) b)) ∷ []) t o)

mutual
  reads : {i : ℕ} {f : Form} {e : Expr} {ts us : List Token} → (d : Reads i f e ts us)
      → (h : Hole) → asks h ≤ tight f → ahead us ≤ tight f → trail ts (want h) ≡ over (expr_labels d (hole_depth h)) (trail us (have i f e h))
  reads r_name h a b = refl
  reads r_lit h a b = refl
  reads (r_paren {p = p} d) h a b = ap (put (opening (hole_depth h))) (reads d (paren p h) zero-le zero-le)
  reads r_list₀ h a b = refl
  reads (r_list {p = p} {ts = ts} d) h a b = ap (put (opening (hole_depth h))) (first_opens (of_list p) h ts (all_opened d) ∙ items d (of_list p) h zero-le)
  reads (r_member {f = f} {e = e} {p = p} {q = q} d l) h a b =
      reads d h (omega arith) l ∙ ap (over (expr_labels d (hole_depth h))) (dots p f e h q _ l)
  reads (r_index {f = f} {a = e} {p = p} {q = q} d l k) h a b =
      reads d h (omega arith) l
      ∙ ap (over (expr_labels d (hole_depth h))) (subs p f e h q _ l ∙ ap (put (opening (hole_depth h))) (reads k (index p e h) zero-le zero-le))
  reads (r_call₀ {f = f} {a = e} {p = p} {q = q} d c) h a b =
      reads d h (omega (arith, tall f c)) (tall f c) ∙ ap (over (expr_labels d (hole_depth h))) (pars p f e h q _ c)
  reads (r_call {f = f} {a = e} {p = p} {q = q} {us = us} d c i) h a b =
      reads d h (omega (arith, tall f c)) (tall f c)
      ∙ ap (over (expr_labels d (hole_depth h))) (pars p f e h q _ c
      ∙ ap (put (opening (hole_depth h))) (first_opens (of_call p e) h us (all_opened i) ∙ items i (of_call p e) h zero-le))
  reads (r_binary {f = f} {g = g} {o = o} {a = x} {b = y} {p = p} {q = q} {i = i} {vs = vs} d l k r) h a b =
      reads d h (omega (arith, tighter (rank o))) (omega (arith, tighter (rank o)))
      ∙ ap (over (expr_labels d (hole_depth h))) (joins p f x h o q _ a l
      ∙ ap (put plain) (reads k (rhs p o x h) r (omega arith)
      ∙ ap (over (expr_labels k (hole_depth h)))
      (shut i g y (rhs p o x h) vs (have p (binary (rank o)) (bin p o x y) h) refl (λ t. refl) (λ t n. refl) (omega arith))))
  reads (r_not {f = f} {e = e} {p = p} {i = i} {us = us} d l) h a b =
      nots h p _ a ∙ ap (put (opening (hole_depth h))) (reads d (under p not h) l (omega arith)
      ∙ ap (over (expr_labels d (suc (hole_depth h))))
      (shut i f e (under p not h) us (have p (prefix not) (pre p not e) h) refl (λ t. refl) (shallow (suc (hole_depth h)) (hole_depth h)) (strict not us b)))
  reads (r_neg {f = f} {e = e} {p = p} {i = i} {us = us} d l) h a b =
      negs h p _ a ∙ ap (put (opening (hole_depth h))) (reads d (under p neg h) l (omega arith)
      ∙ ap (over (expr_labels d (suc (hole_depth h))))
      (shut i f e (under p neg h) us (have p (prefix neg) (pre p neg e) h) refl (λ t. refl) (shallow (suc (hole_depth h)) (hole_depth h)) (strict neg us b)))

  items : {es : Exprs} {i : ℕ} {f : Form} {e : Expr} {ts us : List Token} → (d : Items es i f e ts us)
      → (g : Group) (h : Hole) → ahead us ≤ 0
      → trail ts (want (group g nil h)) ≡ over (item_labels d (suc (hole_depth h))) (trail us (have i f e (group g es h)))
  items (i_one d) g h a = reads d (group g nil h) zero-le (omega arith)
  items (i_more i d) g h a =
      items i g h zero-le ∙ ap (over (item_labels i (suc (hole_depth h)))) (ap (put plain) (reads d (group g _ h) zero-le (omega arith)))

targets : {es : Exprs} {ts us : List Token} → (d : Targets es ts us) → (j : ℕ) (b : Body)
    → trail ts (want (line j nil b)) ≡ over (target_labels d (body_depth b)) (trail us (want (line j es b)))
targets t_none j b = refl
targets (t_more {f = f} {es = es} {e = e} {p = p} {i = i} t d c) j b =
    targets t j b ∙ ap (over (target_labels t (body_depth b))) (reads d (line j es b) zero-le zero-le
    ∙ ap (over (expr_labels d (body_depth b))) (assigned i j f e es b p _ c))

-- A list that begins with no `elif` and no `else`.
abbrev pub Calm : List Token → Type 0
Calm [] = Unit {0}
Calm (t ∷ ts) = (s : ℕ → State) → (expect elif s t ≡ none) × (expect else s t ≡ none)

opens_calm : (ts : List Token) → Opens ts → Calm ts
opens_calm [] o = tt
opens_calm (t ∷ ts) o = λ s. (no_mark t o elif s, no_mark t o else s)

ways_calm : {aa : Arms} {ts us : List Token} → Ways aa ts us → Calm ts
ways_calm (w_if d l) = λ s. (refl, refl)
ways_calm (w_elif w d l) = ways_calm w

says_calm : {s : Stmt} {ts us : List Token} → Says s ts us → Calm ts
says_calm s_pass = λ s. (refl, refl)
says_calm s_return₀ = λ s. (refl, refl)
says_calm (s_return d) = λ s. (refl, refl)
says_calm (s_line {k = k} {p = p} {ts = ts} t d) = opens_calm (at k p ∷ ts) (targets_opened t (opened d))
says_calm (s_if w) = ways_calm w
says_calm (s_else w l) = ways_calm w
says_calm (s_while d l) = λ s. (refl, refl)
says_calm (s_for d l) = λ s. (refl, refl)

-- no declaration follows a statement
same_label : {A : Type 0} (d : Dec A) (l : Label) → l ≡ is_it d l l
same_label (yes a) l = refl
same_label (no a) l = refl

quiet : (m : Mark) → plain ≡ heads plain m
quiet m = same_label (mark_discrete def m) plain ∙ ap (is_it (mark_discrete def m) plain) (same_label (mark_discrete nonlocal m) plain)

quietly : (n : ℕ) (t : Token) → operand n t ≡ label n (opening n) (heads plain) t
quietly n t = λ i. label n (opening n) (λ m. quiet m i) t

after_stmt : (s : Stmt) (b : Body) (t : Token) → operand (body_depth b) t ≡ sees (start (add s b)) t
after_stmt s (base fr ss) t = quietly (frame_depth fr) t
after_stmt s (arms aa p e ss b) t = quietly (suc (body_depth b)) t
after_stmt s (other aa ss b) t = quietly (suc (body_depth b)) t
after_stmt s (loops p e ss b) t = quietly (suc (body_depth b)) t
after_stmt s (eachs p n e ss b) t = quietly (suc (body_depth b)) t

chosen_trail : (aa : Arms) (b : Body) (ts : List Token) → Calm ts → trail ts (more aa b) ≡ trail ts (start (add (choose aa empty) b))
chosen_trail aa b [] c = refl
chosen_trail aa b (t ∷ ts) c = λ i.
    moves (trail ts) (after_stmt (choose aa empty) b t i) t ts (either (either ((c (λ p. want (arm_test aa p b))).0 i)
    (either ((c (λ p. seq colon (newline ∷ indent ∷ []) (start (other aa empty b)))).1 i) none)) (starts (add (choose aa empty) b) t))

-- a body that takes statements
abbrev Grows : (Stmts → Body) → ℕ → Type 0
Grows k n = ((ss : Stmts) (s : Stmt) → add s (k ss) ≡ k (then ss s)) × ((ss : Stmts) → body_depth (k ss) ≡ n)

-- and that a dedent ends
abbrev Closes : (Stmts → Body) → (Stmts → State) → Type 0
Closes k n = (ss : Stmts) (s : Stmt) (q : ℕ) (us : List Token) → trail (at (mark dedent) q ∷ us) (start (k (then ss s))) ≡ put plain (trail us (n (then ss s)))

mutual
  says : {s : Stmt} {ts us : List Token} → (d : Says s ts us) → (b : Body) → Calm us
      → trail ts (start b) ≡ over (stmt_labels d (body_depth b)) (trail us (start (add s b)))
  says s_pass b c = refl
  says s_return₀ b c = refl
  says (s_return {p = p} {ts = ts} d) b c =
      ap (put plain) (returns_opens p b ts (opened d) ∙ reads d (value p b) zero-le zero-le)
  says (s_line {k = k} {es = es} {p = p} {ts = ts} t d) b c =
      start_opens b (at k p) ts (targets_opened t (opened d)) ∙ targets t p b
      ∙ ap (over (target_labels t (body_depth b))) (reads d (line p es b) zero-le zero-le)
  says (s_if {aa = aa} {us = us} w) b c = ways w b ∙ ap (over (arm_labels w (body_depth b))) (chosen_trail aa b us c)
  says (s_else {aa = aa} w l) b c =
      ways w b ∙ ap (λ w'. over (arm_labels w (body_depth b)) (put plain (put plain w')))
      (blocks l (λ ss. other aa ss b) (λ ss. start (add (choose aa ss) b)) (body_depth b) ((λ ss s. refl), (λ ss. refl)) (λ ss s q us. refl))
  says (s_while {e = e} {p = p} d l) b c = ap (put plain) (reads d (loop_test p b) zero-le zero-le
      ∙ ap (λ w. over (expr_labels d (body_depth b)) (put plain w))
      (blocks l (λ ss. loops p e ss b) (λ ss. start (add (loop p e ss) b)) (body_depth b) ((λ ss s. refl), (λ ss. refl)) (λ ss s q us. refl)))
  says (s_for {e = e} {n = n} {p = p} d l) b c = ap (λ w. put plain (put plain (put plain w))) (reads d (each_of p n b) zero-le zero-le
      ∙ ap (λ w. over (expr_labels d (body_depth b)) (put plain w))
      (blocks l (λ ss. eachs p n e ss b) (λ ss. start (add (each p n e ss) b)) (body_depth b) ((λ ss s. refl), (λ ss. refl)) (λ ss s q us. refl)))

  ways : {aa : Arms} {ts us : List Token} → (d : Ways aa ts us) → (b : Body)
      → trail ts (start b) ≡ over (arm_labels d (body_depth b)) (trail us (more aa b))
  ways (w_if {e = e} {p = p} d l) b = ap (put plain) (reads d (arm_test no_arms p b) zero-le zero-le
      ∙ ap (λ w. over (expr_labels d (body_depth b)) (put plain w))
      (blocks l (λ ss. arms no_arms p e ss b) (λ ss. more (arm no_arms p e ss) b) (body_depth b) ((λ ss s. refl), (λ ss. refl)) (λ ss s q us. refl)))
  ways (w_elif {aa = aa} {e = e} {p = p} w d l) b =
      ways w b ∙ ap (λ w'. over (arm_labels w (body_depth b)) (put plain w')) (reads d (arm_test aa p b) zero-le zero-le
      ∙ ap (λ w. over (expr_labels d (body_depth b)) (put plain w))
      (blocks l (λ ss. arms aa p e ss b) (λ ss. more (arm aa p e ss) b) (body_depth b) ((λ ss s. refl), (λ ss. refl)) (λ ss s q us. refl)))

  blocks : {ss : Stmts} {ts us : List Token} → (d : Block ss ts us) → (k : Stmts → Body) (n : Stmts → State) (m : ℕ) → Grows k (suc m) → Closes k n
      → trail ts (block_of (k empty)) ≡ over (block_labels d m) (trail us (n ss))
  blocks (block {ss = ss} {s = s} {k = q} {ts = ts} {us = us} l) k n m g x =
      ap (λ d. put plain (put (opening (pred d)) (trail ts (start (k empty))))) (g.1 empty)
      ∙ ap (λ w. put plain (put (opening m) w)) (lines l k (suc m) g (λ s. (refl, refl)) ∙ ap (over (line_labels l (suc m))) (x ss s q us))

  lines : {ss : Stmts} {ts us : List Token} → (d : Lines ss ts us) → (k : Stmts → Body) (n : ℕ) → Grows k n → Calm us
      → trail ts (start (k empty)) ≡ over (line_labels d n) (trail us (start (k ss)))
  lines l_none k n g c = refl
  lines (l_more {ss = ss} {s = s} {vs = vs} l d) k n g c =
      lines l k n g (says_calm d)
      ∙ ap (over (line_labels l n)) (says d (k ss) c ∙ (λ i. over (stmt_labels d (g.1 ss i)) (trail vs (start (g.0 ss s i)))))

annotated : {a : Ann} {ts us : List Token} → (d : Types a ts us) → (s : Slot) → trail ts (typing s) ≡ over (type_labels d (slot_depth s)) (trail us (typed a s))
annotated y_name s = refl
annotated y_text s = refl
annotated (y_list {p = p} d) s = ap (put (opening (slot_depth s))) (annotated d (of_item p s))

takes : {ps : Params} {n : Id} {a : Ann} {ts us : List Token} → (d : Takes ps n a ts us) → (i : ℕ) (m : Id) (o : Outer)
    → trail ts (params i m o) ≡ over (param_labels d (suc (outer_depth o))) (trail us (typed a (of_param i m ps n o)))
takes (p_one {n = n} {p = p} d) i m o = ap (λ w. put plain (put plain w)) (annotated d (of_param i m no_params (id p n) o))
takes (p_more {ps = ps} {a = a} {n = n} {m = x} {q = q} t d) i m o =
    takes t i m o ∙ ap (λ w. over (param_labels t (suc (outer_depth o))) (put plain (put plain (put plain w)))) (annotated d (of_param i m (param ps n a) (id q x) o))

signed : {ps : Params} {ts us : List Token} → (d : Sig ps ts us) → (i : ℕ) (m : Id) (o : Outer)
    → trail ts (params i m o) ≡ over (sig_labels d (suc (outer_depth o))) (trail us (seq arrow [] (typing (of_result i m ps o))))
signed g_none i m o = refl
signed (g_some t) i m o = takes t i m o

-- The declarations begin.
defs_on : (o : Outer) (p : ℕ) (n : Text) (q r : ℕ) (ts : List Token)
    → trail (at (mark def) p ∷ at (name n) q ∷ at lparen r ∷ ts) (awaits o)
    ≡ put (heading (where_of o)) (put plain (put (opening (outer_depth o)) (trail ts (params p (id q n) o))))
defs_on (inside (main ds)) p n q r ts = refl
defs_on (inside (locals i m ps a ds o)) p n q r ts = refl
defs_on (members i m k ds os) p n q r ts = refl

vars_on : (o : Outer) (p : ℕ) (n : Text) (q : ℕ) (ts : List Token)
    → trail (at (name n) p ∷ at (mark colon) q ∷ ts) (awaits o) ≡ put plain (put plain (trail ts (typing (of_var (id p n) o))))
vars_on (inside fr) p n q ts = start_opens (base fr empty) (at (name n) p) (at (mark colon) q ∷ ts) tt
vars_on (members i m k ds os) p n q ts = refl

globals_on : (o : Outer) (p : ℕ) (n : Text) (q r : ℕ) (ts : List Token) → T (function? (where_of o))
    → trail (at (mark global) p ∷ at (name n) q ∷ at (mark newline) r ∷ ts) (awaits o)
    ≡ put plain (put plain (put plain (trail ts (awaits (join (a_global p (id q n)) o)))))
globals_on (inside (main ds)) p n q r ts f = absurd f
globals_on (inside (locals i m ps a ds o)) p n q r ts f = refl
globals_on (members i m k ds os) p n q r ts f = absurd f

nonlocals_on : (o : Outer) (p : ℕ) (n : Text) (q r : ℕ) (ts : List Token) → T (function? (where_of o))
    → trail (at (mark nonlocal) p ∷ at (name n) q ∷ at (mark newline) r ∷ ts) (awaits o)
    ≡ put nested (put plain (put plain (trail ts (awaits (join (a_nonlocal p (id q n)) o)))))
nonlocals_on (inside (main ds)) p n q r ts f = absurd f
nonlocals_on (inside (locals i m ps a ds o)) p n q r ts f = refl
nonlocals_on (members i m k ds os) p n q r ts f = absurd f

-- the declarations of a class, and its end
abbrev Inside : ℕ → Id → Id → Decls → (List Label → List Label) → List Token → List Token → Type 0
Inside p n m ds f ts us = (os : Decls) → trail ts (inner p n m no_decls os) ≡ over f (trail us (inner p n m ds os))

-- the labels of a class's first line, and of its INDENT
abbrev class_head : ℕ → List Label → List Label
class_head n k = plain ∷ plain ∷ opening n ∷ plain ∷ plain ∷ plain ∷ plain ∷ opening n ∷ k

classes_on : (o : Outer) (p : ℕ) (n : Text) (q : ℕ) (m : Text) (ds : Decls) (f : ℕ → List Label → List Label) (r i j k l h t : ℕ) (ts us : List Token)
    → T (program? (where_of o)) → Inside p (id r n) (id q m) ds (f 1) ts (at (mark dedent) t ∷ us)
    → trail (at (mark class) p ∷ at (name n) r ∷ at lparen i ∷ at (name m) q ∷ at (mark rparen) j ∷ at (mark colon) k ∷ at (mark newline) l ∷ at (mark indent) h ∷ ts) (awaits o)
    ≡ over (class_head (outer_depth o)) (over (f (suc (outer_depth o))) (put plain (trail us (awaits (join (a_class p (id r n) (id q m) ds) o)))))
classes_on (inside (main os)) p n q m ds f r i j k l h t ts us c x = ap (over (class_head 0)) (x os)
classes_on (inside (locals _ _ _ _ _ o)) p n q m ds f r i j k l h t ts us c x = absurd c
classes_on (members _ _ _ _ os) p n q m ds f r i j k l h t ts us c x = absurd c

-- what takes declarations of one sort
abbrev Joins : Where → (Decls → Outer) → ℕ → Type 0
Joins w k n = ((ds : Decls) (d : Decl) → join d (k ds) ≡ k (decl ds d)) × ((ds : Decls) → w ≡ where_of (k ds)) × ((ds : Decls) → outer_depth (k ds) ≡ n)

mutual
  declares : {w : Where} {d : Decl} {ts us : List Token} → (x : Declares w d ts us) → (o : Outer) → w ≡ where_of o
      → trail ts (awaits o) ≡ over (decl_labels x (outer_depth o)) (trail us (awaits (join d o)))
  declares (d_var {n = n} {p = p} {k = k} d) o e = vars_on o p n k _ ∙ ap (λ w. put plain (put plain w)) (annotated d (of_var (id p n) o))
  declares (d_func {w = w} {ps = ps} {a = a} {ds = ds} {n = n} {p = p} {q = q} {r = r} {ts = ts} s d x l) o e =
      defs_on o p n q r _
      ∙ ap (λ w. put (heading w) (put plain (put (opening (outer_depth o)) (trail ts (params p (id q n) o))))) (sym e)
      ∙ ap (λ v. put (heading w) (put plain (put (opening (outer_depth o)) v))) (signed s p (id q n) o
      ∙ ap (λ v. over (sig_labels s (suc (outer_depth o))) (put plain v)) (annotated d (of_result p (id q n) ps o)
      ∙ ap (λ v. over (type_labels d (outer_depth o)) (put plain (put plain (put (opening (outer_depth o)) v))))
      (defs x (λ ds. inside (locals p (id q n) ps a ds o)) (suc (outer_depth o)) ((λ ds d. refl), (λ ds. refl), (λ ds. refl))
      ∙ ap (over (def_labels x (suc (outer_depth o))))
      (lines l (λ ss. base (locals p (id q n) ps a ds o) ss) (suc (outer_depth o)) ((λ ss s. refl), (λ ss. refl)) (λ s. (refl, refl))))))
  declares (d_class {ds = ds} {n = n} {m = m} {p = p} {q = q} {r = r} {i = i} {j = j} {k = k} {l = l} {h = h} {t = t} c x) o e =
      classes_on o p n q m ds (def_labels x) r i j k l h t _ _ (subst (λ w. T (program? w)) e c)
      (λ os. defs x (λ ds. members p (id r n) (id q m) ds os) 1 ((λ ds d. refl), (λ ds. refl), (λ ds. refl)))
  declares (d_global {n = n} {p = p} {q = q} {i = i} c) o e = globals_on o p n q i _ (subst (λ w. T (function? w)) e c)
  declares (d_nonlocal {n = n} {p = p} {q = q} {i = i} c) o e = nonlocals_on o p n q i _ (subst (λ w. T (function? w)) e c)

  defs : {w : Where} {ds : Decls} {ts us : List Token} → (x : Defs w ds ts us) → (k : Decls → Outer) (n : ℕ) → Joins w k n
      → trail ts (awaits (k no_decls)) ≡ over (def_labels x n) (trail us (awaits (k ds)))
  defs n_none k n j = refl
  defs (n_more {ds = ds} {d = d} {vs = vs} x y) k n j =
      defs x k n j ∙ ap (over (def_labels x n)) (declares y (k ds) (j.1 ds)
      ∙ (λ i. over (decl_labels y (j.2 ds i)) (trail vs (awaits (j.0 ds d i)))))

-- the whole of a program
pub followed : (ts : List Token) (ds : Decls) (ss : Stmts) → (d : Program ds ss ts) → trail ts begin ≡ (profile d, accepted ds ss)
followed ts ds ss (whole x l) =
    defs x (λ ds. inside (main ds)) 0 ((λ ds d. refl), (λ ds. refl), (λ ds. refl))
    ∙ ap (over (def_labels x 0)) (lines l (λ ss. base (main ds) ss) 0 ((λ ss s. refl), (λ ss. refl)) (λ s. (refl, refl)))

-- A trail has the outcome of the run.
agrees_next : (l : Label) (t : Token) (ts : List Token) (x : Next) → ((s : State) → (trail ts s).1 ≡ run ts s)
    → (moves (trail ts) l t ts x).1 ≡ goes (run ts) t ts x
agrees_next l t ts none f = refl
agrees_next l t ts (some s) f = f s

pub agrees : (ts : List Token) (s : State) → (trail ts s).1 ≡ run ts s
agrees [] s = refl
agrees (t ∷ ts) s = agrees_next (sees s t) t ts (step s t) (agrees ts)

pub complete : Complete
complete ts ds ss d = sym (agrees ts begin) ∙ ap (λ w. w.1) (followed ts ds ss d)

pub chosen : (aa : Arms) (b : Body) (ts : List Token) → Calm ts → run ts (more aa b) ≡ run ts (start (add (choose aa empty) b))
chosen aa b ts c = sym (agrees ts (more aa b)) ∙ ap (λ w. w.1) (chosen_trail aa b ts c) ∙ agrees ts (start (add (choose aa empty) b))
