-- The functions that read expressions do what the limited reader does.
use mathlib.Core.List.{List, [], ◌∷◌}
use mathlib.Core.Option.{Option, none}
use mathlib.Core.Path.{◌≡◌, refl, ap, ◌∙◌, sym}
use mathlib.Core.Bool.{Bool, true, false}
use Prim.Native.Nat.{ℕ, suc, zero, ◌≤◌}
use lib.Dec.{T, leb, le→leb, leb→le}
use Rattle.grammar.specs.Tree.{Op, Pre, Mark, Token, Expr, Exprs, Rank, Form, rank, level, left, reach, tight, callable, target, op_discrete}
use Rattle.grammar.specs.Tree.{minus, not, neg, rparen, rbracket, comma, assign, colon, newline}
use Rattle.grammar.specs.Tree.{name, lit, dot, lparen, lbracket, not_word, op, mark, wrong, at, var, con, bin, pre, mem, idx, call, list, nil, snoc, ret, assigns, empty}
use Rattle.grammar.specs.Tree.{disjunction, conjunction, comparison, sum, product, named, member, indexed, closed, binary, prefix}
use Rattle.grammar.specs.Reader.{Group, Hole, State, Next, Offer, arms, loops, eachs, of_call, of_list, line, value, arm_test, loop_test, each_of, rhs, under, paren, index, group, field}
use Rattle.grammar.specs.Reader.{want, first, have, naming, start, add, asks, either, only, given, expect, on, when, pick, closer, from, build, begins, grows, vars, block_of, leaves, calls}
use Rattle.grammar.specs.Profile.{plain, opening}
use Rattle.grammar.specs.Limits.{hole_depth, label, no_label, operand, sees, Limit, exceeds, Reading, unless, proceeds, limited}
use Rattle.descent.specs.Answers.{Answer, ok, bar, decide, Tells, To}
use Rattle.descent.specs.Expressions.{Term, term, tree, form, begun_at, expr, after, bracketed, items, has, Halts, Into}
use Rattle.descent.proofs.Answers.{so, moved, bind_to, bind_term, test_tells, fits_tells, unroll, may_tells, need_tells, leave, name_tells, may_pick, bars, cuts, tires, goes_to}

at_most : {m n : ℕ} → m ≤ n → leb m n ≡ true
at_most {m} {n} l = so (leb m n) (le→leb m n l)

-- A bracket neither leaves a hole nor goes on with what is not tight, at any depth.
data Bracket : Token → Type 0 where
  round : {p : ℕ} → Bracket (at lparen p)
  square : {p : ℕ} → Bracket (at lbracket p)

both_none : {x y : Next} → x ≡ none → y ≡ none → either x y ≡ none
both_none {y = y} e f = ap (λ z. either z y) e ∙ f

no_mark : (m : Mark) (s : ℕ → State) (t : Token) → Bracket t → expect m s t ≡ none
no_mark m s _ round = refl
no_mark m s _ square = refl

only_none : (b : Bool) (x : Next) → x ≡ none → only b x ≡ none
only_none true x e = e
only_none false x e = refl

no_offer : (os : List Offer) (t : Token) → Bracket t → pick os t ≡ none
no_offer [] t b = refl
no_offer (on m s ∷ os) t b = both_none (no_mark m s t b) (no_offer os t b)
no_offer (when c m s ∷ os) t b = both_none (only_none c (expect m s t) (no_mark m s t b)) (no_offer os t b)

loose_op : (r : Rank) → leb 8 (level r) ≡ false
loose_op disjunction = refl
loose_op conjunction = refl
loose_op comparison = refl
loose_op sum = refl
loose_op product = refl

loose_pre : (u : Pre) → leb 8 (reach u) ≡ false
loose_pre not = refl
loose_pre neg = refl

op_loose : (i : ℕ) (r : Rank) (e : Expr) (h : Hole) (t : Token) → Bracket t → grows i (binary r) e h t ≡ none
op_loose i r e h _ round = refl
op_loose i r e h _ square = rw (loose_op r)

pre_loose : (i : ℕ) (u : Pre) (e : Expr) (h : Hole) (t : Token) → Bracket t → grows i (prefix u) e h t ≡ none
pre_loose i u e h _ round = refl
pre_loose i u e h _ square = rw (loose_pre u)

stays : (h : Hole) (i : ℕ) (f : Form) (e : Expr) (t : Token) → Bracket t → leaves h i f e t ≡ none
stays (line q es b) i f e t k =
    no_offer (on newline (λ j. start (add (assigns q es e) b)) ∷ when (target f) assign (λ j. want (line q (snoc es e) b)) ∷ vars es b i f) t k
stays (value p b) i f e t k = no_offer (on newline (λ q. start (add (ret p e) b)) ∷ []) t k
stays (arm_test aa p b) i f e t k = no_offer (on colon (λ q. block_of (arms aa p e empty b)) ∷ []) t k
stays (loop_test p b) i f e t k = no_offer (on colon (λ q. block_of (loops p e empty b)) ∷ []) t k
stays (each_of p n b) i f e t k = no_offer (on colon (λ q. block_of (eachs p n e empty b)) ∷ []) t k
stays (rhs p o a h) i f e t k = both_none (op_loose p (rank o) (bin p o a e) h t k) (stays h p (binary (rank o)) (bin p o a e) t k)
stays (under p u h) i f e t k = both_none (pre_loose p u (pre p u e) h t k) (stays h p (prefix u) (pre p u e) t k)
stays (paren p h) i f e t k = no_offer (on rparen (λ q. have p closed e h) ∷ []) t k
stays (index p a h) i f e t k = no_offer (on rbracket (λ q. have p indexed (idx p a e) h) ∷ []) t k
stays (group g es h) i f e t k =
    no_offer (on comma (λ q. want (group g (snoc es e) h)) ∷ on (closer g) (λ q. have (from g) closed (build g (snoc es e)) h) ∷ []) t k

-- what no bracket does is read alike at any depth
alike : (lim m n : ℕ) (t : Token) (ts : List Token) (x : Next) → (Bracket t → x ≡ none)
    → proceeds (limited lim ts) (exceeds lim (label m plain no_label t)) t ts x ≡ proceeds (limited lim ts) (exceeds lim (label n plain no_label t)) t ts x
alike lim m n (at (name v) p) ts x b = refl
alike lim m n (at (lit v) p) ts x b = refl
alike lim m n (at dot p) ts x b = refl
alike lim m n (at lparen p) ts x b =
    ap (proceeds (limited lim ts) (exceeds lim (opening m)) (at lparen p) ts) (b round)
    ∙ sym (ap (proceeds (limited lim ts) (exceeds lim (opening n)) (at lparen p) ts) (b round))
alike lim m n (at lbracket p) ts x b =
    ap (proceeds (limited lim ts) (exceeds lim (opening m)) (at lbracket p) ts) (b square)
    ∙ sym (ap (proceeds (limited lim ts) (exceeds lim (opening n)) (at lbracket p) ts) (b square))
alike lim m n (at not_word p) ts x b = refl
alike lim m n (at (op o) p) ts x b = refl
alike lim m n (at (mark j) p) ts x b = refl
alike lim m n (at (wrong v) p) ts x b = refl

-- an operand that is complete goes on in the hole around
sheds_op : (lim : ℕ) (x : Term) (j : ℕ) (o : Op) (a : Expr) (h : Hole) (us : List Token) → Halts (rhs j o a h) x us
    → limited lim us (has (rhs j o a h) x) ≡ limited lim us (have j (binary (rank o)) (bin j o a (tree x)) h)
sheds_op lim x j o a h [] z = refl
sheds_op lim x j o a h (t ∷ us) z = leave lim x (rhs j o a h) (t ∷ us) z

sheds_pre : (lim : ℕ) (x : Term) (j : ℕ) (u : Pre) (h : Hole) (us : List Token) → Halts (under j u h) x us
    → limited lim us (has (under j u h) x) ≡ limited lim us (have j (prefix u) (pre j u (tree x)) h)
sheds_pre lim x j u h [] z = refl
sheds_pre lim x j u h (t ∷ us) z =
    leave lim x (under j u h) (t ∷ us) z
    ∙ alike lim (suc (hole_depth h)) (hole_depth h) t us (leaves (under j u h) (begun_at x) (form x) (tree x) t) (stays (under j u h) (begun_at x) (form x) (tree x) t)

-- What stands in the hole goes on.
dots : (lim i : ℕ) (f : Form) (e : Expr) (h : Hole) (p : ℕ) (ts : List Token) → 8 ≤ tight f
    → limited lim (at dot p ∷ ts) (have i f e h) ≡ limited lim ts (naming (field i e h))
dots lim i f e h p ts l = rw (at_most l)

subs : (lim i : ℕ) (f : Form) (e : Expr) (h : Hole) (p : ℕ) (ts : List Token) → 8 ≤ tight f
    → limited lim (at lbracket p ∷ ts) (have i f e h) ≡ unless (exceeds lim (opening (hole_depth h))) (at lbracket p) ts (limited lim ts (want (index i e h)))
subs lim i f e h p ts l = rw (at_most l)

pars : (lim i : ℕ) (f : Form) (e : Expr) (h : Hole) (p : ℕ) (ts : List Token) → T (callable f)
    → limited lim (at lparen p ∷ ts) (have i f e h) ≡ unless (exceeds lim (opening (hole_depth h))) (at lparen p) ts (limited lim ts (first (of_call i e) h))
pars lim i f e h p ts c = rw (so (callable f) c)

joins : (lim i : ℕ) (f : Form) (e : Expr) (h : Hole) (o : Op) (p : ℕ) (ts : List Token) → asks h ≤ level (rank o) → left (rank o) ≤ tight f
    → limited lim (at (op o) p ∷ ts) (have i f e h) ≡ limited lim ts (want (rhs i o e h))
joins lim i f e h o p ts a l = rw (at_most a, at_most l)

nots : (lim : ℕ) (h : Hole) (p : ℕ) (ts : List Token) → asks h ≤ reach not
    → limited lim (at not_word p ∷ ts) (want h) ≡ unless (exceeds lim (opening (hole_depth h))) (at not_word p) ts (limited lim ts (want (under p not h)))
nots lim h p ts a = rw (at_most a)

negs : (lim : ℕ) (h : Hole) (o : Op) (p : ℕ) (ts : List Token) → asks h ≤ reach neg
    → limited lim (at (op o) p ∷ ts) (want h)
    ≡ proceeds (limited lim ts) (exceeds lim (opening (hole_depth h))) (at (op o) p) ts (given (op_discrete minus o) (want (under p neg h)))
negs lim h o p ts a = rw (at_most a)

-- only a minus
minus_tells : {A X : Type 0} {P : A → List Token → Reading → Type 0} {r : Answer A} (lim : ℕ) (d : Dec X) (l : Option Limit) (t : Token) (ts : List Token) (s : State)
    → Tells P r (unless l t ts (limited lim ts s)) → Tells P (decide d r (bar t ts)) (proceeds (limited lim ts) l t ts (given d s))
minus_tells lim (yes a) l t ts s x = x
minus_tells lim (no a) l t ts s x = record { told = refl }

-- nothing goes on with it
rests : (lim : ℕ) (h : Hole) (i : ℕ) (f : Form) (e : Expr) (ts : List Token) → Halts h (term i f e) ts → Tells (Into lim h) (ok (term i f e) ts) (limited lim ts (have i f e h))
rests lim h i f e ts z = record { told = (refl, z) }

mutual
  pub expr_tells : (lim n : ℕ) (h : Hole) (ts : List Token) → Tells (Into lim h) (expr lim n (asks h) (hole_depth h) ts) (limited lim ts (want h))
  expr_tells lim zero h ts = tires
  expr_tells lim (suc n) h [] = cuts refl
  expr_tells lim (suc n) h (at (name m) p ∷ ts) = after_tells lim n h p (named m) (var p m) ts
  expr_tells lim (suc n) h (at (lit l) p ∷ ts) = after_tells lim n h p closed (con p l) ts
  expr_tells lim (suc n) h (at dot p ∷ ts) = bars refl
  expr_tells lim (suc n) h (at lparen p ∷ ts) =
      fits_tells lim (hole_depth h) (at lparen p) ts (limited lim ts (want (paren p h)))
      (bind_term lim (paren p h) (expr_tells lim n (paren p h) ts)
      (λ x us z. moved (leave lim x (paren p h) us z)
      (need_tells lim rparen us (sees (has (paren p h) x)) (λ q. have p closed (tree x) h) (λ j q. refl) (λ q vs. after_tells lim n h p closed (tree x) vs))))
  expr_tells lim (suc n) h (at lbracket p ∷ ts) =
      fits_tells lim (hole_depth h) (at lbracket p) ts (limited lim ts (first (of_list p) h))
      (bind_to lim (λ es. have p closed (list p es) h) (bracketed_tells lim n (of_list p) h ts) (λ es us. after_tells lim n h p closed (list p es) us))
  expr_tells lim (suc n) h (at not_word p ∷ ts) =
      test_tells (leb (asks h) (reach not))
      (λ c. moved (nots lim h p ts (leb→le (asks h) (reach not) c))
      (fits_tells lim (hole_depth h) (at not_word p) ts (limited lim ts (want (under p not h)))
      (bind_term lim (under p not h) (expr_tells lim n (under p not h) ts)
      (λ x us z. moved (sheds_pre lim x p not h us z) (after_tells lim n h p (prefix not) (pre p not (tree x)) us)))))
      (λ e. bars (rw e))
  expr_tells lim (suc n) h (at (op o) p ∷ ts) =
      test_tells (leb (asks h) (reach neg))
      (λ c. moved (negs lim h o p ts (leb→le (asks h) (reach neg) c))
      (minus_tells lim (op_discrete minus o) (exceeds lim (opening (hole_depth h))) (at (op o) p) ts (want (under p neg h))
      (fits_tells lim (hole_depth h) (at (op o) p) ts (limited lim ts (want (under p neg h)))
      (bind_term lim (under p neg h) (expr_tells lim n (under p neg h) ts)
      (λ x us z. moved (sheds_pre lim x p neg h us z) (after_tells lim n h p (prefix neg) (pre p neg (tree x)) us))))))
      (λ e. bars (rw e))
  expr_tells lim (suc n) h (at (mark k) p ∷ ts) = bars refl
  expr_tells lim (suc n) h (at (wrong k) p ∷ ts) = bars refl

  pub after_tells : (lim n : ℕ) (h : Hole) (i : ℕ) (f : Form) (e : Expr) (ts : List Token)
      → Tells (Into lim h) (after lim n (asks h) (hole_depth h) (term i f e) ts) (limited lim ts (have i f e h))
  after_tells lim zero h i f e ts = tires
  after_tells lim (suc n) h i f e [] = rests lim h i f e [] tt
  after_tells lim (suc n) h i f e (at (name m) p ∷ ts) = rests lim h i f e (at (name m) p ∷ ts) refl
  after_tells lim (suc n) h i f e (at (lit l) p ∷ ts) = rests lim h i f e (at (lit l) p ∷ ts) refl
  after_tells lim (suc n) h i f e (at dot p ∷ ts) =
      test_tells (leb 8 (tight f))
      (λ c. moved (dots lim i f e h p ts (leb→le 8 (tight f) c) ∙ unroll lim (naming (field i e h)) ts refl)
      (name_tells lim ts (sees (naming (field i e h))) (calls (field i e h)) (λ q m. refl) (λ q m vs. after_tells lim n h i member (mem i e m) vs)))
      (λ x. rests lim h i f e (at dot p ∷ ts) (rw x))
  after_tells lim (suc n) h i f e (at lparen p ∷ ts) =
      test_tells (callable f)
      (λ c. moved (pars lim i f e h p ts c)
      (fits_tells lim (hole_depth h) (at lparen p) ts (limited lim ts (first (of_call i e) h))
      (bind_to lim (λ es. have i closed (call i e es) h) (bracketed_tells lim n (of_call i e) h ts) (λ es us. after_tells lim n h i closed (call i e es) us))))
      (λ x. rests lim h i f e (at lparen p ∷ ts) (rw x))
  after_tells lim (suc n) h i f e (at lbracket p ∷ ts) =
      test_tells (leb 8 (tight f))
      (λ c. moved (subs lim i f e h p ts (leb→le 8 (tight f) c))
      (fits_tells lim (hole_depth h) (at lbracket p) ts (limited lim ts (want (index i e h)))
      (bind_term lim (index i e h) (expr_tells lim n (index i e h) ts)
      (λ x us z. moved (leave lim x (index i e h) us z)
      (need_tells lim rbracket us (sees (has (index i e h) x)) (λ q. have i indexed (idx i e (tree x)) h) (λ k q. refl)
      (λ q vs. after_tells lim n h i indexed (idx i e (tree x)) vs))))))
      (λ x. rests lim h i f e (at lbracket p ∷ ts) (rw x))
  after_tells lim (suc n) h i f e (at not_word p ∷ ts) = rests lim h i f e (at not_word p ∷ ts) refl
  after_tells lim (suc n) h i f e (at (op o) p ∷ ts) =
      test_tells (leb (asks h) (level (rank o)))
      (λ a. test_tells (leb (left (rank o)) (tight f))
      (λ l. moved (joins lim i f e h o p ts (leb→le (asks h) (level (rank o)) a) (leb→le (left (rank o)) (tight f) l))
      (bind_term lim (rhs i o e h) (expr_tells lim n (rhs i o e h) ts)
      (λ x us z. moved (sheds_op lim x i o e h us z) (after_tells lim n h i (binary (rank o)) (bin i o e (tree x)) us))))
      (λ x. rests lim h i f e (at (op o) p ∷ ts) (rw (so (leb (asks h) (level (rank o))) a, x))))
      (λ x. rests lim h i f e (at (op o) p ∷ ts) (rw x))
  after_tells lim (suc n) h i f e (at (mark k) p ∷ ts) = rests lim h i f e (at (mark k) p ∷ ts) refl
  after_tells lim (suc n) h i f e (at (wrong k) p ∷ ts) = rests lim h i f e (at (wrong k) p ∷ ts) refl

  pub bracketed_tells : (lim n : ℕ) (g : Group) (h : Hole) (ts : List Token)
      → Tells (To lim (λ es. have (from g) closed (build g es) h)) (bracketed lim n (suc (hole_depth h)) (closer g) ts) (limited lim ts (first g h))
  bracketed_tells lim zero g h ts = tires
  bracketed_tells lim (suc n) g h ts =
      moved (unroll lim (first g h) ts refl)
      (may_pick lim (closer g) ts (operand (suc (hole_depth h))) (λ q. have (from g) closed (build g nil) h) [] (begins (group g nil h)) (λ j q. refl)
      (λ q vs. goes_to lim (λ es. have (from g) closed (build g es) h) nil vs)
      (moved (sym (unroll lim (want (group g nil h)) ts refl)) (items_tells lim n g h nil ts)))

  pub items_tells : (lim n : ℕ) (g : Group) (h : Hole) (es : Exprs) (ts : List Token)
      → Tells (To lim (λ y. have (from g) closed (build g y) h)) (items lim n (suc (hole_depth h)) (closer g) es ts) (limited lim ts (want (group g es h)))
  items_tells lim zero g h es ts = tires
  items_tells lim (suc n) g h es ts =
      bind_term lim (group g es h) (expr_tells lim n (group g es h) ts)
      (λ x us z. moved (leave lim x (group g es h) us z)
      (may_tells lim comma us (sees (has (group g es h) x)) (λ q. want (group g (snoc es (tree x)) h))
      (pick (on (closer g) (λ q. have (from g) closed (build g (snoc es (tree x))) h) ∷ [])) (λ j q. refl) (λ q vs. items_tells lim n g h (snoc es (tree x)) vs)
      (need_tells lim (closer g) us (sees (has (group g es h) x)) (λ q. have (from g) closed (build g (snoc es (tree x))) h) (λ j q. refl)
      (λ q vs. goes_to lim (λ y. have (from g) closed (build g y) h) (snoc es (tree x)) vs))))
