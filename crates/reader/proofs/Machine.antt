-- The steps of the limited machine, as the code meets them.
use Rattle.std.proofs.Common.{◌≡◌, ℕ, suc, Bool, true, false, cond, ◌&&◌, leb, List, [], ◌∷◌, Some, None, Option, sym, refl, ap, ◌∙◌, subst, arith}
use mathlib.Core.Option.{none, some}
use Rattle.arena.specs.Trees.{binary_of, prefix_of}
use Rattle.arena.specs.declared.nodes.PrefixOperator.{PrefixOperator}
use Rattle.grammar.specs.Tree as tree
use Rattle.grammar.specs.Tree.{Expr, Form, Mark, Op, Pre, Rank, Token, at, place}
use Rattle.grammar.specs.Reader.{Hole, Next, Offer, State, add, asks, block_of, build, closer, either, expect, from, grows, have, leaves, on, only, pick, start, step, vars, want, when}
use Rattle.grammar.specs.Reader.{field, first, naming, of_call, of_list, arm_test, arms, each_of, eachs, group, index, line, loop_test, loops, paren, rhs, under, value}
use Rattle.grammar.specs.Limits.{exceeds, hole_depth, label, limited, no_label, proceeds, sees}
use Rattle.grammar.specs.Profile.{opening, plain}
use Rattle.grammar.specs.Verdict.{fault, judged, refused}
use Rattle.reader.specs.Forms.{form_of, is_callable, tight_of}
use Rattle.reader.specs.Growing.{Grown, growth_of, sign}
use Rattle.reader.specs.Kinds.{kind_model, mark_of}
use Rattle.reader.specs.Taking.{NoMark}
use Rattle.reader.specs.Stops.{stop_of}
use Rattle.reader.specs.Told.{Stuck}
use Rattle.reader.specs.declared.forms.Form as code
use Rattle.reader.specs.declared.kinds.Kind.{Kind}
use Rattle.reader.specs.declared.kinds.Mark as marks
use Rattle.reader.specs.declared.refusals.Stop.{Stop}
use Rattle.reader.specs.declared.growths.Growth.{Growth}

-- A token that no step takes is refused.
pub bars : (t : Token) (ts : List Token) (s : State) → step s t ≡ none → judged (limited 64 (t ∷ ts) s) ≡ refused (fault t) (place t)
bars t ts s e = ap (λ x. judged (proceeds (limited 64 ts) (exceeds 64 (sees s t)) t ts x)) e

-- A sign before an operand.
pub signs : (src : List ℕ) (o : PrefixOperator) (h : Hole) (p : ℕ) (ts : List Token) → leb (asks h) (tree.reach (prefix_of o)) ≡ true → leb 64 (hole_depth h) ≡ false
    → limited 64 (at (kind_model src p (sign o)) p ∷ ts) (want h) ≡ limited 64 ts (want (under p (prefix_of o) h))
signs src PrefixOperator.Not h p ts a d = rw (a, d)
signs src PrefixOperator.Negate h p ts a d = rw (a, d)

-- Parentheses.
pub opens : (h : Hole) (p : ℕ) (ts : List Token) → leb 64 (hole_depth h) ≡ false → limited 64 (at tree.lparen p ∷ ts) (want h) ≡ limited 64 ts (want (paren p h))
opens h p ts d = rw d

pub lists : (h : Hole) (p : ℕ) (ts : List Token) → leb 64 (hole_depth h) ≡ false → limited 64 (at tree.lbracket p ∷ ts) (want h) ≡ limited 64 ts (first (of_list p) h)
lists h p ts d = rw d

-- What goes on with an expression.
pub dots : (i : ℕ) (f : Form) (e : Expr) (h : Hole) (p : ℕ) (ts : List Token) → leb 8 (tree.tight f) ≡ true
    → limited 64 (at tree.dot p ∷ ts) (have i f e h) ≡ limited 64 ts (naming (field i e h))
dots i f e h p ts l = rw l

pub subs : (i : ℕ) (f : Form) (e : Expr) (h : Hole) (p : ℕ) (ts : List Token) → leb 8 (tree.tight f) ≡ true → leb 64 (hole_depth h) ≡ false
    → limited 64 (at tree.lbracket p ∷ ts) (have i f e h) ≡ limited 64 ts (want (index i e h))
subs i f e h p ts l d = rw (l, d)

pub pars : (i : ℕ) (f : Form) (e : Expr) (h : Hole) (p : ℕ) (ts : List Token) → tree.callable f ≡ true → leb 64 (hole_depth h) ≡ false
    → limited 64 (at tree.lparen p ∷ ts) (have i f e h) ≡ limited 64 ts (first (of_call i e) h)
pars i f e h p ts l d = rw (l, d)

-- The mark that closes a hole does not come.
pub unclosed : (m : marks.Mark) (k : Hole) (i : ℕ) (f : Form) (e : Expr) (s : ℕ → State) (us : List Token) (y : Stop)
    → ((t : Token) → leaves k i f e t ≡ pick (on (mark_of m) s ∷ []) t) → Stuck i f e k us → NoMark m us y → judged (limited 64 us (have i f e k)) ≡ stop_of y
unclosed m k i f e s [] y l z b = sym b
unclosed m k i f e s (t ∷ us) y l z b =
    bars t us (have i f e k) (ap (λ x. either x (leaves k i f e t)) z ∙ l t ∙ ap (λ x. either x none) (b.0 s)) ∙ sym b.1

pub stuck_next : (i : ℕ) (f : Form) (e : Expr) (h : Hole) (t : Token) (ts us : List Token) → ts ≡ t ∷ us → grows i f e h t ≡ none → Stuck i f e h ts
stuck_next i f e h t ts us q n = subst (Stuck i f e h) (sym q) n

-- An operator between operands.
pub joins : (i : ℕ) (f : Form) (e : Expr) (h : Hole) (o : Op) (p : ℕ) (ts : List Token) → leb (asks h) (tree.level (tree.rank o)) ≡ true → leb (tree.left (tree.rank o)) (tree.tight f) ≡ true
    → limited 64 (at (tree.op o) p ∷ ts) (have i f e h) ≡ limited 64 ts (want (rhs i o e h))
joins i f e h o p ts a l = rw (a, l)

-- A bracket neither leaves a hole nor goes on with what is not tight, at any depth.
data Bracket : Token → Type 0 where
  round : {p : ℕ} → Bracket (at tree.lparen p)
  square : {p : ℕ} → Bracket (at tree.lbracket p)

both_none : {x y : Next} → x ≡ none → y ≡ none → either x y ≡ none
both_none {y = y} e f = ap (λ z. either z y) e ∙ f

no_mark : (m : Mark) (s : ℕ → State) (t : Token) → Bracket t → expect m s t ≡ none
no_mark m s _ round = refl
no_mark m s _ square = refl

only_none : (b : Bool) (x : Next) → x ≡ none → only b x ≡ none
only_none true x e = e
only_none false x e = refl

no_offer : (os : List Offer) (t : Token) → Bracket t → pick os t ≡ none
no_offer [] t b = refl
no_offer (on m s ∷ os) t b = both_none (no_mark m s t b) (no_offer os t b)
no_offer (when c m s ∷ os) t b = both_none (only_none c (expect m s t) (no_mark m s t b)) (no_offer os t b)

loose_op : (r : Rank) → leb 8 (tree.level r) ≡ false
loose_op tree.disjunction = refl
loose_op tree.conjunction = refl
loose_op tree.comparison = refl
loose_op tree.sum = refl
loose_op tree.product = refl

loose_pre : (u : Pre) → leb 8 (tree.reach u) ≡ false
loose_pre tree.not = refl
loose_pre tree.neg = refl

op_loose : (i : ℕ) (r : Rank) (e : Expr) (h : Hole) (t : Token) → Bracket t → grows i (tree.binary r) e h t ≡ none
op_loose i r e h _ round = refl
op_loose i r e h _ square = rw (loose_op r)

pre_loose : (i : ℕ) (u : Pre) (e : Expr) (h : Hole) (t : Token) → Bracket t → grows i (tree.prefix u) e h t ≡ none
pre_loose i u e h _ round = refl
pre_loose i u e h _ square = rw (loose_pre u)

stays : (h : Hole) (i : ℕ) (f : Form) (e : Expr) (t : Token) → Bracket t → leaves h i f e t ≡ none
stays (line q es b) i f e t k =
    no_offer (on tree.newline (λ j. start (add (tree.assigns q es e) b)) ∷ when (tree.target f) tree.assign (λ j. want (line q (tree.snoc es e) b)) ∷ vars es b i f) t k
stays (value p b) i f e t k = no_offer (on tree.newline (λ q. start (add (tree.ret p e) b)) ∷ []) t k
stays (arm_test aa p b) i f e t k = no_offer (on tree.colon (λ q. block_of (arms aa p e tree.empty b)) ∷ []) t k
stays (loop_test p b) i f e t k = no_offer (on tree.colon (λ q. block_of (loops p e tree.empty b)) ∷ []) t k
stays (each_of p n b) i f e t k = no_offer (on tree.colon (λ q. block_of (eachs p n e tree.empty b)) ∷ []) t k
stays (rhs p o a h) i f e t k = both_none (op_loose p (tree.rank o) (tree.bin p o a e) h t k) (stays h p (tree.binary (tree.rank o)) (tree.bin p o a e) t k)
stays (under p u h) i f e t k = both_none (pre_loose p u (tree.pre p u e) h t k) (stays h p (tree.prefix u) (tree.pre p u e) t k)
stays (paren p h) i f e t k = no_offer (on tree.rparen (λ q. have p tree.closed e h) ∷ []) t k
stays (index p a h) i f e t k = no_offer (on tree.rbracket (λ q. have p tree.indexed (tree.idx p a e) h) ∷ []) t k
stays (group g es h) i f e t k =
    no_offer (on tree.comma (λ q. want (group g (tree.snoc es e) h)) ∷ on (closer g) (λ q. have (from g) tree.closed (build g (tree.snoc es e)) h) ∷ []) t k

-- what no bracket does is read alike at any depth
alike : (m n : ℕ) (t : Token) (ts : List Token) (x : Next) → (Bracket t → x ≡ none)
    → proceeds (limited 64 ts) (exceeds 64 (label m plain no_label t)) t ts x ≡ proceeds (limited 64 ts) (exceeds 64 (label n plain no_label t)) t ts x
alike m n (at (tree.name v) p) ts x b = refl
alike m n (at (tree.lit v) p) ts x b = refl
alike m n (at tree.dot p) ts x b = refl
alike m n (at tree.lparen p) ts x b =
    ap (proceeds (limited 64 ts) (exceeds 64 (opening m)) (at tree.lparen p) ts) (b round)
    ∙ sym (ap (proceeds (limited 64 ts) (exceeds 64 (opening n)) (at tree.lparen p) ts) (b round))
alike m n (at tree.lbracket p) ts x b =
    ap (proceeds (limited 64 ts) (exceeds 64 (opening m)) (at tree.lbracket p) ts) (b square)
    ∙ sym (ap (proceeds (limited 64 ts) (exceeds 64 (opening n)) (at tree.lbracket p) ts) (b square))
alike m n (at tree.not_word p) ts x b = refl
alike m n (at (tree.op o) p) ts x b = refl
alike m n (at (tree.mark j) p) ts x b = refl
alike m n (at (tree.wrong v) p) ts x b = refl

-- An operand that is complete goes on in the hole around.
pub sheds_op : (i : ℕ) (f : Form) (e : Expr) (j : ℕ) (o : Op) (a : Expr) (h : Hole) (us : List Token) → Stuck i f e (rhs j o a h) us
    → limited 64 us (have i f e (rhs j o a h)) ≡ limited 64 us (have j (tree.binary (tree.rank o)) (tree.bin j o a e) h)
sheds_op i f e j o a h [] z = refl
sheds_op i f e j o a h (t ∷ us) z = ap (λ y. proceeds (limited 64 us) (exceeds 64 (sees (have i f e (rhs j o a h)) t)) t us (either y (leaves (rhs j o a h) i f e t))) z

pub sheds_pre : (i : ℕ) (f : Form) (e : Expr) (j : ℕ) (u : Pre) (h : Hole) (us : List Token) → Stuck i f e (under j u h) us
    → limited 64 us (have i f e (under j u h)) ≡ limited 64 us (have j (tree.prefix u) (tree.pre j u e) h)
sheds_pre i f e j u h [] z = refl
sheds_pre i f e j u h (t ∷ us) z =
    ap (λ y. proceeds (limited 64 us) (exceeds 64 (sees (have i f e (under j u h)) t)) t us (either y (leaves (under j u h) i f e t))) z
    ∙ alike (suc (hole_depth h)) (hole_depth h) t us (leaves (under j u h) i f e t) (stays (under j u h) i f e t)

-- The form in the code tells how tight an expression is.
pub tight_same : (f : code.Form) (e : Expr) → tree.tight (form_of f e) ≡ tight_of f
tight_same code.Form.Named e = refl
tight_same code.Form.Member e = refl
tight_same code.Form.Indexed e = refl
tight_same code.Form.Closed e = refl
tight_same (code.Form.Binary r) e = refl
tight_same (code.Form.Prefix o) e = refl

pub callable_same : (f : code.Form) (e : Expr) → tree.callable (form_of f e) ≡ is_callable f
callable_same code.Form.Named e = refl
callable_same code.Form.Member e = refl
callable_same code.Form.Indexed e = refl
callable_same code.Form.Closed e = refl
callable_same (code.Form.Binary r) e = refl
callable_same (code.Form.Prefix o) e = refl

only_if : (b : Bool) (g : Growth) (x : Next) → cond b (Some g) None ≡ None → only b x ≡ none
only_if true g x e = let z : ◌≡◌ {A = ℕ} 0 1 = cc in absurd (omega arith)
only_if false g x e = refl

only_both : (a b : Bool) (x : Next) → only (a && b) x ≡ only a (only b x)
only_both true b x = refl
only_both false b x = refl

-- What does not go on leaves the expression as it is.
pub rests : (src : List ℕ) (p : ℕ) (k : Kind) (f : code.Form) (a i : ℕ) (e : Expr) (h : Hole) → asks h ≡ a → growth_of k f a ≡ None → grows i (form_of f e) e h (at (kind_model src p k) p) ≡ none
rests src p (Kind.Name n) f a i e h q g = refl
rests src p (Kind.Text n) f a i e h q g = refl
rests src p (Kind.Constant l) f a i e h q g = refl
rests src p Kind.Dot f a i e h q g = ap (λ b. only (leb 8 b) (some (naming (field i e h)))) (tight_same f e) ∙ only_if (leb 8 (tight_of f)) Growth.Member (some (naming (field i e h))) g
rests src p Kind.LeftRound f a i e h q g = ap (λ b. only b (some (first (of_call i e) h))) (callable_same f e) ∙ only_if (is_callable f) Growth.Call (some (first (of_call i e) h)) g
rests src p Kind.LeftSquare f a i e h q g = ap (λ b. only (leb 8 b) (some (want (index i e h)))) (tight_same f e) ∙ only_if (leb 8 (tight_of f)) Growth.Index (some (want (index i e h))) g
rests src p Kind.Not f a i e h q g = refl
rests src p (Kind.Operator o) f a i e h q g =
    let l = tree.level (tree.rank (binary_of o)) in
    let r = tree.left (tree.rank (binary_of o)) in
    let s : Next = some (want (rhs i (binary_of o) e h)) in
    ap (λ x. only (leb x l) (only (leb r (tree.tight (form_of f e))) s)) q
    ∙ ap (λ x. only (leb a l) (only (leb r x) s)) (tight_same f e)
    ∙ sym (only_both (leb a l) (leb r (tight_of f)) s)
    ∙ only_if (leb a l && leb r (tight_of f)) (Growth.Operator o) s g
rests src p (Kind.Mark m) f a i e h q g = refl
rests src p (Kind.Fault x) f a i e h q g = refl

some_if : (b : Bool) (x g : Growth) → cond b (Some x) None ≡ Some g → (b ≡ true) × (x ≡ g)
some_if true x g e = (refl, (let same : x ≡ g = cc in same))
some_if false x g e = let z : ◌≡◌ {A = ℕ} 0 1 = cc in absurd (omega arith)

both_true : (a b : Bool) → (a && b) ≡ true → (a ≡ true) × (b ≡ true)
both_true true b e = (refl, e)
both_true false b e = let z : ◌≡◌ {A = ℕ} 0 1 = cc in absurd (omega arith)

no_growth : (k : Kind) (f : code.Form) (a : ℕ) (g : Growth) → ◌≡◌ {A = Option Growth} None (Some g) → Grown k f a g
no_growth k f a g e = let z : ◌≡◌ {A = ℕ} 0 1 = cc in absurd (omega arith)

-- What goes on is what the token stands for.
pub goes_on : (k : Kind) (f : code.Form) (a : ℕ) (g : Growth) → growth_of k f a ≡ Some g → Grown k f a g
goes_on (Kind.Name n) f a g e = no_growth (Kind.Name n) f a g e
goes_on (Kind.Text n) f a g e = no_growth (Kind.Text n) f a g e
goes_on (Kind.Constant l) f a g e = no_growth (Kind.Constant l) f a g e
goes_on Kind.Dot f a g e = let x = some_if (leb 8 (tight_of f)) Growth.Member g e in subst (Grown Kind.Dot f a) x.1 (refl, x.0)
goes_on Kind.LeftRound f a g e = let x = some_if (is_callable f) Growth.Call g e in subst (Grown Kind.LeftRound f a) x.1 (refl, x.0)
goes_on Kind.LeftSquare f a g e = let x = some_if (leb 8 (tight_of f)) Growth.Index g e in subst (Grown Kind.LeftSquare f a) x.1 (refl, x.0)
goes_on Kind.Not f a g e = no_growth Kind.Not f a g e
goes_on (Kind.Operator o) f a g e =
    let l = leb a (tree.level (tree.rank (binary_of o))) in
    let r = leb (tree.left (tree.rank (binary_of o))) (tight_of f) in
    let x = some_if (l && r) (Growth.Operator o) g e in
    let y = both_true l r x.0 in
    subst (Grown (Kind.Operator o) f a) x.1 (refl, y.0, y.1)
goes_on (Kind.Mark m) f a g e = no_growth (Kind.Mark m) f a g e
goes_on (Kind.Fault k) f a g e = no_growth (Kind.Fault k) f a g e
