-- The contracts of the combinators: each function's proof is made of these.
use mathlib.Core.List.{List, [], ◌∷◌}
use mathlib.Core.Option.{none, some}
use mathlib.Core.Path.{◌≡◌, refl, ap, ◌∙◌, sym, subst}
use mathlib.Core.Bool.{Bool, true, false}
use Prim.Native.Nat.{ℕ, suc, pred}
use lib.Dec.{T, leb}
use Rattle.grammar.specs.Tree.{Text, Literal, Mark, Token, Id, Ann, mark_discrete}
use Rattle.grammar.specs.Tree.{newline, indent}
use Rattle.grammar.specs.Tree.{name, lit, dot, lparen, lbracket, not_word, op, mark, wrong, at, a_var}
use Rattle.grammar.specs.Reader.{Outer, Hole, Naming, State, Next, Offer}
use Rattle.grammar.specs.Reader.{naming, seq, opens, value_of, join, awaits, either, only, given, expect, on, pick, due, leaves, calls, names, step, stops}
use Rattle.grammar.specs.Profile.{Label, plain, opening}
use Rattle.grammar.specs.Limits.{depth, indents, sees, Limit, levels, when_true, exceeds, Reading, barred, beyond, unfinished, at_the_end, unless, proceeds, limited}
use Rattle.descent.specs.Answers.{Answer, ok, bar, over, cut, tired, bind, decide, test, refuse, fits, may, need, need_name, need_lit, need_paren, need_indent, may_when, Tells, To}
use Rattle.descent.specs.Expressions.{Term, tree, form, begun_at, has, Halts, Into}

pub so : (b : Bool) → T b → b ≡ true
so true t = refl
so false t = absurd t

-- along an equation of the readings
pub moved : {A : Type 0} {P : A → List Token → Reading → Type 0} {a : Answer A} {o r : Reading} → o ≡ r → Tells P a r → Tells P a o
moved {P = P} {a = a} e = subst (Tells P a) (sym e)

pub bind_to : {A B : Type 0} {Q : B → List Token → Reading → Type 0} {r : Answer A} {k : A → List Token → Answer B} {o : Reading} (lim : ℕ) (s : A → State)
    → Tells (To lim s) r o → ((x : A) (us : List Token) → Tells Q (k x us) (limited lim us (s x))) → Tells Q (bind r k) o
bind_to {Q = Q} {r = ok x us} {k = k} lim s t f = subst (Tells Q (k x us)) (sym t.told) (f x us)
bind_to {r = bar t ts} lim s e f = record { told = e.told }
bind_to {r = over l t ts} lim s e f = record { told = e.told }
bind_to {r = cut} lim s e f = record { told = e.told }
bind_to {r = tired} lim s e f = record { told = tt }

pub bind_term : {B : Type 0} {Q : B → List Token → Reading → Type 0} {r : Answer Term} {k : Term → List Token → Answer B} {o : Reading} (lim : ℕ) (h : Hole)
    → Tells (Into lim h) r o → ((x : Term) (us : List Token) → Halts h x us → Tells Q (k x us) (limited lim us (has h x)))
    → Tells Q (bind r k) o
bind_term {Q = Q} {r = ok x us} {k = k} lim h t g = subst (Tells Q (k x us)) (sym t.told.0) (g x us t.told.1)
bind_term {r = bar t ts} lim h e g = record { told = e.told }
bind_term {r = over l t ts} lim h e g = record { told = e.told }
bind_term {r = cut} lim h e g = record { told = e.told }
bind_term {r = tired} lim h e g = record { told = tt }

pub test_tells : {A : Type 0} {P : A → List Token → Reading → Type 0} {x y : Answer A} {o : Reading} (b : Bool)
    → (T b → Tells P x o) → (b ≡ false → Tells P y o) → Tells P (test b x y) o
test_tells true f g = f tt
test_tells false f g = g refl

fits_test : {A : Type 0} {P : A → List Token → Reading → Type 0} {x : Answer A} (b : Bool) (t : Token) (ts : List Token) (r : Reading)
    → Tells P x r → Tells P (test b (over levels t ts) x) (unless (when_true b levels) t ts r)
fits_test true t ts r x = record { told = refl }
fits_test false t ts r x = x

pub fits_tells : {A : Type 0} {P : A → List Token → Reading → Type 0} {x : Answer A} (lim d : ℕ) (t : Token) (ts : List Token) (r : Reading)
    → Tells P x r → Tells P (fits lim d t ts x) (unless (exceeds lim (opening d)) t ts r)
fits_tells {P = P} {x = x} lim d t ts r y = fits_test {P = P} {x = x} (leb lim d) t ts r y

-- The reading where one token is offered: the labels and the next state of each.
abbrev pub offered : ℕ → (Token → Label) → (Token → Next) → List Token → Reading
offered lim l n [] = unfinished
offered lim l n (t ∷ ts) = proceeds (limited lim ts) (exceeds lim (l t)) t ts (n t)

pub unroll : (lim : ℕ) (s : State) (ts : List Token) → at_the_end (stops s) ≡ unfinished → limited lim ts s ≡ offered lim (sees s) (step s) ts
unroll lim s [] e = e
unroll lim s (t ∷ ts) e = refl

-- no mark is over a limit
abbrev pub Calm : (Token → Label) → Type 0
Calm l = (j : Mark) (p : ℕ) → l (at (mark j) p) ≡ plain

decide_tells : {A X : Type 0} {P : A → List Token → Reading → Type 0} {r z : Answer A} (lim : ℕ) (d : Dec X) (l : Label) (t : Token) (ts : List Token) (s : State) (x : Next)
    → l ≡ plain → Tells P r (limited lim ts s) → Tells P z (proceeds (limited lim ts) (exceeds lim l) t ts x)
    → Tells P (decide d r z) (proceeds (limited lim ts) (exceeds lim l) t ts (either (given d s) x))
decide_tells {P = P} {r = r} lim (yes a) l t ts s x e y z = subst (λ k. Tells P r (proceeds (limited lim ts) (exceeds lim k) t ts (some s))) (sym e) y
decide_tells lim (no a) l t ts s x e y z = z

pub may_tells : {A : Type 0} {P : A → List Token → Reading → Type 0} {k : ℕ → List Token → Answer A} {z : Answer A} (lim : ℕ) (m : Mark) (ts : List Token)
    (l : Token → Label) (s : ℕ → State) (n : Token → Next) → Calm l → ((q : ℕ) (vs : List Token) → Tells P (k q vs) (limited lim vs (s q)))
    → Tells P z (offered lim l n ts) → Tells P (may m ts k z) (offered lim l (λ t. either (expect m s t) (n t)) ts)
may_tells lim m [] l s n c x y = y
may_tells lim m (at (name v) p ∷ ts) l s n c x y = y
may_tells lim m (at (lit v) p ∷ ts) l s n c x y = y
may_tells lim m (at dot p ∷ ts) l s n c x y = y
may_tells lim m (at lparen p ∷ ts) l s n c x y = y
may_tells lim m (at lbracket p ∷ ts) l s n c x y = y
may_tells lim m (at not_word p ∷ ts) l s n c x y = y
may_tells lim m (at (op o) p ∷ ts) l s n c x y = y
may_tells {P = P} {k = k} {z = z} lim m (at (mark j) p ∷ ts) l s n c x y =
    decide_tells {P = P} {r = k p ts} {z = z} lim (mark_discrete m j) (l (at (mark j) p)) (at (mark j) p) ts (s p) (n (at (mark j) p)) (c j p) (x p ts) y
may_tells lim m (at (wrong v) p ∷ ts) l s n c x y = y

pub refuse_tells : {A : Type 0} {P : A → List Token → Reading → Type 0} (lim : ℕ) (ts : List Token) (l : Token → Label) → Tells P (refuse ts) (offered lim l (λ t. none) ts)
refuse_tells lim [] l = record { told = refl }
refuse_tells lim (t ∷ ts) l = record { told = refl }

pub need_tells : {A : Type 0} {P : A → List Token → Reading → Type 0} {k : ℕ → List Token → Answer A} (lim : ℕ) (m : Mark) (ts : List Token)
    (l : Token → Label) (s : ℕ → State) → Calm l → ((q : ℕ) (vs : List Token) → Tells P (k q vs) (limited lim vs (s q)))
    → Tells P (need m ts k) (offered lim l (λ t. pick (on m s ∷ []) t) ts)
need_tells lim m ts l s c x = may_tells lim m ts l s (λ t. none) c x (refuse_tells lim ts l)

-- the expression leaves its hole
pub leave : (lim : ℕ) (x : Term) (h : Hole) (us : List Token) → Halts h x us
    → limited lim us (has h x) ≡ offered lim (sees (has h x)) (leaves h (begun_at x) (form x) (tree x)) us
leave lim x h [] z = refl
leave lim x h (t ∷ us) z = ap (λ y. proceeds (limited lim us) (exceeds lim (sees (has h x) t)) t us (either y (leaves h (begun_at x) (form x) (tree x) t))) z

pub name_tells : {A : Type 0} {P : A → List Token → Reading → Type 0} {k : ℕ → Text → List Token → Answer A} (lim : ℕ) (ts : List Token)
    (l : Token → Label) (s : ℕ → Text → State) → ((q : ℕ) (m : Text) → l (at (name m) q) ≡ plain)
    → ((q : ℕ) (m : Text) (vs : List Token) → Tells P (k q m vs) (limited lim vs (s q m))) → Tells P (need_name ts k) (offered lim l (names s) ts)
name_tells lim [] l s c x = record { told = refl }
name_tells {P = P} {k = k} lim (at (name n) p ∷ ts) l s c x = subst (λ z. Tells P (k p n ts) (proceeds (limited lim ts) (exceeds lim z) (at (name n) p) ts (some (s p n)))) (sym (c p n)) (x p n ts)
name_tells lim (at (lit v) p ∷ ts) l s c x = record { told = refl }
name_tells lim (at dot p ∷ ts) l s c x = record { told = refl }
name_tells lim (at lparen p ∷ ts) l s c x = record { told = refl }
name_tells lim (at lbracket p ∷ ts) l s c x = record { told = refl }
name_tells lim (at not_word p ∷ ts) l s c x = record { told = refl }
name_tells lim (at (op o) p ∷ ts) l s c x = record { told = refl }
name_tells lim (at (mark j) p ∷ ts) l s c x = record { told = refl }
name_tells lim (at (wrong j) p ∷ ts) l s c x = record { told = refl }

pub bars : {A : Type 0} {P : A → List Token → Reading → Type 0} {t : Token} {ts : List Token} {o : Reading} → o ≡ barred t ts → Tells P (bar t ts) o
bars e = record { told = e }

pub cuts : {A : Type 0} {P : A → List Token → Reading → Type 0} {o : Reading} → o ≡ unfinished → Tells P cut o
cuts e = record { told = e }

pub tires : {A : Type 0} {P : A → List Token → Reading → Type 0} {o : Reading} → Tells P tired o
tires = record { told = tt }

pub goes_to : {A : Type 0} (lim : ℕ) (s : A → State) (x : A) (us : List Token) → Tells (To lim s) (ok x us) (limited lim us (s x))
goes_to lim s x us = record { told = refl }

pub overs : {A : Type 0} {P : A → List Token → Reading → Type 0} {l : Limit} {t : Token} {ts : List Token} {o : Reading} → o ≡ beyond l t ts → Tells P (over l t ts) o
overs e = record { told = e }

pub same_offers : (lim : ℕ) (l : Token → Label) (x y : Token → Next) (ts : List Token) → ((t : Token) → x t ≡ y t) → offered lim l x ts ≡ offered lim l y ts
same_offers lim l x y [] e = refl
same_offers lim l x y (t ∷ ts) e = ap (proceeds (limited lim ts) (exceeds lim (l t)) t ts) (e t)

assoc : (x y z : Next) → either (either x y) z ≡ either x (either y z)
assoc none y z = refl
assoc (some s) y z = refl

unit : (x : Next) → x ≡ either x none
unit none = refl
unit (some s) = refl

-- the first of some marks, and then what else may come
pub may_pick : {A : Type 0} {P : A → List Token → Reading → Type 0} {k : ℕ → List Token → Answer A} {z : Answer A} (lim : ℕ) (m : Mark) (ts : List Token)
    (l : Token → Label) (s : ℕ → State) (os : List Offer) (n : Token → Next) → Calm l → ((q : ℕ) (vs : List Token) → Tells P (k q vs) (limited lim vs (s q)))
    → Tells P z (offered lim l (λ t. either (pick os t) (n t)) ts) → Tells P (may m ts k z) (offered lim l (λ t. either (pick (on m s ∷ os) t) (n t)) ts)
may_pick lim m ts l s os n c x y =
    moved (same_offers lim l (λ t. either (pick (on m s ∷ os) t) (n t)) (λ t. either (expect m s t) (either (pick os t) (n t))) ts (λ t. assoc (expect m s t) (pick os t) (n t)))
    (may_tells lim m ts l s (λ t. either (pick os t) (n t)) c x y)

swap_given : {X : Type 0} (d : Dec X) (s : State) (x w y : Next) → (X → x ≡ none)
    → either x (either (either (given d s) w) y) ≡ either (given d s) (either x (either w y))
swap_given (yes a) s x w y e = ap (λ z. either z (either (either (some s) w) y)) (e a)
swap_given (no a) s x w y e = refl

-- a mark that the marks before do not have may be looked for first
swap : (m : Mark) (s : ℕ → State) (os ps : List Offer) (y : Next) (t : Token) → ((q : ℕ) → pick os (at (mark m) q) ≡ none)
    → either (pick os t) (either (pick (on m s ∷ ps) t) y) ≡ either (expect m s t) (either (pick os t) (either (pick ps t) y))
swap m s os ps y (at (name v) p) e = refl
swap m s os ps y (at (lit v) p) e = refl
swap m s os ps y (at dot p) e = refl
swap m s os ps y (at lparen p) e = refl
swap m s os ps y (at lbracket p) e = refl
swap m s os ps y (at not_word p) e = refl
swap m s os ps y (at (op o) p) e = refl
swap m s os ps y (at (mark j) p) e =
    swap_given (mark_discrete m j) (s p) (pick os (at (mark j) p)) (pick ps (at (mark j) p)) y (λ a. subst (λ i. pick os (at (mark i) p) ≡ none) a (e p))
swap m s os ps y (at (wrong v) p) e = refl

pub may_front : {A : Type 0} {P : A → List Token → Reading → Type 0} {k : ℕ → List Token → Answer A} {z : Answer A} (lim : ℕ) (m : Mark) (ts : List Token)
    (l : Token → Label) (s : ℕ → State) (os ps : List Offer) (n : Token → Next) → Calm l → ((q : ℕ) → pick os (at (mark m) q) ≡ none)
    → ((q : ℕ) (vs : List Token) → Tells P (k q vs) (limited lim vs (s q)))
    → Tells P z (offered lim l (λ t. either (pick os t) (either (pick ps t) (n t))) ts)
    → Tells P (may m ts k z) (offered lim l (λ t. either (pick os t) (either (pick (on m s ∷ ps) t) (n t))) ts)
may_front lim m ts l s os ps n c e x y =
    moved (same_offers lim l (λ t. either (pick os t) (either (pick (on m s ∷ ps) t) (n t))) (λ t. either (expect m s t) (either (pick os t) (either (pick ps t) (n t)))) ts
    (λ t. swap m s os ps (n t) t e))
    (may_tells lim m ts l s (λ t. either (pick os t) (either (pick ps t) (n t))) c x y)

pub when_tells : {A : Type 0} {P : A → List Token → Reading → Type 0} {k : ℕ → List Token → Answer A} {z : Answer A} (lim : ℕ) (b : Bool) (m : Mark) (ts : List Token)
    (l : Token → Label) (s : ℕ → State) (n : Token → Next) → Calm l → ((q : ℕ) (vs : List Token) → Tells P (k q vs) (limited lim vs (s q)))
    → Tells P z (offered lim l n ts) → Tells P (may_when b m ts k z) (offered lim l (λ t. either (only b (expect m s t)) (n t)) ts)
when_tells lim true m ts l s n c x y = may_tells lim m ts l s n c x y
when_tells lim false m ts l s n c x y = y

-- marks that must come
pub seq_tells : {A : Type 0} {P : A → List Token → Reading → Type 0} {k : ℕ → List Token → Answer A} (lim : ℕ) (m : Mark) (ms : List Mark) (s : State) (ts : List Token)
    → indents m (depth s) ≡ plain → ((q : ℕ) (vs : List Token) → Tells P (k q vs) (limited lim vs (due ms s))) → Tells P (need m ts k) (limited lim ts (seq m ms s))
seq_tells lim m ms s ts e x =
    moved (unroll lim (seq m ms s) ts refl
    ∙ same_offers lim (λ t. indents m (depth s)) (expect m (λ q. due ms s)) (λ t. pick (on m (λ q. due ms s) ∷ []) t) ts (λ t. unit (expect m (λ q. due ms s) t)))
    (need_tells lim m ts (λ t. indents m (depth s)) (λ q. due ms s) (λ j p. e) x)

pub naming_tells : {A : Type 0} {P : A → List Token → Reading → Type 0} {k : ℕ → Text → List Token → Answer A} (lim : ℕ) (c : Naming) (ts : List Token)
    → ((q : ℕ) (m : Text) (vs : List Token) → Tells P (k q m vs) (limited lim vs (calls c q m))) → Tells P (need_name ts k) (limited lim ts (naming c))
naming_tells lim c ts x = moved (unroll lim (naming c) ts refl) (name_tells lim ts (λ t. plain) (calls c) (λ q m. refl) x)

pub lit_tells : {A : Type 0} {P : A → List Token → Reading → Type 0} {k : ℕ → Literal → List Token → Answer A} (lim : ℕ) (v : Id) (a : Ann) (o : Outer) (ts : List Token)
    → ((q : ℕ) (l : Literal) (vs : List Token) → Tells P (k q l vs) (limited lim vs (seq newline [] (awaits (join (a_var v a q l) o)))))
    → Tells P (need_lit ts k) (limited lim ts (value_of v a o))
lit_tells lim v a o [] x = cuts refl
lit_tells lim v a o (at (name n) p ∷ ts) x = bars refl
lit_tells lim v a o (at (lit l) p ∷ ts) x = x p l ts
lit_tells lim v a o (at dot p ∷ ts) x = bars refl
lit_tells lim v a o (at lparen p ∷ ts) x = bars refl
lit_tells lim v a o (at lbracket p ∷ ts) x = bars refl
lit_tells lim v a o (at not_word p ∷ ts) x = bars refl
lit_tells lim v a o (at (op c) p ∷ ts) x = bars refl
lit_tells lim v a o (at (mark j) p ∷ ts) x = bars refl
lit_tells lim v a o (at (wrong j) p ∷ ts) x = bars refl

pub paren_tells : {A : Type 0} {P : A → List Token → Reading → Type 0} {k : List Token → Answer A} (lim d : ℕ) (s : State) (ts : List Token) → depth s ≡ suc d
    → ((vs : List Token) → Tells P (k vs) (limited lim vs s)) → Tells P (need_paren lim d ts k) (limited lim ts (opens s))
paren_tells lim d s [] e x = cuts refl
paren_tells lim d s (at (name n) p ∷ ts) e x = bars refl
paren_tells lim d s (at (lit l) p ∷ ts) e x = bars refl
paren_tells lim d s (at dot p ∷ ts) e x = bars refl
paren_tells lim d s (at lparen p ∷ ts) e x =
    moved (ap (λ z. unless (exceeds lim (opening (pred z))) (at lparen p) ts (limited lim ts s)) e) (fits_tells lim d (at lparen p) ts (limited lim ts s) (x ts))
paren_tells lim d s (at lbracket p ∷ ts) e x = bars refl
paren_tells lim d s (at not_word p ∷ ts) e x = bars refl
paren_tells lim d s (at (op c) p ∷ ts) e x = bars refl
paren_tells lim d s (at (mark j) p ∷ ts) e x = bars refl
paren_tells lim d s (at (wrong j) p ∷ ts) e x = bars refl

indent_given : {A : Type 0} {P : A → List Token → Reading → Type 0} {x : Answer A} (lim d : ℕ) (s : State) (j : Mark) (p : ℕ) (ts : List Token) (c : Dec (indent ≡ j))
    → Tells P x (limited lim ts s)
    → Tells P (decide c (fits lim d (at (mark indent) p) ts x) (bar (at (mark j) p) ts))
    (proceeds (limited lim ts) (exceeds lim (opening d)) (at (mark j) p) ts (given c s))
indent_given {P = P} {x = x} lim d s j p ts (yes e) y =
    subst (λ i. Tells P (fits lim d (at (mark indent) p) ts x) (unless (exceeds lim (opening d)) (at (mark i) p) ts (limited lim ts s))) e
    (fits_tells lim d (at (mark indent) p) ts (limited lim ts s) y)
indent_given lim d s j p ts (no e) y = bars refl

pub indent_tells : {A : Type 0} {P : A → List Token → Reading → Type 0} {k : List Token → Answer A} (lim d : ℕ) (s : State) (ts : List Token) → depth s ≡ suc d
    → ((vs : List Token) → Tells P (k vs) (limited lim vs s)) → Tells P (need_indent lim d ts k) (limited lim ts (seq indent [] s))
indent_tells lim d s [] e x = cuts refl
indent_tells lim d s (at (name n) p ∷ ts) e x = bars refl
indent_tells lim d s (at (lit l) p ∷ ts) e x = bars refl
indent_tells lim d s (at dot p ∷ ts) e x = bars refl
indent_tells lim d s (at lparen p ∷ ts) e x = bars refl
indent_tells lim d s (at lbracket p ∷ ts) e x = bars refl
indent_tells lim d s (at not_word p ∷ ts) e x = bars refl
indent_tells lim d s (at (op c) p ∷ ts) e x = bars refl
indent_tells lim d s (at (mark j) p ∷ ts) e x =
    moved (ap (λ z. proceeds (limited lim ts) (exceeds lim (opening (pred z))) (at (mark j) p) ts (given (mark_discrete indent j) s)) e)
    (indent_given lim d s j p ts (mark_discrete indent j) (x ts))
indent_tells lim d s (at (wrong j) p ∷ ts) e x = bars refl
