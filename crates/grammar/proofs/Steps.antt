-- The way of the machine over a list of tokens, and what it tells of programs.
use Rattle.std.proofs.Common.{◌≡◌, suc, List, [], ◌∷◌, ◌++◌, length, take, sym, refl, ap, ◌∙◌, subst}
use mathlib.Core.Option.{none, some}
use Rattle.std.proofs.lemmas.List.{same_from_push, append-nil}
use Rattle.grammar.specs.Tree.{Token, Stmts, Decls}
use Rattle.grammar.specs.Grammar.{Program}
use Rattle.grammar.specs.Profile.{Label, profile}
use Rattle.grammar.specs.Reader.{State, Next, Outcome, want, first, have, naming, seq, opens, params, typing, typed, value_of, returns, more, start, inner, done, step, accepted, refused, short, stops}
use Rattle.grammar.specs.Reader.{goes, run, begin, read}
use Rattle.grammar.specs.Limits.{sees, moves, trail}
use Rattle.grammar.specs.Theorems.{Begins}
use Rattle.grammar.specs.Exactly.{Labelled}
use Rattle.grammar.proofs.Complete.{followed, agrees, complete}
use Rattle.grammar.proofs.Sound.{sound}
use Rattle.grammar.proofs.Alive.{goes_on}

-- The machine goes over the tokens from one state to another, and sees these labels.
pub data Steps : State → List Token → List Label → State → Type 0 where
  here : {s : State} → Steps s [] [] s
  one : {s k : State} {t : Token} {ts : List Token} {ls : List Label} → (m : State) → step s t ≡ some m → Steps m ts ls k → Steps s (t ∷ ts) (sees s t ∷ ls) k

pub trailed : {s k : State} {ts : List Token} {ls : List Label} → Steps s ts ls k
    → (us : List Token) → trail (ts ++ us) s ≡ (ls ++ (trail us k).0, (trail us k).1)
trailed here us = refl
trailed (one {s = s} {t = t} {ts = ts} m e x) us =
    ap (moves (trail (ts ++ us)) (sees s t) t (ts ++ us)) e ∙ ap (λ w. (sees s t ∷ w.0, w.1)) (trailed x us)

pub trailed_whole : {s k : State} {ts : List Token} {ls : List Label} → Steps s ts ls k → trail ts s ≡ (ls, stops k)
trailed_whole here = refl
trailed_whole (one {s = s} {t = t} {ts = ts} m e x) = ap (moves (trail ts) (sees s t) t ts) e ∙ ap (λ w. (sees s t ∷ w.0, w.1)) (trailed_whole x)

pub as_long : {s k : State} {ts : List Token} {ls : List Label} → Steps s ts ls k → length ls ≡ length ts
as_long here = refl
as_long (one m e x) = ap suc (as_long x)

pub one_on : {s k : State} {ts : List Token} {ls : List Label} → Steps s ts ls k → (t : Token) (m : State) → step k t ≡ some m
    → Steps s (ts ++ (t ∷ [])) (ls ++ (sees k t ∷ [])) m
one_on here t m e = one m e here
one_on (one j e x) t m f = one j e (one_on x t m f)

abbrev pub Accepted : Outcome → Type 0
Accepted (accepted ds ss) = Unit {0}
Accepted (refused t ts) = ⊥
Accepted short = ⊥

pub append : {A : Type 0} (xs : List A) (t : A) (ys : List A) → (xs ++ (t ∷ [])) ++ ys ≡ xs ++ (t ∷ ys)
append [] t ys = refl
append (x ∷ xs) t ys = ap (λ zs. x ∷ zs) (append xs t ys)

pub take_all : {A : Type 0} (xs ys : List A) → take (length xs) (xs ++ ys) ≡ xs
take_all [] ys = refl
take_all (x ∷ xs) ys = ap (λ zs. x ∷ zs) (take_all xs ys)

-- no end is a refusal
abbrev pub Stop : Outcome → Type 0
Stop (accepted ds ss) = Unit {0}
Stop (refused t ts) = ⊥
Stop short = Unit {0}

pub stop : (s : State) → Stop (stops s)
stop (want h) = tt
stop (first g h) = tt
stop (have p f e h) = tt
stop (naming k) = tt
stop (seq m ms s) = tt
stop (opens s) = tt
stop (params p n o) = tt
stop (typing s) = tt
stop (typed a s) = tt
stop (value_of n a o) = tt
stop (returns p b) = tt
stop (more aa b) = tt
stop (start b) = tt
stop (inner p n m ds os) = tt
stop (done ds ss) = tt

-- The labels that the machine sees are those of every program that begins so.
pub ran : {ts : List Token} {ls : List Label} {k : State} → Steps begin ts ls k → (us : List Token) → run (ts ++ us) begin ≡ run us k
ran {ts} {ls} {k} x us = sym (agrees (ts ++ us) begin) ∙ ap (λ w. w.1) (trailed x us) ∙ agrees us k

pub begun : {ts : List Token} {ls : List Label} {k : State} → Steps begin ts ls k → Begins ts
begun {ts} {ls} {k} x = goes_on ts k (ran x)

pub labelled : {ts : List Token} {ls : List Label} {k : State} → Steps begin ts ls k → Labelled ts ls
labelled {ts} {ls} {k} x = (
  begun x,
  λ us ds ss d.
      ap (take (length ts)) (ap (λ w. w.0) (sym (followed (ts ++ us) ds ss d) ∙ trailed x us))
      ∙ ap (λ n. take n (ls ++ (trail us k).0)) (sym (as_long x)) ∙ take_all ls (trail us k).0,
)

-- where a program goes on, the machine has gone
pub through_next : (s : State) (t : Token) (ts us : List Token) (x : Next) → step s t ≡ x → Accepted (goes (run (ts ++ us)) t (ts ++ us) x)
    → ((m : State) → Accepted (run (ts ++ us) m) → (k : State) × (ls : List Label) × Steps m ts ls k)
    → (k : State) × (ls : List Label) × Steps s (t ∷ ts) ls k
through_next s t ts us none e a f = absurd a
through_next s t ts us (some m) e a f =
    let r : (k : State) × (ls : List Label) × Steps m ts ls k = f m a in (r.0, sees s t ∷ r.1, one m e r.2)

pub through : (ts : List Token) (s : State) (us : List Token) → Accepted (run (ts ++ us) s) → (k : State) × (ls : List Label) × Steps s ts ls k
through [] s us a = (s, [], here)
through (t ∷ ts) s us a = through_next s t ts us (step s t) refl a (λ m. through ts m us)

pub known : (ts : List Token) (ls : List Label) → Labelled ts ls → (k : State) × Steps begin ts ls k
known ts ls l =
    let b : Begins ts = l.0 in
    let r : (k : State) × (js : List Label) × Steps begin ts js k = through ts begin b.0 (subst Accepted (sym (complete (ts ++ b.0) b.1 b.2 b.3)) tt) in
    (r.0, subst (λ x. Steps begin ts x r.0) (sym ((labelled r.2).1 b.0 b.1 b.2 b.3) ∙ l.1 b.0 b.1 b.2 b.3) r.2)

pub split : (ts : List Token) {s m : State} {t : Token} {js : List Label} → Steps s (ts ++ (t ∷ [])) js m
    → (k : State) × (ls : List Label) × Steps s ts ls k × (step k t ≡ some m) × (js ≡ ls ++ (sees k t ∷ []))
split [] {s} (one m e here) = (s, [], here, e, refl)
split (x ∷ ts) {s} (one j e y) = let r = split ts y in (r.0, sees s x ∷ r.1, one j e r.2, r.3, ap (λ z. sees s x ∷ z) r.4)

-- the same for the last of the tokens
pub known_last : (ts : List Token) (t : Token) (ls : List Label) (l : Label) → Labelled (ts ++ (t ∷ [])) (ls ++ (l ∷ []))
    → (k : State) × (m : State) × Steps begin ts ls k × (step k t ≡ some m) × (sees k t ≡ l)
known_last ts t ls l x =
    let r : (m : State) × Steps begin (ts ++ (t ∷ [])) (ls ++ (l ∷ [])) m = known (ts ++ (t ∷ [])) (ls ++ (l ∷ [])) x in
    let q : (k : State) × (js : List Label) × Steps begin ts js k × (step k t ≡ some r.0) × (ls ++ (l ∷ []) ≡ js ++ (sees k t ∷ [])) = split ts r.1 in
    let same : (ls ≡ q.1) × (l ≡ sees q.0 t) = same_from_push ls q.1 l (sees q.0 t) q.4 in
    (q.0, r.0, subst (λ z. Steps begin ts z q.0) (sym same.0) q.2, q.3, sym same.1)

-- a program's tokens take the machine to its end
pub all_through : (ts : List Token) (ds : Decls) (ss : Stmts) (d : Program ds ss ts) → (k : State) × Steps begin ts (profile d) k × (stops k ≡ accepted ds ss)
all_through ts ds ss d =
    let a : run (ts ++ []) begin ≡ accepted ds ss = ap (λ x. run x begin) (append-nil ts) ∙ complete ts ds ss d in
    let r : (k : State) × (ls : List Label) × Steps begin ts ls k = through ts begin [] (subst Accepted (sym a) tt) in
    let e : (r.1, stops r.0) ≡ (profile d, accepted ds ss) = sym (trailed_whole r.2) ∙ followed ts ds ss d in
    (r.0, subst (λ x. Steps begin ts x r.0) (ap (λ w. w.0) e) r.2, ap (λ w. w.1) e)

-- nothing follows where the machine has no step
pub stuck : {before : List Token} {ls : List Label} {k : State} (t : Token) → Steps begin before ls k → step k t ≡ none → Begins (before ++ (t ∷ [])) → ⊥
stuck {before} {ls} {k} t x e b =
    subst Accepted (sym (complete _ b.1 b.2 b.3) ∙ ap read (append before t b.0) ∙ ran x (t ∷ b.0) ∙ ap (goes (run b.0) t b.0) e) tt

-- tokens that are no program do not end as one
pub not_yet : {ts : List Token} {ls : List Label} {k : State} → Steps begin ts ls k → ((ds : Decls) (ss : Stmts) → Program ds ss ts → ⊥)
    → (o : Outcome) → stops k ≡ o → Stop o → o ≡ short
not_yet {ts} x f (accepted ds ss) e y = absurd (f ds ss (sound ts ds ss (sym (agrees ts begin) ∙ ap (λ w. w.1) (trailed_whole x) ∙ e)))
not_yet x f (refused t us) e y = absurd y
not_yet x f short e y = refl
