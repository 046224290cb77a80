-- What a refusal says, and that nothing else is refused.
use Rattle.std.proofs.Common.{◌≡◌, ℕ, zero, suc, ◌+◌, ◌<◌, List, [], ◌∷◌, ◌++◌, length, take, sym, refl, ap, ◌∙◌, subst, arith, length-append}
use mathlib.Core.Option.{none, some}
use Rattle.grammar.specs.Tree.{Token}
use Rattle.grammar.specs.Profile.{Label}
use Rattle.grammar.specs.Reader.{State, Next, Outcome, step, accepted, refused, short, stops, goes, run, begin, read}
use Rattle.grammar.specs.Limits.{sees}
use Rattle.grammar.specs.Theorems.{Begins, First, Short, Unique, Exact}
use Rattle.grammar.proofs.Complete.{agrees, complete}
use Rattle.grammar.proofs.Steps.{Steps, here, one, trailed_whole, one_on, Accepted, take_all, Stop, stop, ran, begun, through, stuck, not_yet}

-- How the machine came from s over ts to its outcome.
abbrev Came : State → List Token → Outcome → Type 0
Came s ts (accepted ds ss) = Unit {0}
Came s ts (refused t rest) = (before : List Token) × (k : State) × (ls : List Label) × (ts ≡ before ++ (t ∷ rest)) × Steps s before ls k × (step k t ≡ none)
Came s ts short = (k : State) × (ls : List Label) × Steps s ts ls k

came_end : (s : State) (o : Outcome) → Stop o → Came s [] o
came_end s (accepted ds ss) x = tt
came_end s (refused t ts) x = absurd x
came_end s short x = (s, [], here)

came_step : (s k : State) (t : Token) (ts : List Token) → step s t ≡ some k → (o : Outcome) → Came k ts o → Came s (t ∷ ts) o
came_step s k t ts e (accepted ds ss) c = tt
came_step s k t ts e (refused u rest) c = (t ∷ c.0, c.1, sees s t ∷ c.2, ap (λ x. t ∷ x) c.3, one k e c.4, c.5)
came_step s k t ts e short c = (c.0, sees s t ∷ c.1, one k e c.2)

came_next : (s : State) (t : Token) (ts : List Token) (x : Next) → step s t ≡ x → ((k : State) → Came k ts (run ts k)) → Came s (t ∷ ts) (goes (run ts) t ts x)
came_next s t ts none e c = ([], s, [], refl, here, e)
came_next s t ts (some k) e c = came_step s k t ts e (run ts k) (c k)

came : (ts : List Token) (s : State) → Came s ts (run ts s)
came [] s = came_end s (stops s) (stop s)
came (t ∷ ts) s = came_next s t ts (step s t) refl (came ts)

-- where some program goes on, the machine has gone
gone : (ts : List Token) → Begins ts → (k : State) × (ls : List Label) × Steps begin ts ls k
gone ts b = through ts begin b.0 (subst Accepted (sym (complete (ts ++ b.0) b.1 b.2 b.3)) tt)

refuses : (before rest : List Token) (t : Token) {ls : List Label} {k : State} → Steps begin before ls k → (Begins (before ++ (t ∷ [])) → ⊥)
    → (x : Next) → step k t ≡ x → goes (run rest) t rest x ≡ refused t rest
refuses before rest t x f none e = refl
refuses before rest t x f (some m) e = absurd (f (begun (one_on x t m e)))

pub first_refused : First
first_refused ts rest t = (
  (λ e. let c : Came begin ts (refused t rest) = subst (Came begin ts) e (came ts begin) in (c.0, c.3, begun c.4, stuck t c.4 c.5)),
  (λ d. let r : (k : State) × (ls : List Label) × Steps begin d.0 ls k = gone d.0 d.2 in
      ap read d.1 ∙ ran r.2 (t ∷ rest) ∙ refuses d.0 rest t r.2 d.3 (step r.0 t) refl),
)

pub too_short : Short
too_short ts = (
  (λ e. let c : Came begin ts short = subst (Came begin ts) e (came ts begin) in
      (begun c.2, λ ds ss d. subst Accepted (sym (complete ts ds ss d) ∙ e) tt)),
  (λ d. let r : (k : State) × (ls : List Label) × Steps begin ts ls k = gone ts d.0 in
      sym (agrees ts begin) ∙ ap (λ w. w.1) (trailed_whole r.2) ∙ not_yet r.2 d.1 (stops r.0) refl (stop r.0)),
)

pub unique : Unique
unique ts ds es ss us d e =
    let a : read ts ≡ accepted ds ss = complete ts ds ss d in
    let b : read ts ≡ accepted es us = complete ts es us e in (cc, cc)

take_one : (xs : List Token) (t : Token) (ys : List Token) → take (suc (length xs)) (xs ++ (t ∷ ys)) ≡ xs ++ (t ∷ [])
take_one [] t ys = refl
take_one (x ∷ xs) t ys = ap (λ zs. x ∷ zs) (take_one xs t ys)

-- the list falls apart at its k-th token
apart : (ts : List Token) (k : ℕ) → k < length ts
    → (t : Token) × (rest : List Token) × (ts ≡ take k ts ++ (t ∷ rest)) × (take (suc k) ts ≡ take k ts ++ (t ∷ [])) × (length ts ≡ k + suc (length rest))
apart [] k l = absurd (omega arith)
apart (t ∷ ts) zero l = (t, ts, refl, refl, omega arith)
apart (t ∷ ts) (suc k) l =
    let r = apart ts k (omega arith) in (r.0, r.1, ap (λ x. t ∷ x) r.2, ap (λ x. t ∷ x) r.3, omega (arith, r.4))

pub exact : Exact
exact ts k = (
  (λ d. let f = (first_refused ts d.1 d.0).0 d.2 in
      let n : length ts ≡ length f.0 + suc (length d.1) = ap length f.1 ∙ length-append f.0 (d.0 ∷ d.1) in
      let m : length ts ≡ k + suc (length d.1) = d.3 in
      let i : k ≡ length f.0 = omega arith in
      let a : take k ts ≡ f.0 = ap (λ j. take j ts) i ∙ ap (take (length f.0)) f.1 ∙ take_all f.0 (d.0 ∷ d.1) in
      let b : take (suc k) ts ≡ f.0 ++ (d.0 ∷ []) = ap (λ j. take (suc j) ts) i ∙ ap (take (suc (length f.0))) f.1 ∙ take_one f.0 d.0 d.1 in
      (omega arith, subst Begins (sym a) f.2, λ x. f.3 (subst Begins b x))),
  (λ d. let r = apart ts k d.0 in
      (r.0, r.1, (first_refused ts r.1 r.0).1 (take k ts, r.2, d.1, λ x. d.2 (subst Begins (sym r.3) x)), r.4)),
)
