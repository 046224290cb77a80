-- What the limited reader accepts and refuses.
use Rattle.std.proofs.Common.{◌≡◌, ℕ, ◌<◌, ◌≤◌, Bool, true, false, not, T, leb, List, [], ◌∷◌, ◌++◌, length, drop, sym, refl, ap, ◌∙◌, subst, arith, leb→le, take-append-drop}
use mathlib.Core.Option.{Option, none, some}
use lib.Dec.{nleb→lt}
use Rattle.grammar.specs.Tree.{Token, Stmts, Decls}
use Rattle.grammar.specs.Grammar.{Program}
use Rattle.grammar.specs.Profile.{Label, plain, opening, nested, profile}
use Rattle.grammar.specs.Reader.{State, Next, Outcome, step, accepted, refused, short, stops, begin}
use Rattle.grammar.specs.Limits.{sees, trail, Limit, levels, nests, when_true, exceeds, Reading, complete, barred, beyond, unfinished, at_the_end, unless, proceeds, limited}
use Rattle.grammar.specs.Theorems.{Begins}
use Rattle.grammar.specs.Exactly.{Fine, Within, Labelled, Profiled, AcceptedExactly, SixExactly, SevenExactly, EightExactly, UnfinishedExactly}
use Rattle.grammar.proofs.Complete.{followed, agrees, at_most, nor}
use Rattle.grammar.proofs.Sound.{sound}
use Rattle.grammar.proofs.Climbs.{Climbs, climbs, no_higher}
use Rattle.grammar.proofs.Steps.{Steps, here, one, trailed_whole, as_long, one_on, Accepted, append, Stop, stop, begun, labelled, known, known_last, all_through, stuck, not_yet}

-- Within the limits the limited reader goes the same way.
pub fine_none : (lim : ℕ) (l : Label) → Fine lim l → exceeds lim l ≡ none
fine_none lim plain f = refl
fine_none lim (opening n) f = ap (λ b. when_true b levels) (nor (leb lim n) (λ t. omega (arith, leb→le lim n t)))
fine_none lim nested f = absurd f

pub limits : (lim : ℕ) {s k : State} {ts : List Token} {ls : List Label} → Steps s ts ls k → Within lim ls
    → (us : List Token) → limited lim (ts ++ us) s ≡ limited lim us k
limits lim here w us = refl
limits lim (one {s = s} {t = t} {ts = ts} m e x) w us =
    (λ i. proceeds (limited lim (ts ++ us)) (fine_none lim (sees s t) w.0 i) t (ts ++ us) (e i)) ∙ limits lim x w.1 us

pub limits_whole : (lim : ℕ) {s k : State} {ts : List Token} {ls : List Label} → Steps s ts ls k → Within lim ls → limited lim ts s ≡ at_the_end (stops k)
limits_whole lim here w = refl
limits_whole lim (one {s = s} {t = t} {ts = ts} m e x) w =
    (λ i. proceeds (limited lim ts) (fine_none lim (sees s t) w.0 i) t ts (e i)) ∙ limits_whole lim x w.1

-- What the limit says of a label.
abbrev Means : ℕ → Label → Option Limit → Type 0
Means lim l none = Fine lim l
Means lim l (some levels) = (n : ℕ) × (l ≡ opening n) × (lim ≤ n)
Means lim l (some nests) = l ≡ nested

tested : (lim n : ℕ) (b : Bool) → (T b → lim ≤ n) → (T (not b) → n < lim) → Means lim (opening n) (when_true b levels)
tested lim n true f g = (n, refl, f tt)
tested lim n false f g = g tt

means : (lim : ℕ) (l : Label) → Means lim l (exceeds lim l)
means lim plain = tt
means lim (opening n) = tested lim n (leb lim n) (leb→le lim n) (nleb→lt lim n)
means lim nested = refl

-- How the limited reader came from s over ts to what it returns.
abbrev Came : ℕ → State → List Token → Reading → Type 0
Came lim s ts (complete ds ss) = (k : State) × (ls : List Label) × Steps s ts ls k × Within lim ls × (stops k ≡ accepted ds ss)
Came lim s ts (barred t rest) =
    (before : List Token) × (k : State) × (ls : List Label) × (ts ≡ before ++ (t ∷ rest)) × Steps s before ls k × Within lim ls × (step k t ≡ none)
Came lim s ts (beyond j t rest) =
    (before : List Token) × (k : State) × (ls : List Label) × (ts ≡ before ++ (t ∷ rest)) × Steps s before ls k × Within lim ls
    × (m : State) × (step k t ≡ some m) × Means lim (sees k t) (some j)
Came lim s ts unfinished = (k : State) × (ls : List Label) × Steps s ts ls k × Within lim ls × (stops k ≡ short)

came_end : (lim : ℕ) (s : State) (o : Outcome) → stops s ≡ o → Stop o → Came lim s [] (at_the_end o)
came_end lim s (accepted ds ss) e x = (s, [], here, tt, e)
came_end lim s (refused t ts) e x = absurd x
came_end lim s short e x = (s, [], here, tt, e)

came_step : (lim : ℕ) (s m : State) (t : Token) (ts : List Token) → step s t ≡ some m → Fine lim (sees s t) → (r : Reading) → Came lim m ts r → Came lim s (t ∷ ts) r
came_step lim s m t ts e f (complete ds ss) c = (c.0, sees s t ∷ c.1, one m e c.2, (f, c.3), c.4)
came_step lim s m t ts e f (barred u rest) c = (t ∷ c.0, c.1, sees s t ∷ c.2, ap (λ x. t ∷ x) c.3, one m e c.4, (f, c.5), c.6)
came_step lim s m t ts e f (beyond j u rest) c = (t ∷ c.0, c.1, sees s t ∷ c.2, ap (λ x. t ∷ x) c.3, one m e c.4, (f, c.5), c.6, c.7, c.8)
came_step lim s m t ts e f unfinished c = (c.0, sees s t ∷ c.1, one m e c.2, (f, c.3), c.4)

came_on : (lim : ℕ) (s m : State) (t : Token) (ts : List Token) → step s t ≡ some m → (x : Option Limit) → Means lim (sees s t) x
    → Came lim m ts (limited lim ts m) → Came lim s (t ∷ ts) (unless x t ts (limited lim ts m))
came_on lim s m t ts e none f c = came_step lim s m t ts e f (limited lim ts m) c
came_on lim s m t ts e (some j) f c = ([], s, [], refl, here, tt, m, e, f)

came_next : (lim : ℕ) (s : State) (t : Token) (ts : List Token) (x : Next) → step s t ≡ x → ((m : State) → Came lim m ts (limited lim ts m))
    → Came lim s (t ∷ ts) (proceeds (limited lim ts) (exceeds lim (sees s t)) t ts x)
came_next lim s t ts none e c = ([], s, [], refl, here, tt, e)
came_next lim s t ts (some m) e c = came_on lim s m t ts e (exceeds lim (sees s t)) (means lim (sees s t)) (c m)

came : (lim : ℕ) (ts : List Token) (s : State) → Came lim s ts (limited lim ts s)
came lim [] s = came_end lim s (stops s) refl (stop s)
came lim (t ∷ ts) s = came_next lim s t ts (step s t) refl (came lim ts)

pub profiled : Profiled
profiled ts ds ss d = (followed ts ds ss d, as_long (all_through ts ds ss d).1)

accepted_so : (lim : ℕ) (ts : List Token) (ds : Decls) (ss : Stmts) → Came lim begin ts (complete ds ss) → (d : Program ds ss ts) × Within lim (profile d)
accepted_so lim ts ds ss c =
    let e : trail ts begin ≡ (c.1, accepted ds ss) = trailed_whole c.2 ∙ ap (λ o. (c.1, o)) c.4 in
    let d : Program ds ss ts = sound ts ds ss (sym (agrees ts begin) ∙ ap (λ w. w.1) e) in
    (d, subst (Within lim) (ap (λ w. w.0) (sym e ∙ followed ts ds ss d)) c.3)

pub accepted_exactly : AcceptedExactly
accepted_exactly lim ts ds ss = (
  (λ e. accepted_so lim ts ds ss (subst (Came lim begin ts) e (came lim ts begin))),
  (λ d. let r : (k : State) × Steps begin ts (profile d.0) k × (stops k ≡ accepted ds ss) = all_through ts ds ss d.0 in
      limits_whole lim r.1 d.1 ∙ ap at_the_end r.2),
)

-- what the reader does at the token t after others
at_token : (lim : ℕ) {before : List Token} {ls : List Label} {k : State} (ts rest : List Token) (t : Token) → ts ≡ before ++ (t ∷ rest)
    → Steps begin before ls k → Within lim ls → limited lim ts begin ≡ proceeds (limited lim rest) (exceeds lim (sees k t)) t rest (step k t)
at_token lim ts rest t e x w = ap (λ z. limited lim z begin) e ∙ limits lim x w (t ∷ rest)

six_at : (lim : ℕ) (before rest : List Token) (t : Token) {ls : List Label} {k : State} → Steps begin before ls k → (Begins (before ++ (t ∷ [])) → ⊥)
    → (x : Next) → step k t ≡ x → proceeds (limited lim rest) (exceeds lim (sees k t)) t rest x ≡ barred t rest
six_at lim before rest t x f none e = refl
six_at lim before rest t x f (some m) e = absurd (f (begun (one_on x t m e)))

pub six_exactly : SixExactly
six_exactly lim ts rest t = (
  (λ e. let c : Came lim begin ts (barred t rest) = subst (Came lim begin ts) e (came lim ts begin) in
      (c.0, c.2, c.3, labelled c.4, c.5, stuck t c.4 c.6)),
  (λ d. let r : (k : State) × Steps begin d.0 d.1 k = known d.0 d.1 d.3 in
      at_token lim ts rest t d.2 r.1 d.4 ∙ six_at lim d.0 rest t r.1 d.5 (step r.0 t) refl),
)

-- a token that is over a limit
over_so : (lim : ℕ) {ts rest : List Token} {t : Token} {j : Limit} → limited lim ts begin ≡ beyond j t rest
    → (before : List Token) × (ls : List Label) × (l : Label)
    × (ts ≡ before ++ (t ∷ rest)) × Labelled (before ++ (t ∷ [])) (ls ++ (l ∷ [])) × Within lim ls × Means lim l (some j)
over_so lim {ts} {rest} {t} {j} e =
    let c : Came lim begin ts (beyond j t rest) = subst (Came lim begin ts) e (came lim ts begin) in
    (c.0, c.2, sees c.1 t, c.3, labelled (one_on c.4 t c.6 c.7), c.5, c.8)

so_over : (lim : ℕ) (ts rest : List Token) (t : Token) (j : Limit) (before : List Token) (ls : List Label) (l : Label)
    → ts ≡ before ++ (t ∷ rest) → Labelled (before ++ (t ∷ [])) (ls ++ (l ∷ [])) → Within lim ls → exceeds lim l ≡ some j → limited lim ts begin ≡ beyond j t rest
so_over lim ts rest t j before ls l e x w f =
    let r : (k : State) × (m : State) × Steps begin before ls k × (step k t ≡ some m) × (sees k t ≡ l) = known_last before t ls l x in
    at_token lim ts rest t e r.2 w ∙ (λ i. proceeds (limited lim rest) ((ap (exceeds lim) r.4 ∙ f) i) t rest (r.3 i))

-- no more than lim levels are open around it
just : (lim : ℕ) (ts : List Token) (ls : List Label) (n : ℕ) → Labelled ts (ls ++ (opening n ∷ [])) → Within lim ls → lim ≤ n → opening n ≡ opening lim
just lim ts ls n x w l =
    let b : Begins ts = x.0 in
    let d : Program b.1 b.2 (ts ++ b.0) = b.3 in
    let rest : List Label = drop (length ts) (profile d) in
    let e : profile d ≡ ls ++ (opening n ∷ rest) =
    sym (take-append-drop (length ts) (profile d)) ∙ ap (λ z. z ++ rest) (x.1 b.0 b.1 b.2 d) ∙ append ls (opening n) rest in
    let m : n ≤ lim = no_higher lim ls n rest (subst (Climbs lim) e (climbs lim d)) w in
    ap opening (omega arith)

pub seven_exactly : SevenExactly
seven_exactly lim ts rest t = (
  (λ e. let c = over_so lim e in
      let l : Labelled (c.0 ++ (t ∷ [])) (c.1 ++ (opening c.6.0 ∷ [])) = subst (λ l. Labelled (c.0 ++ (t ∷ [])) (c.1 ++ (l ∷ []))) c.6.1 c.4 in
      (c.0, c.1, c.3, subst (λ l. Labelled (c.0 ++ (t ∷ [])) (c.1 ++ (l ∷ []))) (just lim _ c.1 c.6.0 l c.5 c.6.2) l, c.5)),
  (λ d. so_over lim ts rest t levels d.0 d.1 (opening lim) d.2 d.3 d.4 (ap (λ b. when_true b levels) (at_most {m = lim} {n = lim} (omega arith)))),
)

pub eight_exactly : EightExactly
eight_exactly lim ts rest t = (
  (λ e. let c = over_so lim e in
      (c.0, c.1, c.3, subst (λ l. Labelled (c.0 ++ (t ∷ [])) (c.1 ++ (l ∷ []))) c.6 c.4, c.5)),
  (λ d. so_over lim ts rest t nests d.0 d.1 nested d.2 d.3 d.4 refl),
)

pub unfinished_exactly : UnfinishedExactly
unfinished_exactly lim ts = (
  (λ e. let c : Came lim begin ts unfinished = subst (Came lim begin ts) e (came lim ts begin) in
      (c.1, labelled c.2, c.3, λ ds ss d. subst Accepted (ap (λ w. w.1) (sym (followed ts ds ss d) ∙ trailed_whole c.2) ∙ c.4) tt)),
  (λ d. let r : (k : State) × Steps begin ts d.0 k = known ts d.0 d.1 in
      limits_whole lim r.1 d.2 ∙ ap at_the_end (not_yet r.1 d.3 (stops r.0) refl (stop r.0))),
)
