-- The value of a run of digits, one after the other, as long as it is within the limit.
use Rattle.std.proofs.Common.{◌≡◌, ℕ, ◌<◌, ◌≤◌, Bool, true, false, cond, nat_le, List, [], ◌∷◌, length, Some, None, Option, Bor, Iter, sym, refl, ap, ◌∙◌, arith}
use Rattle.std.specs.Iterator.{Yields}
use Rattle.std.specs.Slice.Iter.{iter_steps, iter_rest}
use Rattle.std.specs.Option.{MatchOption}
use Rattle.std.proofs.lemmas.List.{nil_from_length}
use Rattle.std.specs.List.{fold, FoldsTo}
use Rattle.std.proofs.lemmas.Bool.{cond-true, cond-false, leb-true, leb-false, le-leb, lt-leb}
use Rattle.lexis.specs.Numbers.{number_of, digits_value, with_digit, zero_led}
use Rattle.lexer.specs.Capped.{capped}

-- digits never make a number smaller
grows : (a : ℕ) (ds : List ℕ) → a ≤ fold with_digit a ds
grows a [] = omega arith
grows a (d ∷ ds) = omega (arith, grows (with_digit a d) ds)

within : (v n : ℕ) (b : Bool) → nat_le n 2147483647 ≡ b → Some v ≡ cond b (Some n) None → (v ≡ n) × (v ≤ 2147483647)
within v n true e f =
    let same : v ≡ n = cc in
    let low : n ≤ 2147483647 = leb-true n 2147483647 e in
    (same, omega arith)
within v n false e f = absurd cc

beyond : (n : ℕ) (b : Bool) → nat_le n 2147483647 ≡ b → None ≡ cond b (Some n) None → 2147483647 < n
beyond n true e f = absurd cc
beyond n false e f = leb-false n 2147483647 e

-- steps that each keep within the limit go on with the digits that are left
module _ {F : Type 0} (turn : F × ℕ → Bor ℕ → F × ℕ → Type 0) (calls : (p : F × ℕ) (x : Bor ℕ) (q : F × ℕ) → turn p x q → Some q.1 ≡ capped p.1 x.now) where
  pub value_so_far : (xs : List (Bor ℕ)) (s t : Iter ℕ) (p q : F × ℕ) → Yields iter_steps s xs t → FoldsTo turn p xs q → p.1 ≤ 2147483647 → (q.1 ≤ 2147483647) × (fold with_digit p.1 (iter_rest s) ≡ fold with_digit q.1 (iter_rest t))
  value_so_far [] s t p q y f h = let e : p.1 ≡ q.1 = ap (λ (w : F × ℕ). w.1) f in (omega arith, ap (λ n. fold with_digit n (iter_rest s)) e ∙ ap (λ (u : Iter ℕ). fold with_digit q.1 (iter_rest u)) y)
  value_so_far (x ∷ xs) s t p q y f h =
      let one = within f.0.1 (with_digit p.1 x.now) _ refl (calls p x f.0 f.1) in
      let more = value_so_far xs y.0 t f.0 q y.2 f.2 one.1 in
      (more.0, ap (fold with_digit p.1) y.1 ∙ ap (λ n. fold with_digit n (iter_rest y.0)) (sym one.0) ∙ more.1)

-- a is the total at the end, or at the digit that passes the limit
module _ (ds : List ℕ) (a : ℕ) (left : List ℕ) (z : zero_led ds ≡ false) (low : a ≤ 2147483647) (total : digits_value ds ≡ fold with_digit a left) where
  whole : left ≡ [] → number_of ds ≡ Some a
  whole e =
      let same : digits_value ds ≡ a = total ∙ ap (fold with_digit a) e in
      cond-false _ _ _ z ∙ cond-true _ _ _ (le-leb (digits_value ds) 2147483647 (omega arith)) ∙ ap Some same

  broken : (d : ℕ) (more : List ℕ) → left ≡ d ∷ more → None ≡ capped a d → number_of ds ≡ None
  broken d more e f =
      let high : 2147483647 < with_digit a d = beyond (with_digit a d) _ refl f in
      let same : digits_value ds ≡ fold with_digit (with_digit a d) more = total ∙ ap (fold with_digit a) e in
      let over : 2147483647 < digits_value ds = omega (arith, high, same, grows (with_digit a d) more) in
      cond-false _ _ _ z ∙ cond-false _ _ _ (lt-leb (digits_value ds) 2147483647 over)

  pub ended : (o : Option (Bor ℕ)) (result : Option ℕ) (P : Type 0) (tail : List ℕ) (Q : Bor ℕ → Type 0) → MatchOption o ((length left ≡ 0) × P) (λ x. left ≡ x.now ∷ tail) → MatchOption o (result ≡ Some a) Q → ((x : Bor ℕ) → Q x → (None ≡ capped a x.now) × (result ≡ None)) → result ≡ number_of ds
  ended None result P tail Q h e k = e ∙ sym (whole (nil_from_length left h.0))
  ended (Some x) result P tail Q h e k = let n = k x e in n.1 ∙ sym (broken x.now tail h n.0)
