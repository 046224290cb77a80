-- One step over the bytes of a string.
use Rattle.std.proofs.Common.{◌≡◌, ℕ, ◌-◌, ◌<◌, true, cond, List, [], ◌∷◌, ◌++◌, length, get_or, take, drop, sym, refl, ap, ◌∙◌, arith}
use Rattle.std.proofs.lemmas.Bool.{eq-eqb, ne_eqb}
use Rattle.std.proofs.lemmas.List.{take_rest}
use Rattle.lexis.specs.Texts.{value_from, unescaped, string_value}

pub done : (w : List ℕ) → length w < 1 → string_value w ≡ []
unfolding value_from
done [] h = refl
done (b ∷ w) h = absurd (omega arith)

pub plain : (w : List ℕ) → 0 < length w → (get_or w 0 0 ≡ 92 → ⊥) → string_value w ≡ get_or w 0 0 ∷ string_value (take (length w - 1) (drop 1 w))
unfolding value_from
plain [] h n = absurd (omega arith)
plain (b ∷ w) h n =
    ap (λ t. cond t [] (b ∷ []) ++ value_from t w) (ne_eqb b 92 n) ∙ ap (λ v. b ∷ string_value v) (sym (take_rest (b ∷ w) 1))

opened : (b : ℕ) (w : List ℕ) → b ≡ 92 → string_value (b ∷ w) ≡ value_from true w
unfolding value_from
opened b w e = ap (λ t. cond t [] (b ∷ []) ++ value_from t w) (eq-eqb b 92 e)

pub escaped : (w : List ℕ) → 1 < length w → get_or w 0 0 ≡ 92 → string_value w ≡ unescaped (get_or w 1 0) ∷ string_value (take (length w - 2) (drop 2 w))
unfolding value_from
escaped [] h e = absurd (omega arith)
escaped (b ∷ []) h e = absurd (omega arith)
escaped (b ∷ c ∷ w) h e = opened b (c ∷ w) e ∙ ap (λ v. unescaped c ∷ string_value v) (sym (take_rest (b ∷ c ∷ w) 2))

pub lone : (w : List ℕ) → length w < 2 → get_or w 0 0 ≡ 92 → string_value w ≡ []
unfolding value_from
lone [] h e = refl
lone (b ∷ []) h e = opened b [] e
lone (b ∷ c ∷ w) h e = absurd (omega arith)

pub ruleset steps = (done, plain, escaped, lone)
