-- The search among the keywords.
use Rattle.std.proofs.Common.{◌≡◌, ℕ, cond, List, [], ◌∷◌, Some, refl, ap}
use Rattle.std.specs.List.{find}
use Rattle.std.specs.Str.{bytes_eq}
use Rattle.lexis.specs.Words.{spelled, first_spelled}
use Rattle.lexis.specs.declared.tokens.Keyword.{Keyword}

pub found : (ks : List Keyword) (w : List ℕ) → first_spelled ks w ≡ find (λ k. bytes_eq (spelled k) w) ks
found [] w = refl
found (k ∷ ks) w = ap (cond (bytes_eq (spelled k) w) (Some k)) (found ks w)
