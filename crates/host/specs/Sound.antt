-- The bytes that a checked value may hold.
use Rattle.std.specs.Prelude.{◌≡◌, ℕ, Bool, true, List, [], ◌∷◌, Option, drop}
use Rattle.std.specs.Option.{is_none}

-- no bytes, or bytes without a flaw
abbrev pub empty_or_sound : {F : Type 0} → (List ℕ → Option F) → List ℕ → Bool
empty_or_sound flaw [] = true
empty_or_sound flaw (b ∷ bs) = is_none (flaw (b ∷ bs))

-- what is left of such bytes after some of them
pub record LeftOfSound {F : Type 0} (flaw : List ℕ → Option F) (left : List ℕ) : Type 0 where
  pub whole : List ℕ
  pub sound : empty_or_sound flaw whole ≡ true
  pub gone : ℕ
  pub rest : left ≡ drop gone whole
