-- What a host means.
use Rattle.std.specs.Prelude.{◌≡◌, ℕ, min, Bool, true, false, cond, List, [], ◌∷◌, length, nat_lt}

-- all that a caller can tell of a host
pub record Meaning : Type 0 where
  -- the lines waiting, the next one first
  pub lines : List (List ℕ)
  -- the bytes printed so far
  pub printed : List ℕ
  -- the spare: how many bytes can still be printed, line feeds included
  pub spare : ℕ

-- whether no line is over 255 bytes
abbrev pub short_lines : List (List ℕ) → Bool
short_lines [] = true
short_lines (l ∷ ls) = cond (nat_lt 255 (length l)) false (short_lines ls)

abbrev pub Bounded : List (List ℕ) → Type 0
Bounded ls = short_lines ls ≡ true

-- the quota layer: an allowance of bytes over a host that means m
abbrev pub under_quota : ℕ → Meaning → Meaning
under_quota allowance m = record { lines = m.lines; printed = m.printed; spare = min allowance m.spare }
