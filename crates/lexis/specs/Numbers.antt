-- The value of an integer literal.
use Rattle.std.specs.Prelude.{ℕ, ◌+◌, ◌-◌, ◌*◌, Bool, cond, ◌&&◌, List, length, Some, None, fold, Option, ◌==◌, nat_le, nat_lt, slice_index}

abbrev pub with_digit : ℕ → ℕ → ℕ
with_digit a d = a * 10 + (d - 48)

abbrev pub digits_value : List ℕ → ℕ
digits_value ds = fold with_digit 0 ds

abbrev pub zero_led : List ℕ → Bool
zero_led ds = nat_lt 1 (length ds) && slice_index ds 0 == 48

-- at most 2147483647, and with no zero before other digits
abbrev pub number_of : List ℕ → Option ℕ
number_of ds = cond (zero_led ds) None (cond (nat_le (digits_value ds) 2147483647) (Some (digits_value ds)) None)
