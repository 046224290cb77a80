-- A number of digits, as long as it is at most the limit.
use Rattle.std.specs.Prelude.{ℕ, cond, Some, None, Option, nat_le}
use Rattle.lexis.specs.Numbers.{with_digit}

abbrev pub capped : ℕ → ℕ → Option ℕ
capped v d = cond (nat_le (with_digit v d) 2147483647) (Some (with_digit v d)) None
