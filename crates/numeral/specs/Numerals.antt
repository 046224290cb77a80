-- The decimal numeral of a number, and what writing it into a place answers and leaves.
use Rattle.std.specs.Prelude.{◌≡◌, ℕ, zero, suc, ◌+◌, ◌/◌, ◌%◌, ◌^◌, ◌<◌, cond, List, [], ◌∷◌, ◌++◌, length, drop, Ok, Err, decimal, Result, nat_lt}
use Rattle.numeral.specs.declared.errors.NumeralError.{NumeralError}
use Rattle.numeral.specs.declared.errors.NumeralError.TheVariants.{OverBound, PlaceTooShort}

-- the digits of n, at most k of them, in front of others
abbrev pub numeral_before : ℕ → ℕ → List ℕ → List ℕ
numeral_before zero n others = others
numeral_before (suc k) n others = cond (nat_lt n 10) ((48 + n) ∷ others) (numeral_before k (n / 10) ((48 + n % 10) ∷ others))

-- the numeral of a number of at most ten digits: its decimal digits as ASCII, the first one not 0 unless the number is 0
unfoldable pub numeral : ℕ → List ℕ
numeral n = numeral_before 10 n []

-- it is what `{n}` writes
abbrev pub Standard : Type 0
Standard = (n : ℕ) → n < 10 ^ 10 → numeral n ≡ decimal n

-- writing a numeral: the answer, and what the place then holds
pub record Written : Type 0 where
  pub result : Result ℕ NumeralError
  pub place : List ℕ

-- digits at the front of a place, if it is long enough for them
abbrev pub fronted : List ℕ → List ℕ → Written
fronted digits place =
    cond (nat_lt (length place) (length digits))
    (record { result = Err PlaceTooShort; place = place })
    (record { result = Ok (length digits); place = digits ++ drop (length digits) place })

abbrev pub written : ℕ → List ℕ → Written
written n place = cond (nat_lt 2147483648 n) (record { result = Err OverBound; place = place }) (fronted (numeral n) place)
