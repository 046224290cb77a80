-- What the numeral of a number is, and what writing it leaves.
use Rattle.std.proofs.Common.{◌≡◌, ℕ, zero, suc, ◌+◌, ◌/◌, ◌%◌, ◌^◌, ◌<◌, ◌≤◌, List, [], ◌∷◌, length, take, drop, Ok, decimal, refl, ◌∙◌, arith}
use Rattle.std.proofs.lemmas.List.{append-nil, take_at}
use Rattle.std.proofs.lemmas.Fmt.{PrependsLastDigit, decimal_from_prepends, length-decimal-le}
use Rattle.numeral.specs.Numerals.{Standard, numeral, numeral_before, written}

pub length_numeral_before : (k n : ℕ) (others : List ℕ) → length (numeral_before k n others) ≤ k + length others
length_numeral_before zero n others = omega arith
length_numeral_before (suc k) n others = let h = length_numeral_before k (n / 10) ((48 + n % 10) ∷ others) in grind arith

pub length_numeral : (n : ℕ) → length (numeral n) ≤ 10
unfolding numeral
length_numeral n = length_numeral_before 10 n []

onto : PrependsLastDigit numeral_before
onto = record { one = λ k n acc h. grind arith; more = λ k n acc h. grind arith }

pub numeral_standard : Standard
unfolding numeral
numeral_standard n h =
    let fits : n < 2 ^ 64 = omega arith in
    let few : length (decimal n) ≤ 10 = length-decimal-le 10 n (omega arith) h fits in
    decimal_from_prepends numeral_before onto 10 n [] fits few ∙ append-nil (decimal n)
