-- The lines of a trace are short.
use Rattle.std.proofs.Common.{ℕ, ◌+◌, ◌*◌, List, [], ◌∷◌, refl, arith}
use Rattle.host.specs.Meaning.{Bounded}
use Rattle.numeral.proofs.NumeralFacts.{length_numeral}
use Rattle.tracer_host.specs.Traces.{radius_lines}

pub radius_short : (xs : List ℕ) → Bounded (radius_lines xs)
radius_short [] = refl
radius_short (a ∷ []) = refl
radius_short (a ∷ b ∷ xs) =
    let h = radius_short xs in
    let l = length_numeral (a * 256 + b) in
    grind arith
