-- The worked cases, by computing.
use Rattle.std.proofs.Common.{refl}
use Rattle.grammar.specs.Cases.{Worked}

pub worked : Worked
worked = (refl, refl, refl)
