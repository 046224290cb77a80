-- The worked cases, by computing.
use mathlib.Core.Path.{refl}
use Rattle.lexis.specs.Lines.{lex}
use Rattle.lexis.specs.Texts.{value_from}
use Rattle.syntax.specs.Cases.{WorkedCases}

pub worked_cases : WorkedCases
unfolding lex value_from
worked_cases = refl
