-- The number of an ending.
use Rattle.std.specs.Prelude.{ℕ}
use Rattle.copying.specs.declared.answers.Ending.{Ending}
use Rattle.copying.specs.declared.answers.Ending.TheVariants.{AllCopied, NoSpare}

abbrev pub ending_number : Ending → ℕ
ending_number AllCopied = 0
ending_number NoSpare = 32
