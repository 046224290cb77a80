-- What is wrong with a text.
use Rattle.std.specs.Prelude.{ℕ, cond, List, Some, None, Option}
use Rattle.host.specs.Meaning.{short_lines}
use Rattle.text_host.specs.Lines.{lines_of}
use Rattle.text_host.specs.declared.flaws.TextFlaw.{TextFlaw}
use Rattle.text_host.specs.declared.flaws.TextFlaw.TheVariants.{LongLine}

-- the number that the panel shows for a flaw
abbrev pub flaw_number : TextFlaw → ℕ
flaw_number LongLine = 64

-- the flaw of a text, if it has one
abbrev pub text_flaw : List ℕ → Option TextFlaw
text_flaw bs = cond (short_lines (lines_of bs)) None (Some LongLine)
