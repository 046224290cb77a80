-- The line that tells the verdict on a source.
use Rattle.std.specs.Prelude.{ℕ, List, []}
use Rattle.grammar.specs.Verdict.{Verdict, accepted, incomplete, refused}
use Rattle.number_output.specs.Numbers.{pair_text}
use Rattle.syntax.specs.Reading.{reading}

-- number, space, place, line feed; a verdict always comes
abbrev pub line_of : Verdict → List ℕ
line_of (accepted ds ss) = pair_text 0 0
line_of (refused n p) = pair_text n p
line_of incomplete = []

abbrev pub verdict_line : List ℕ → List ℕ
verdict_line s = line_of (reading s)
