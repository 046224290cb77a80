use Rattle.std.proofs.Common.{◌≡◌, length}
use Rattle.host.specs.Meaning.{short_lines}
use Rattle.text_host.specs.Lines.{lines_of}
use Rattle.text_host.proofs.lines.has_short_lines.Given as goal

abbrev pub invariant-loop-front : goal.invariant-loop-front
invariant-loop-front l = short_lines (lines_of l.rest) ≡ short_lines (lines_of l.bytes)

abbrev pub decreases-loop-front : goal.decreases-loop-front
decreases-loop-front l = length l.rest
