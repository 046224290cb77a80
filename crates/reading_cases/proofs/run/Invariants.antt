use Rattle.std.proofs.Common.{length}
use Rattle.reading_cases.proofs.run.Given as goal

abbrev pub decreases-loop-source : goal.decreases-loop-source
decreases-loop-source l = length l.rest
