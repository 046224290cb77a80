use Rattle.std.proofs.Common.{length}
use Rattle.reader.specs.Feeds.{coming}
use Rattle.reader.proofs.LineSteps.{Chained}
use Rattle.reader.proofs.parsers.Parser.assignment.Given as goal

-- the targets so far, and what was read last
abbrev pub invariant-loop-depth : goal.invariant-loop-depth
invariant-loop-depth l = Chained l.depth.levels l.place l.initial.self.feed l.initial.self.arena l.initial.last l.self.feed l.self.arena l.targets l.last

abbrev pub decreases-loop-depth : goal.decreases-loop-depth
decreases-loop-depth l = length (coming l.self.feed)
