use Rattle.std.proofs.Common.{◌-◌, length}
use Rattle.lexer.specs.Gaps.{Leads, Narrow}
use Rattle.lexer.proofs.gap.past_gap.Given as goal

abbrev pub invariant-loop-next : goal.invariant-loop-next
invariant-loop-next l = Leads l.source.bytes.now l.initial.spot l.spot × Narrow l.spot

abbrev pub decreases-loop-next : goal.decreases-loop-next
decreases-loop-next l = length l.source.bytes.now - l.spot.pos
