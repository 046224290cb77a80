use Rattle.std.proofs.Common.{arith}
use Rattle.numeral.proofs.NumeralFacts.{length_numeral}
use Rattle.tracer_host.proofs.RadiusFacts.{radius_short}
use Rattle.tracer_host.proofs.hosts.TracerHostHost.waits.Goals as goal

pub returns-clause-first : goal.returns-clause-first
returns-clause-first c =
    let n = length_numeral c.in_ok-radius.radius in
    let first = c.in_ok-radius.ensures in
    grind arith

pub returns-clause-bounded : goal.returns-clause-bounded
returns-clause-bounded c = radius_short c.args.self.now.trace
