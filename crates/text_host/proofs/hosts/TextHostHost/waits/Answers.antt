use Rattle.text_host.proofs.LineFacts.{left_bounded}
use Rattle.text_host.proofs.hosts.TextHostHost.waits.Goals as goal

pub returns-clause-bounded : goal.returns-clause-bounded
returns-clause-bounded c = left_bounded c.args.self.now.text c.bytes.ensures.sound
