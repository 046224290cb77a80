use Rattle.std.proofs.Common.{arith}
use Rattle.text_host.proofs.LineFacts.{first_taken}
use Rattle.text_host.proofs.lines.first_line.Goals as goal

pub returns : goal.returns
returns c = first_taken c.args.text.now c.unwrap_or-end.result (cc) (grind arith)
