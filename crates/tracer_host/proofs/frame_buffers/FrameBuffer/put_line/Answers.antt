use Rattle.std.proofs.Common.{arith, length-append}
use Rattle.tracer_host.specs.Frames.{framed}
use Rattle.tracer_host.specs.HostMeaning.{frame_bytes}
use Rattle.tracer_host.proofs.FrameFacts.{frame_pending, frame_unframed}
use Rattle.tracer_host.proofs.frame_buffers.FrameBuffer.put_line.Goals as goal

pub invariant_of-self : goal.invariant_of-self
invariant_of-self c =
    let b = c.args.self.now in
    let e = frame_pending (frame_bytes b) c.args.line.now b.whole in
    record { whole = grind arith }

pub returns-clause-after : goal.returns-clause-after
returns-clause-after c =
    let b = c.args.self.now in
    let line = c.args.line.now in
    let e = frame_unframed (frame_bytes b) line b.whole in
    let whole = length-append (frame_bytes b) (framed line) in
    grind arith
