use Rattle.tracer_host.proofs.FileFacts.{files_exactly}
use Rattle.tracer_host.proofs.FrameFacts.{frames_read_back}
use Rattle.tracer_host.proofs.laws.traces_stand.Goals as goal

pub returns : goal.returns
returns c = record { files = files_exactly; frames = frames_read_back }
