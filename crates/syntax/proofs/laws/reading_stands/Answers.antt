use Rattle.syntax.proofs.CaseFacts.{worked_cases}
use Rattle.syntax.proofs.Exactly.{reads_exactly}
use Rattle.syntax.proofs.laws.reading_stands.Goals as goal

pub returns : goal.returns
returns c = record { exactly = reads_exactly; cases = worked_cases }
