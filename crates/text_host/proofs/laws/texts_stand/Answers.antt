use Rattle.text_host.proofs.CutFacts.{cuts_exactly}
use Rattle.text_host.proofs.laws.texts_stand.Goals as goal

pub returns : goal.returns
returns c = cuts_exactly
