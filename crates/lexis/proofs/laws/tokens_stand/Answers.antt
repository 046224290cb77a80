use Rattle.lexis.proofs.Stands.{laws}
use Rattle.lexis.proofs.laws.tokens_stand.Goals as goal

pub returns : goal.returns
returns c = laws
