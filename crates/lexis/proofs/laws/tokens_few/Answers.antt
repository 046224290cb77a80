use Rattle.lexis.proofs.Counting.{few}
use Rattle.lexis.proofs.laws.tokens_few.Goals as goal

pub returns : goal.returns
returns c = few
