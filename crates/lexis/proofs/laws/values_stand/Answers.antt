use Rattle.lexis.proofs.Values.{values}
use Rattle.lexis.proofs.laws.values_stand.Goals as goal

pub returns : goal.returns
returns c = values
