use Rattle.arena.proofs.Growth.{trees_stand}
use Rattle.arena.proofs.laws.trees_stand.Goals as goal

pub returns : goal.returns
returns c = trees_stand
