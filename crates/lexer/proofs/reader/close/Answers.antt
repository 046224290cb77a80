use Rattle.lexer.proofs.Steps.{along, level_closed, all_closed}
use Rattle.lexer.proofs.reader.close.Goals as goal

pub returns-in-Some : goal.returns-in-Some
returns-in-Some c = λ s k h.
    let told = c.in-Some.ensures in
    along s c.args.levels.now _ c.pop.new.self c.step.ensures (level_closed s c.args.levels.now c.args.at h c.pop.new.self k _ told.items told.room)

pub returns-in-None : goal.returns-in-None
returns-in-None c = λ s k h.
    along s c.args.levels.now _ c.pop.new.self c.step-in-None.ensures (all_closed s c.args.levels.now c.args.at h c.pop.new.self k c.in-None.ensures.top)
