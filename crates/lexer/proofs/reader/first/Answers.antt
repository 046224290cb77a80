use Rattle.std.proofs.Common.{◌≡◌, drop, sym, ap, ◌∙◌, arith}
use Rattle.std.proofs.lemmas.List.{take_rest}
use Rattle.lexis.specs.Scans.{scan_of}
use Rattle.lexis.specs.Tokens.{model, sized}
use Rattle.lexer.proofs.Moves.{size}
use Rattle.lexer.proofs.Steps.{along, wrong, same, misfit, deeper, full, shallower}
use Rattle.lexer.proofs.reader.first.Goals as goal
use Rattle.lexer.proofs.reader.first.Goals.{After-scan_front-found}

found : (c : After-scan_front-found) → sized c.scan_front-found.result ≡ scan_of (drop c.args.at c.args.source.bytes.now)
found c = c.scan_front-found.ensures ∙ ap scan_of (take_rest c.args.source.bytes.now c.args.at)

pub returns-then-is_fault : goal.returns-then-is_fault
returns-then-is_fault c =
    along _ _ _ _ c.step.ensures
    (wrong c.args.source.bytes.now c.args.levels.now c.args.at c.scan_front-found.result c.requires.within (found (goal.at.returns-then-is_fault c).After-scan_front-found)
    c.args.column c.requires.token (sym c.if-is_fault.ensures))

pub overflow_add-at : goal.overflow_add-at
overflow_add-at c =
    let r = c.scan_front-found.result in
    let k = size c.args.source.bytes.now c.args.at (model r.token) r.size c.requires.within (found (goal.at.overflow_add-at c).After-scan_front-found) in
    record { fits = omega (arith, k.1, c.args.source.short) }

pub returns-in-Same : goal.returns-in-Same
returns-in-Same c =
    along _ _ _ _ c.step-in-Same.ensures
    (same c.args.source.bytes.now c.args.levels.now c.args.at c.scan_front-found.result c.requires.within (found (goal.at.returns-in-Same c).After-scan_front-found)
    c.args.column c.requires.token (sym c.if-is_fault.ensures) c.in-Same.ensures)

pub returns-in-Nowhere : goal.returns-in-Nowhere
returns-in-Nowhere c =
    along _ _ _ _ c.step-in-Nowhere.ensures
    (misfit c.args.source.bytes.now c.args.levels.now c.args.at c.scan_front-found.result c.requires.within (found (goal.at.returns-in-Nowhere c).After-scan_front-found)
    c.args.column c.requires.token (sym c.if-is_fault.ensures) c.in-Nowhere.ensures)

pub returns-in-Ok : goal.returns-in-Ok
returns-in-Ok c =
    let told = c.in-Ok.ensures in
    along _ _ _ _ c.step-in-Ok.ensures
    (deeper c.args.source.bytes.now c.args.levels.now c.args.at c.scan_front-found.result c.requires.within (found (goal.at.returns-in-Ok c).After-scan_front-found)
    c.args.column c.requires.token (sym c.if-is_fault.ensures) c.push.new.self c.in-Deeper.ensures told.test told.items told.room)

pub returns-in-Err : goal.returns-in-Err
returns-in-Err c =
    along _ _ _ _ c.step-in-Err.ensures
    (full c.args.source.bytes.now c.args.levels.now c.args.at c.scan_front-found.result c.requires.within (found (goal.at.returns-in-Err c).After-scan_front-found)
    c.args.column c.requires.token (sym c.if-is_fault.ensures) c.push.new.self c.in-Deeper.ensures c.in-Err.ensures.test)

pub returns-in-Shallower : goal.returns-in-Shallower
returns-in-Shallower c =
    let told = c.dedent.ensures in
    along _ _ _ _ told.step
    (shallower c.args.source.bytes.now c.args.levels.now c.args.at c.scan_front-found.result c.requires.within (found (goal.at.returns-in-Shallower c).After-scan_front-found)
    c.args.column c.requires.token (sym c.if-is_fault.ensures) c.dedent.new.levels c.requires.narrow c.in-Shallower.ensures told.levels told.room)
