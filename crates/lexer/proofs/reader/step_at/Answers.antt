use Rattle.std.proofs.Common.{sym, refl, ap, ◌∙◌, subst}
use Rattle.lexis.specs.declared.lines.Mode.{Mode}
use Rattle.lexer.specs.Left.{coming, Stepped}
use Rattle.lexer.proofs.Steps.{at, along, line_ended, over}
use Rattle.lexer.proofs.reader.step_at.Goals as goal

pub returns-in-Fresh : goal.returns-in-Fresh
returns-in-Fresh c =
    let s = c.args.source.bytes.now in
    let l = c.args.levels.now in
    let p = c.args.spot.pos in
    subst (λ (m : Mode). Stepped s l (at p m) c.close.result c.close.new.levels) (sym c.in-Fresh.is) (c.close.ensures s _ c.if-at_end.true)

pub returns-in-Inside : goal.returns-in-Inside
returns-in-Inside c =
    let s = c.args.source.bytes.now in
    let l = c.args.levels.now in
    let p = c.args.spot.pos in
    subst (λ (m : Mode). Stepped s l (at p m) c.step.result l) (sym c.in-Inside.is) (along s l _ l c.step.ensures (line_ended s l p c.if-at_end-2.true))

pub returns-in-Over : goal.returns-in-Over
returns-in-Over c =
    let s = c.args.source.bytes.now in
    let l = c.args.levels.now in
    let p = c.args.spot.pos in
    (ap (λ (m : Mode). coming s l (at p m)) c.in-Over.is ∙ over s l p, refl)
