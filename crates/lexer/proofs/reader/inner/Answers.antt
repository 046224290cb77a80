use Rattle.std.proofs.Common.{◌≡◌, drop, sym, ap, ◌∙◌, arith}
use Rattle.std.proofs.lemmas.List.{take_rest}
use Rattle.lexis.specs.Scans.{scan_of}
use Rattle.lexis.specs.Tokens.{model, sized}
use Rattle.lexer.proofs.Moves.{size}
use Rattle.lexer.proofs.Steps.{along, line_end, in_line}
use Rattle.lexer.proofs.reader.inner.Goals as goal
use Rattle.lexer.proofs.reader.inner.Goals.{After-scan_front-found}

pub returns-then-is_line_end : goal.returns-then-is_line_end
returns-then-is_line_end c = λ l.
    along _ l _ l c.step.ensures (line_end c.args.source.bytes.now l c.args.at c.requires.within (sym c.if-is_line_end.ensures))

found : (c : After-scan_front-found) → sized c.scan_front-found.result ≡ scan_of (drop c.args.at c.args.source.bytes.now)
found c = c.scan_front-found.ensures ∙ ap scan_of (take_rest c.args.source.bytes.now c.args.at)

pub overflow_add-at-2 : goal.overflow_add-at-2
overflow_add-at-2 c =
    let r = c.scan_front-found.result in
    let k = size c.args.source.bytes.now c.args.at (model r.token) r.size c.requires.within (found (goal.at.overflow_add-at-2 c).After-scan_front-found) in
    record { fits = omega (arith, k.1, c.args.source.short) }

pub returns : goal.returns
returns c = λ l.
    along _ l _ l c.step-2.ensures
    (in_line c.args.source.bytes.now l c.args.at c.scan_front-found.result c.requires.within (found (goal.at.returns c).After-scan_front-found)
    _ c.requires.token (sym c.if-is_line_end.ensures) c.mode_after.ensures)
