use Rattle.std.proofs.Common.{◌≡◌, Some, slice_get, get_or, ◌≤◌, ◌*◌, sym, ap, ◌∙◌, arith}
use Rattle.std.proofs.lemmas.Option.{get_or_from_slice_get, slice_get_within}
use Rattle.lexis.specs.Bytes.{class_of}
use Rattle.lexis.specs.Lines.{widened}
use Rattle.lexis.specs.declared.lines.Mode.{Mode}
use Rattle.lexer.specs.Gaps.{width}
use Rattle.lexer.proofs.Passing.{along, widens, begins, goes_on, comments_fresh, comments_inside}
use Rattle.lexer.proofs.gap.step_gap.Goals as goal
use Rattle.lexer.proofs.gap.step_gap.Goals.{in-Fresh-Blank, in-Fresh-LineEnd, in-Fresh-Hash, in-Inside-Blank, in-Inside-Hash}

pub returns : goal.returns
returns c =
    let s = c.args.source.bytes.now in
    let p = c.args.spot.pos in
    let e : slice_get s p ≡ Some c.in_ok-b.b = sym c.byte.ensures ∙ c.in_ok-b.was in
    let h = slice_get_within s p c.in_ok-b.b e in
    let read : class_of c.in_ok-b.b ≡ class_of (get_or s p 0) = ap class_of (sym (get_or_from_slice_get s p c.in_ok-b.b 0 e)) in
    elim c.match-mode.branch [
      | in-Fresh-Blank w ↦
          let at = w.in-Fresh-Blank in
          let narrow : at.column ≤ 8 * p = omega (arith, ap width at.is-0) in
          along s p at.is-0 w.size-is (widens s p h at.column w.widen.result (sym at.is-1 ∙ c.class_of.ensures ∙ read) narrow (w.widen.ensures.value ∙ ap (λ b. widened b at.column) (sym (get_or_from_slice_get s p c.in_ok-b.b 0 e))) w.widen.ensures.most)
      | in-Fresh-LineEnd w ↦
          let at = w.in-Fresh-LineEnd in
          along s p at.is-0 w.size-is (begins s p h at.field-0-0 (sym at.is-1 ∙ c.class_of.ensures ∙ read))
      | in-Fresh-Hash w ↦
          let at = w.in-Fresh-Hash in
          let narrow : at.field-0-0 ≤ 8 * p = omega (arith, ap width at.is-0) in
          along s p at.is-0 (w.size-is ∙ ap (λ (m : Mode). (w.run_len.result, m)) at.is-0) (comments_fresh s p h w.run_len.result (sym at.is-1 ∙ c.class_of.ensures ∙ read) w.run_len.ensures.value at.field-0-0 narrow)
      | in-Inside-Blank w ↦
          let at = w.in-Inside-Blank in
          along s p at.is-0 w.size-is (goes_on s p h (sym at.is-1 ∙ c.class_of.ensures ∙ read))
      | in-Inside-Hash w ↦
          let at = w.in-Inside-Hash in
          let run = w.run_len-in-Inside-Hash in
          along s p at.is-0 w.size-is (comments_inside s p h run.result (sym at.is-1 ∙ c.class_of.ensures ∙ read) run.ensures.value)
    ]
