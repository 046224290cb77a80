use Rattle.std.proofs.Common.{◌≡◌, false, Some, sym, ap, ◌∙◌, of_calls, arith}
use Rattle.std.specs.List.{fold}
use Rattle.lexis.specs.Numbers.{with_digit, digits_value, zero_led}
use Rattle.lexer.specs.Capped.{capped}
use Rattle.lexer.proofs.Digits.{value_so_far, ended}
use Rattle.lexer.proofs.numbers.number_of.Goals as goal

pub returns : goal.returns
returns c =
    let ds = c.args.digits.now in
    let r = c.try_fold.ensures.ran in
    let y = r.4 in
    let z : zero_led ds ≡ false = sym c.if-zero_led.ensures in
    let so_far = value_so_far _ (λ p x q k. let e : k.0 ≡ Some q.1 = k.2 in let f : k.0 ≡ capped p.1 x.now = search of_calls in sym e ∙ f) r.0 c.iter.result y.0 (tt, 0) (r.2, r.3) y.1 r.5 (omega arith) in
    let start : c.iter.result.rest.now ≡ ds = search of_calls in
    let total : digits_value ds ≡ fold with_digit r.3 y.0.rest.now = ap (fold with_digit 0) (sym start) ∙ so_far.1 in
    ended ds r.3 y.0.rest.now z so_far.0 total r.1 c.try_fold.result _ _ _ y.2 r.6 (λ x q. let f : q.0 ≡ capped r.3 x.now = search of_calls in (sym q.4 ∙ f, q.5))
