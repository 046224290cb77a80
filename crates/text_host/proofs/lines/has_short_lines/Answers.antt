use Rattle.std.proofs.Common.{◌+◌, sym, ap, ◌∙◌, arith, rules}
use Rattle.std.proofs.lemmas.List.{take_rest}
use Rattle.std.specs.List.{position}
use Rattle.host.specs.Meaning.{short_lines}
use Rattle.text_host.specs.Lines.{is_feed, lines_of}
use Rattle.text_host.proofs.Windows.{few_short, no_feed, past_feed}
use Rattle.text_host.proofs.lines.has_short_lines.Goals as goal

pub returns-in_default-feed_at : goal.returns-in_default-feed_at
returns-in_default-feed_at c =
    let w = c.in-Some.ensures in
    no_feed c.loop-front.rest.now w.0 (sym c.in_default-feed_at.is ∙ c.feed_at.ensures ∙ ap (position is_feed) w.1) ∙ c.loop-front.invariant

pub slice_bounds-rest-count : goal.slice_bounds-rest-count
slice_bounds-rest-count c =
    let w = c.in-Some.ensures in
    let p = past_feed c.loop-front.rest.now c.in-Some-feed_at.end (sym c.in-Some-feed_at.is ∙ c.feed_at.ensures ∙ ap (position is_feed) w.1) in
    omega (arith, p.0)

pub slice_bounds-rest-start : goal.slice_bounds-rest-start
slice_bounds-rest-start c =
    let w = c.in-Some.ensures in
    let p = past_feed c.loop-front.rest.now c.in-Some-feed_at.end (sym c.in-Some-feed_at.is ∙ c.feed_at.ensures ∙ ap (position is_feed) w.1) in
    search (rules, p.0)

pub loop-front-preserved : goal.loop-front-preserved
loop-front-preserved c =
    let w = c.in-Some.ensures in
    let p = past_feed c.loop-front.rest.now c.in-Some-feed_at.end (sym c.in-Some-feed_at.is ∙ c.feed_at.ensures ∙ ap (position is_feed) w.1) in
    ap (λ xs. short_lines (lines_of xs)) (take_rest c.loop-front.rest.now (c.in-Some-feed_at.end + 1)) ∙ p.2 ∙ c.loop-front.invariant

pub returns : goal.returns
returns c = few_short c.loop-front.rest.now c.in_default.ensures ∙ c.loop-front.invariant
