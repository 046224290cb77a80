use Rattle.std.proofs.Common.{sym, refl, subst}
use Rattle.std.proofs.lemmas.Bool.{iff_false}
use Rattle.reader.specs.Feeds.{NextTold, coming, feed_source}
use Rattle.reader.specs.Taking.{NoMark}
use Rattle.reader.proofs.MarkFacts.{unmarked}
use Rattle.reader.proofs.feeds.Feed.take_mark.Goals as goal

pub returns-else-is_mark-clause-told : goal.returns-else-is_mark-clause-told
returns-else-is_mark-clause-told c =
    let src = feed_source c.args.self.now in
    let n = c.in_ok-next.next in
    let m = c.args.mark in
    (subst (λ ts. NoMark m ts c.stop_at.result) (sym (subst (NextTold src (coming c.args.self.now)) c.in_ok-next.ensures.ok_part c.next.ensures)) (unmarked src n.place n.kind m (iff_false c.if-is_mark.ensures refl), c.stop_at.ensures src), refl)
