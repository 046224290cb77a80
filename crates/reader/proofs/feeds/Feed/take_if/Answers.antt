use Rattle.std.proofs.Common.{sym, refl, subst}
use Rattle.std.proofs.lemmas.Bool.{iff_false}
use Rattle.reader.specs.Feeds.{feed_source}
use Rattle.reader.specs.Taking.{Another}
use Rattle.reader.proofs.MarkFacts.{unmarked}
use Rattle.reader.proofs.feeds.Feed.take_if.Goals as goal

pub returns-else-is_mark-clause-told : goal.returns-else-is_mark-clause-told
returns-else-is_mark-clause-told c =
    let n = c.in_ok-next.next in
    let m = c.args.mark in
    (refl, subst (Another m) (sym c.in_ok-next.ensures) (unmarked (feed_source c.args.self.now) n.place n.kind m (iff_false c.if-is_mark.ensures refl)))
