use Rattle.std.proofs.Common.{[], sym, refl, ap, arith}
use Rattle.arena.specs.Trees.{Phrase}
use Rattle.arena.specs.declared.nodes.Node.{Node}
use Rattle.grammar.specs.Tree as tree
use Rattle.grammar.specs.Tree.{at}
use Rattle.grammar.specs.Reader.{State, add, seq, start}
use Rattle.grammar.specs.Limits.{limited}
use Rattle.reader.specs.Feeds.{coming, feed_source}
use Rattle.reader.specs.Places.{BodyAt}
use Rattle.reader.specs.declared.kinds.Kind.{Kind}
use Rattle.reader.specs.declared.kinds.Mark.{Mark}
use Rattle.reader.proofs.Leading.{along, stepped, told_stored}
use Rattle.reader.proofs.Steps.{Passed, faced, passed, passed_long}
use Rattle.reader.proofs.parsers.Parser.pass_line.Goals as goal

pub returns : goal.returns
returns c =
    let f = c.args.self.now.feed in
    let g = c.advance.new.self in
    let h = c.take_mark.new.self in
    let n = c.args.self.now.arena in
    let p = c.args.next.place in
    let begun : Passed _ f g = passed (faced (feed_source f) c.args.next (coming f) (Kind.Mark Mark.Pass) c.requires.facing c.requires.kind) c.advance.ensures.coming c.advance.ensures.source in
    let ok = c.in_ok-take_mark.ensures in
    let ended : Passed (at (tree.mark tree.newline) ok.told.0) g h = record { first = ok.told.1; source = ok.source } in
    let next : BodyAt c.args.depth.levels (coming f) → State = λ x. start (add (tree.skip p) x.body) in
    let long = passed_long begun in
    let more = passed_long ended in
    told_stored (Node.Pass p)
    (along (stepped n (λ (x : BodyAt c.args.depth.levels (coming f)). start x.body) (λ x. seq tree.newline [] (next x)) begun (λ x. refl))
    (stepped n (λ x. seq tree.newline [] (next x)) next ended (λ x. refl)))
    c.store.ensures.index c.store.ensures.nodes c.store.ensures.limit (omega (arith, long, more))
    (λ new x. ap (λ (q : Phrase). limited 64 (coming h) (start (add q.stmt x.body))) (sym new))
