use Rattle.std.proofs.Common.{[], sym, refl, ap, arith}
use Rattle.arena.specs.Trees.{Phrase, named, spelled}
use Rattle.arena.specs.declared.nodes.Node.{Node}
use Rattle.grammar.specs.Tree as tree
use Rattle.grammar.specs.Tree.{at}
use Rattle.grammar.specs.Reader.{State, awaits, for_global, join, seq}
use Rattle.grammar.specs.Limits.{limited}
use Rattle.reader.specs.Definitions.{OuterAt}
use Rattle.reader.specs.Feeds.{coming, feed_source}
use Rattle.reader.proofs.DefinitionSteps.{named_on}
use Rattle.reader.proofs.Leading.{along, stepped, told_stored}
use Rattle.reader.proofs.Steps.{Passed, passed_long}
use Rattle.reader.proofs.parsers.Parser.global.Goals as goal

pub returns : goal.returns
returns c =
    let f = c.args.self.now.feed in
    let g = c.take_name.new.self in
    let h = c.take_mark.new.self in
    let n = c.args.self.now.arena in
    let p = c.args.place in
    let name = c.in_ok-name.name in
    let ok = c.in_ok-name.ensures in
    let end = c.in_ok-take_mark.ensures in
    let begun : Passed (at (tree.name (spelled (feed_source f) name)) name.at) f g = record { first = ok.told; source = ok.source } in
    let ended : Passed (at (tree.mark tree.newline) end.told.0) g h = record { first = end.told.1; source = end.source } in
    let next : OuterAt c.args.depth.levels → State = λ x. awaits (join (tree.a_global p (named (feed_source f) name)) x.outer) in
    let long = passed_long begun in
    let more = passed_long ended in
    told_stored (Node.Global p name)
    (along (named_on n name (λ (x : OuterAt c.args.depth.levels). for_global p x.outer) begun) (stepped n (λ x. seq tree.newline [] (next x)) next ended (λ x. refl)))
    c.store.ensures.index c.store.ensures.nodes c.store.ensures.limit (omega (arith, long, more))
    (λ new x. ap (λ (q : Phrase). limited 64 (coming h) (awaits (join q.decl x.outer))) (sym new))
