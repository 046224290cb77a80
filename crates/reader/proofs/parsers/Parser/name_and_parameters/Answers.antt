use Rattle.std.proofs.Common.{[], ap, arith}
use Rattle.arena.specs.Tables.{arena_nodes}
use Rattle.arena.specs.Trees.{named, phrase, spelled}
use Rattle.grammar.specs.Tree as tree
use Rattle.grammar.specs.Tree.{at}
use Rattle.grammar.specs.Reader.{for_def, of_result, seq, typing}
use Rattle.grammar.specs.Limits.{limited}
use Rattle.reader.specs.Definitions.{OuterAt}
use Rattle.reader.specs.Feeds.{coming, feed_source}
use Rattle.reader.specs.Functions.{FunctionAt}
use Rattle.reader.proofs.DefinitionSteps.{named_on}
use Rattle.reader.proofs.Leading.{along, led, stopped_behind, told_ok}
use Rattle.reader.proofs.Steps.{Passed, passed_long}
use Rattle.reader.proofs.parsers.Parser.name_and_parameters.Goals as goal

pub returns-in_err-parameters : goal.returns-in_err-parameters
returns-in_err-parameters c =
    let f = c.args.self.now.feed in
    let g = c.take_name.new.self in
    let d = c.args.depth.levels in
    let p = c.args.place in
    let name = c.in_ok-name.name in
    let ok = c.in_ok-name.ensures in
    let bad = c.in_err-parameters.ensures in
    let begun : Passed (at (tree.name (spelled (feed_source f) name)) name.at) f g = record { first = ok.told; source = ok.source } in
    stopped_behind c.from_residual-in_err-parameters.result _ c.from_residual-in_err-parameters.ensures.1
    (named_on c.args.self.now.arena name (λ (x : OuterAt d). for_def p x.outer) begun) bad.kept
    (λ x. bad.leads (record { place = p; name = named (feed_source f) name; outer = x.outer; deep = x.deep }))

pub returns : goal.returns
returns c =
    let f = c.args.self.now.feed in
    let g = c.take_name.new.self in
    let h = c.parameters.new.self.feed in
    let m = c.parameters.new.self.arena in
    let d = c.args.depth.levels in
    let p = c.args.place in
    let name = c.in_ok-name.name in
    let i = c.in_ok-parameters.parameters in
    let ok = c.in_ok-name.ensures in
    let told = c.in_ok-parameters.ensures in
    let begun : Passed (at (tree.name (spelled (feed_source f) name)) name.at) f g = record { first = ok.told; source = ok.source } in
    let here : OuterAt d → FunctionAt d = λ x. record { place = p; name = named (feed_source f) name; outer = x.outer; deep = x.deep } in
    let long = passed_long begun in
    told_ok (along (named_on c.args.self.now.arena name (λ (x : OuterAt d). for_def p x.outer) begun) (led told here))
    told.leads.stored (omega (arith, long, told.leads.spare))
    (λ x. ap (λ s. limited 64 (coming h) (seq tree.arrow [] (typing (of_result p (named (feed_source f) name) (phrase s (arena_nodes m) i).params x.outer)))) ok.source)
