use Rattle.std.proofs.Common.{length, sym, ap, ◌∙◌, subst, arith}
use Rattle.arena.specs.Tables.{arena_nodes}
use Rattle.arena.specs.Trees.{Phrase, phrase}
use Rattle.arena.specs.declared.nodes.Node.{Node}
use Rattle.grammar.specs.Tree as tree
use Rattle.grammar.specs.Tree.{at}
use Rattle.grammar.specs.Reader.{add, line, start}
use Rattle.grammar.specs.Limits.{limited}
use Rattle.grammar.specs.Verdict.{judged}
use Rattle.reader.specs.Feeds.{coming, feed_source}
use Rattle.reader.specs.Forms.{form_of}
use Rattle.reader.specs.Places.{LineAt}
use Rattle.reader.specs.Taking.{NoMark}
use Rattle.reader.specs.Told.{having}
use Rattle.reader.specs.declared.kinds.Mark.{Mark}
use Rattle.reader.proofs.Leading.{Along, stopped, told_stored}
use Rattle.reader.proofs.LineSteps.{Aimed, aimed, chained_more, line_spot, unended}
use Rattle.reader.proofs.Steps.{Passed, kept_passed, kept_still, passed_long}
use Rattle.reader.proofs.Storing.{kept_then}
use Rattle.reader.proofs.parsers.Parser.assignment.Goals as goal

pub loop-depth-preserved : goal.loop-depth-preserved
loop-depth-preserved c =
    let m = c.store-targets.new.arena in
    let yes = c.loop-depth-test.ensures in
    let st = c.store-targets.ensures in
    let a : Aimed c.args.depth.levels c.args.place c.args.self.now.feed c.args.self.now.arena c.args.first c.is_assigned.new.self m c.store-targets.result = aimed c.loop-depth.invariant yes.told yes.source st.index st.nodes st.limit in
    let ok = c.in_ok-last.ensures in
    chained_more a ok.told ok.ends

pub returns-in_err-take_mark : goal.returns-in_err-take_mark
returns-in_err-take_mark c =
    let g = c.loop-depth.self.feed in
    let h = c.is_assigned.new.self in
    let m = c.loop-depth.self.arena in
    let p = c.args.place in
    let r = c.loop-depth.last in
    let inv = c.loop-depth.invariant in
    let src = feed_source c.args.self.now.feed in
    let es = (phrase src (arena_nodes m) c.loop-depth.targets).exprs in
    let rest = c.loop-depth-test.ensures in
    let bad = c.in_err-take_mark.ensures in
    let y = c.in_err-take_mark.field-0.0 in
    let missing : NoMark Mark.Newline (coming g) y = subst (λ ts. NoMark Mark.Newline ts y) rest.told.0 bad.told.0 in
    stopped c.from_residual-in_err-take_mark.result _ c.from_residual-in_err-take_mark.ensures.1
    (kept_then inv.kept (kept_then (kept_still {f = g} {g = h} m rest.told.0 rest.source) (kept_still m bad.told.1 bad.source)))
    (λ x.
    ap judged (inv.goes x)
    ∙ unended r.place r.form (phrase src (arena_nodes m) r.node).expr p es x.body (coming g) y (inv.ends (line p es x.body) (line_spot p es x.body x.deep)) rest.told.1 (inv.undefined x) missing)

pub returns : goal.returns
returns c =
    let f = c.args.self.now.feed in
    let g = c.loop-depth.self.feed in
    let h = c.is_assigned.new.self in
    let k = c.take_mark.new.self in
    let n = c.args.self.now.arena in
    let m = c.loop-depth.self.arena in
    let p = c.args.place in
    let first = c.args.first in
    let r = c.loop-depth.last in
    let inv = c.loop-depth.invariant in
    let src = feed_source f in
    let es = (phrase src (arena_nodes m) c.loop-depth.targets).exprs in
    let e = (phrase src (arena_nodes m) r.node).expr in
    let X = LineAt c.args.depth.levels first.place (form_of first.form (phrase src (arena_nodes n) first.node).expr) (coming f) in
    let rest = c.loop-depth-test.ensures in
    let end = c.in_ok-take_mark.ensures in
    let ended : Passed (at (tree.mark tree.newline) end.told.0) h k = record { first = end.told.1; source = end.source } in
    let still = ap length rest.told.0 in
    let long = passed_long ended in
    let a : Along {X = X} (λ x. limited 64 (coming f) (having src (arena_nodes n) first (line p tree.nil x.body))) (λ x. limited 64 (coming k) (start (add (tree.assigns p es e) x.body))) f n k m = record {
      kept = kept_then inv.kept (kept_then (kept_still {f = g} {g = h} m rest.told.0 rest.source) (kept_passed m ended));
      goes = λ x. inv.goes x ∙ ap (λ ts. limited 64 ts (having src (arena_nodes m) r (line p es x.body))) (sym rest.told.0 ∙ ended.first);
    } in
    told_stored (Node.Assign p c.loop-depth.targets r.node) a c.store.ensures.index c.store.ensures.nodes c.store.ensures.limit (omega (arith, inv.kept.cost, still, long))
    (λ new x. ap (λ (q : Phrase). limited 64 (coming k) (start (add q.stmt x.body))) (sym new))
