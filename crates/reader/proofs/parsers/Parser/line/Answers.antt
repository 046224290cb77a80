use Rattle.std.proofs.Common.{◌≡◌, ℕ, List, [], ◌∷◌, refl, ap, ◌∙◌, arith}
use Rattle.arena.specs.Tables.{arena_nodes}
use Rattle.arena.specs.Trees.{phrase}
use Rattle.grammar.specs.Tree as tree
use Rattle.grammar.specs.Tree.{Token}
use Rattle.grammar.specs.Reader.{Body, add, line, pick, start, vars}
use Rattle.grammar.specs.Limits.{limited}
use Rattle.grammar.specs.Verdict.{judged}
use Rattle.reader.specs.Feeds.{coming, feed_source}
use Rattle.reader.specs.Forms.{form_of}
use Rattle.reader.specs.Places.{LineAt, SettledAt, Unsaid}
use Rattle.reader.proofs.Leading.{stopped, told_behind}
use Rattle.reader.proofs.LineSteps.{Fronted, along_fronted, begins_line, fronted, line_spot}
use Rattle.reader.proofs.parsers.Parser.line.Goals as goal

pub returns-in_err-first : goal.returns-in_err-first
returns-in_err-first c =
    let f = c.args.self.now.feed in
    let p = c.args.next.place in
    let bad = c.in_err-first.ensures.told in
    stopped c.from_residual.result _ c.from_residual.ensures.1 bad.kept
    (λ x. ap judged (begins_line (feed_source f) c.args.next (coming f) x.body c.requires.facing c.requires.kind) ∙ bad.goes (line p tree.nil x.body) (line_spot p tree.nil x.body x.deep))

pub assignment-requires-clause-empty : goal.assignment-requires-clause-empty
assignment-requires-clause-empty c =
    let ok = c.in_ok-first.ensures in
    let st = c.store-none.ensures in
    let a : Fronted c.args.depth.levels c.args.self.now.feed c.args.self.now.arena c.expression.new.self.feed c.store-none.new.arena c.store-none.result c.in_ok-first.first = fronted ok.told ok.ends refl refl st.index st.nodes st.limit in
    a.empty

-- where no variable may be defined any more, none is
settled : (b : Body) (p : ℕ) (f : tree.Form) (ts : List Token) → vars tree.nil b p f ≡ [] → Unsaid b p f ts
settled b p f [] e = tt
settled b p f (t ∷ ts) e = ap (λ os. pick os t) e

pub returns : goal.returns
returns c =
    let f = c.args.self.now.feed in
    let g = c.expression.new.self.feed in
    let h = c.assignment.new.self.feed in
    let n = c.args.self.now.arena in
    let m = c.store-none.new.arena in
    let l = c.assignment.new.self.arena in
    let d = c.args.depth.levels in
    let r = c.in_ok-first.first in
    let ok = c.in_ok-first.ensures in
    let st = c.store-none.ensures in
    let a : Fronted d f n g m c.store-none.result r = fronted ok.told ok.ends refl refl st.index st.nodes st.limit in
    let form = form_of r.form (phrase (feed_source g) (arena_nodes m) r.node).expr in
    let place : SettledAt d (coming f) → LineAt d r.place form (coming g) = λ x. record { body = x.body; deep = x.deep; unsaid = settled x.body r.place form (coming g) (x.settled r.place form) } in
    told_behind c.assignment.result place (along_fronted c.args.next c.requires.facing c.requires.kind a (λ (x : SettledAt d (coming f)). x.body) (λ x. x.deep)) c.assignment.ensures (omega (arith, a.kept.cost))
    (λ i x. ap (λ s. limited 64 (coming h) (start (add (phrase s (arena_nodes l) i).stmt x.body))) a.kept.source)
