use Rattle.std.proofs.Common.{◌≡◌, ℕ, List, [], ◌∷◌, length, sym, refl, ap, ◌∙◌, arith}
use mathlib.Core.Option.{none}
use Rattle.arena.specs.Tables.{arena_nodes}
use Rattle.arena.specs.Trees.{Phrase}
use Rattle.arena.specs.declared.arenas.Arena.{Arena}
use Rattle.arena.specs.declared.nodes.Node.{Node}
use Rattle.grammar.specs.Tree as tree
use Rattle.grammar.specs.Tree.{Token, at}
use Rattle.grammar.specs.Reader.{Body, add, begins, either, returns as returning, start, value, want}
use Rattle.grammar.specs.Limits.{body_depth, exceeds, limited, operand, proceeds}
use Rattle.reader.specs.Feeds.{coming, feed_source}
use Rattle.reader.specs.Forms.{form_of}
use Rattle.reader.specs.Places.{BodyAt}
use Rattle.reader.specs.Taking.{Another}
use Rattle.reader.specs.Told.{Spot, having, read_expr}
use Rattle.reader.specs.declared.feeds.Feed.{Feed}
use Rattle.reader.specs.declared.kinds.Kind.{Kind}
use Rattle.reader.specs.declared.kinds.Mark.{Mark}
use Rattle.reader.proofs.Leading.{Along, along, stepped, stopped_behind, told_stored}
use Rattle.reader.proofs.LineSteps.{along_read}
use Rattle.reader.proofs.Machine.{unclosed}
use Rattle.reader.proofs.Steps.{Passed, faced, kept_still, passed, passed_long}
use Rattle.reader.proofs.Storing.{kept_then}
use Rattle.reader.proofs.parsers.Parser.return_line.Goals as goal

-- a value must come where the line does not end
begins_value : (p : ℕ) (b : Body) (ts : List Token) → Another Mark.Newline ts → limited 64 ts (returning p b) ≡ limited 64 ts (want (value p b))
begins_value p b [] h = refl
begins_value p b (t ∷ ts) h = ap (λ x. proceeds (limited 64 ts) (exceeds 64 (operand (body_depth b) t)) t ts (either (either x none) (begins (value p b) t))) (h (λ q. start (add (tree.ret₀ p) b)))

-- past the word, before a value
before_value : {d : ℕ} {f g h : Feed} (n : Arena) (p : ℕ) → Passed (at (tree.mark tree.return) p) f g → coming h ≡ coming g → feed_source h ≡ feed_source g → Another Mark.Newline (coming g)
    → Along {X = BodyAt d (coming f)} (λ x. limited 64 (coming f) (start x.body)) (λ x. limited 64 (coming h) (want (value p x.body))) f n h n
before_value {d} {f} {g} {h} n p begun same src other = record {
  kept = kept_then (stepped {X = BodyAt d (coming f)} n (λ x. start x.body) (λ x. returning p x.body) begun (λ x. refl)).kept (kept_still n same src);
  goes = λ x. ap (λ ts. limited 64 ts (start x.body)) begun.first ∙ begins_value p x.body (coming g) other ∙ ap (λ ts. limited 64 ts (want (value p x.body))) (sym same);
}

pub returns-then-passes : goal.returns-then-passes
returns-then-passes c =
    let f = c.args.self.now.feed in
    let g = c.advance.new.self in
    let h = c.passes.new.self in
    let n = c.args.self.now.arena in
    let p = c.args.next.place in
    let X = BodyAt c.args.depth.levels (coming f) in
    let begun : Passed _ f g = passed (faced (feed_source f) c.args.next (coming f) (Kind.Mark Mark.Return) c.requires.facing c.requires.kind) c.advance.ensures.coming c.advance.ensures.source in
    let ok = c.if-passes.ensures in
    let ended : Passed (at (tree.mark tree.newline) ok.told.0) g h = record { first = ok.told.1; source = ok.source } in
    let long = passed_long begun in
    let more = passed_long ended in
    told_stored (Node.BareReturn p)
    (along (stepped {X = X} n (λ x. start x.body) (λ x. returning p x.body) begun (λ x. refl))
    (stepped {X = X} n (λ x. returning p x.body) (λ x. start (add (tree.ret₀ p) x.body)) ended (λ x. refl)))
    c.store.ensures.index c.store.ensures.nodes c.store.ensures.limit (omega (arith, long, more))
    (λ new x. ap (λ (q : Phrase). limited 64 (coming h) (start (add q.stmt x.body))) (sym new))

pub returns-in_err-value : goal.returns-in_err-value
returns-in_err-value c =
    let f = c.args.self.now.feed in
    let g = c.advance.new.self in
    let h = c.passes.new.self in
    let n = c.args.self.now.arena in
    let p = c.args.next.place in
    let begun : Passed _ f g = passed (faced (feed_source f) c.args.next (coming f) (Kind.Mark Mark.Return) c.requires.facing c.requires.kind) c.advance.ensures.coming c.advance.ensures.source in
    let go = c.if-passes.ensures in
    let bad = c.in_err-value.ensures.told in
    stopped_behind c.from_residual.result _ c.from_residual.ensures.1 (before_value {d = c.args.depth.levels} {f = f} {g = g} {h = h} n p begun go.told.0 go.source go.told.1) bad.kept
    (λ x. bad.goes (value p x.body) (record { asked = refl; deep = x.deep }))

pub returns-in_err-take_mark : goal.returns-in_err-take_mark
returns-in_err-take_mark c =
    let f = c.args.self.now.feed in
    let g = c.advance.new.self in
    let h = c.passes.new.self in
    let k = c.expression.new.self.feed in
    let n = c.args.self.now.arena in
    let m = c.expression.new.self.arena in
    let p = c.args.next.place in
    let X = BodyAt c.args.depth.levels (coming f) in
    let begun : Passed _ f g = passed (faced (feed_source f) c.args.next (coming f) (Kind.Mark Mark.Return) c.requires.facing c.requires.kind) c.advance.ensures.coming c.advance.ensures.source in
    let go = c.if-passes.ensures in
    let r = c.in_ok-value.value in
    let ok = c.in_ok-value.ensures in
    let bad = c.in_err-take_mark.ensures in
    let e = read_expr (feed_source h) (arena_nodes m) r in
    let spot : (x : X) → Spot 0 c.args.depth.levels (value p x.body) = λ x. record { asked = refl; deep = x.deep } in
    stopped_behind c.from_residual-in_err-take_mark.result _ c.from_residual-in_err-take_mark.ensures.1
    (along (before_value {d = c.args.depth.levels} {f = f} {g = g} {h = h} n p begun go.told.0 go.source go.told.1) (along_read {X = X} {src = feed_source h} refl ok.told (λ x. value p x.body) spot))
    (kept_still m bad.told.1 bad.source)
    (λ x.
    unclosed Mark.Newline (value p x.body) r.place (form_of r.form e) e (λ q. start (add (tree.ret p e) x.body)) (coming k) _ (λ t. refl) (ok.ends (value p x.body) (spot x)) bad.told.0)

pub returns : goal.returns
returns c =
    let f = c.args.self.now.feed in
    let g = c.advance.new.self in
    let h = c.passes.new.self in
    let k = c.expression.new.self.feed in
    let l = c.take_mark.new.self in
    let n = c.args.self.now.arena in
    let m = c.expression.new.self.arena in
    let p = c.args.next.place in
    let X = BodyAt c.args.depth.levels (coming f) in
    let begun : Passed _ f g = passed (faced (feed_source f) c.args.next (coming f) (Kind.Mark Mark.Return) c.requires.facing c.requires.kind) c.advance.ensures.coming c.advance.ensures.source in
    let go = c.if-passes.ensures in
    let r = c.in_ok-value.value in
    let ok = c.in_ok-value.ensures.told in
    let end = c.in_ok-take_mark.ensures in
    let ended : Passed (at (tree.mark tree.newline) end.told.0) k l = record { first = end.told.1; source = end.source } in
    let e = read_expr (feed_source f) (arena_nodes m) r in
    let long = passed_long begun in
    let still = ap length go.told.0 in
    let more = passed_long ended in
    told_stored (Node.Return p r.node)
    (along (before_value {d = c.args.depth.levels} {f = f} {g = g} {h = h} n p begun go.told.0 go.source go.told.1)
    (along (along_read {X = X} {src = feed_source f} (go.source ∙ begun.source) ok (λ x. value p x.body) (λ x. record { asked = refl; deep = x.deep }))
    (stepped {X = X} m (λ x. having (feed_source f) (arena_nodes m) r (value p x.body)) (λ x. start (add (tree.ret p e) x.body)) ended (λ x. refl))))
    c.store-2.ensures.index c.store-2.ensures.nodes c.store-2.ensures.limit (omega (arith, long, still, more, ok.goes.spare))
    (λ new x. ap (λ (q : Phrase). limited 64 (coming l) (start (add q.stmt x.body))) (sym new))
