use Rattle.std.proofs.Common.{◌≡◌, ℕ, ◌+◌, ◌<◌, leb, ◌∷◌, drop, Ok, sym, refl, ap, ◌∙◌, arith, rules}
use Rattle.std.proofs.lemmas.Bool.{le-leb}
use Rattle.arena.specs.Tables.{arena_nodes}
use Rattle.arena.specs.declared.arenas.Arena.{Arena}
use Rattle.arena.specs.declared.nodes.Literal.{Literal}
use Rattle.arena.specs.declared.nodes.Node.{Node}
use Rattle.arena.specs.declared.nodes.Stretch.{Stretch}
use Rattle.arena.specs.Trees.{binary_of, phrase, prefix_of, literal_of}
use Rattle.grammar.specs.Tree as tree
use Rattle.grammar.specs.Tree.{at}
use Rattle.grammar.specs.Reader.{asks, have, index, of_call, of_list, paren, rhs, under, want}
use Rattle.grammar.specs.Limits.{limited}
use Rattle.grammar.specs.Verdict.{judged}
use Rattle.reader.specs.Feeds.{coming, feed_source}
use Rattle.reader.specs.Forms.{form_of, rank_of}
use Rattle.reader.specs.Growing.{sign}
use Rattle.reader.specs.Kinds.{mark_of, next_token}
use Rattle.reader.specs.Told.{Made, Spot, Told, having}
use Rattle.reader.specs.declared.feeds.Feed.{Feed}
use Rattle.reader.specs.declared.forms.Form.{Form}
use Rattle.reader.specs.declared.forms.Read.{Read}
use Rattle.reader.specs.declared.kinds.Kind.{Kind}
use Rattle.reader.specs.declared.kinds.Mark as marks
use Rattle.reader.proofs.Machine.{callable_same, goes_on, joins, lists, pars, opens, rests, sheds_op, sheds_pre, signs, stuck_next, subs, tight_same, unclosed}
use Rattle.reader.proofs.ListSteps.{item_told, listed_empty, listed_items, opened, Opened}
use Rattle.reader.proofs.Steps.{Passed, exit, faced, grew_more, grew_stop, grew_told, kept_long, kept_passed, kept_phrase, kept_still, last_node, passed, passed_long, shallow, told_made}
use Rattle.reader.proofs.Storing.{kept_then}
use Rattle.reader.proofs.parsers.Parser.+begun_binary_call_display_expression_group_grown_index_item_items_listed_operand_prefix.Goals as goal

-- a literal that stands for what comes is an expression by itself
constant_told : {d a : ℕ} {f g : Feed} {n k : Arena} {place : ℕ} {l : Literal} {r : Read} → coming f ≡ at (tree.lit (literal_of (feed_source f) l)) place ∷ drop 1 (coming f) → coming g ≡ drop 1 (coming f) → feed_source g ≡ feed_source f → Made n k place Form.Closed (Node.Constant place l) r
    → Told (Spot a d) want f n g k (Ok r)
constant_told {n = n} face next same made =
    let p = passed face next same in
    let long = passed_long p in
    told_made (kept_passed n p) made tt (omega (arith, long)) (omega (arith, long)) (λ h q. ap (λ ts. limited 64 ts (want h)) p.first)

pub begun-returns-in-Name : goal.begun-returns-in-Name
begun-returns-in-Name t c =
    let f = c.args.self.now.feed in
    let n = c.args.self.now.arena in
    let place = c.args.next.place in
    let s : Stretch = record { at = place; len = c.in-Name.len } in
    let face = faced (feed_source f) c.args.next (coming f) (Kind.Name c.in-Name.len) c.requires.facing c.in-Name.is in
    let p = passed face c.leaf.ensures.coming c.leaf.ensures.source in
    let long = passed_long p in
    told_made (kept_passed n p) c.leaf.ensures.made (s, (refl, last_node (arena_nodes n) (Node.Variable s))) (omega (arith, long)) (omega (arith, long)) (λ h q. ap (λ ts. limited 64 ts (want h)) p.first)

pub begun-returns-in-Text : goal.begun-returns-in-Text
begun-returns-in-Text t c =
    let f = c.args.self.now.feed in
    let leaf = c.leaf-in-Text.ensures in
    constant_told (faced (feed_source f) c.args.next (coming f) (Kind.Text c.in-Text.len) c.requires.facing c.in-Text.is) leaf.coming leaf.source leaf.made

pub begun-returns-in-Constant : goal.begun-returns-in-Constant
begun-returns-in-Constant t c =
    let f = c.args.self.now.feed in
    let src = feed_source f in
    let leaf = c.leaf-in-Constant.ensures in
    let face = faced src c.args.next (coming f) (Kind.Constant c.in-Constant.constant) c.requires.facing c.in-Constant.is in
    constant_told (face ∙ ap (λ l. at (tree.lit l) c.args.next.place ∷ drop 1 (coming f)) (sym (c.into-literal.ensures src))) leaf.coming leaf.source leaf.made

pub prefix-returns : goal.prefix-returns
prefix-returns t c =
    let f = c.args.self.now.feed in
    let n = c.args.self.now.arena in
    let src = feed_source f in
    let o = c.args.operator in
    let place = c.args.next.place in
    let face = faced src c.args.next (coming f) (sign o) c.requires.facing c.requires.kind in
    let p = passed face c.advance.ensures.coming c.advance.ensures.source in
    let long = passed_long p in
    let x = c.in_ok-operand.operand in
    let g = c.advance.new.self in
    let told = c.in_ok-operand.ensures.told in
    let ends = c.in_ok-operand.ensures.ends in
    let inner = c.in_ok-inner.ensures in
    let deep : c.args.depth.levels < 64 = omega (arith, inner, c.in_ok-inner.inner.most) in
    let reach : c.tight-reach.result ≡ tree.reach (prefix_of o) = c.tight-reach.ensures in
    let e = (phrase (feed_source g) (arena_nodes c.expression.new.self.arena) x.node).expr in
    told_made (kept_then (kept_passed n p) told.kept) c.made.ensures tt (omega (arith, long, told.goes.spare)) (omega (arith, long, told.goes.some))
    (λ h q.
    let a = q.asked in
    let spot : Spot c.tight-reach.result c.in_ok-inner.inner.levels (under place (prefix_of o) h) = record { asked = sym reach; deep = omega (arith, q.deep, inner) } in
    ap (λ ts. limited 64 ts (want h)) p.first
    ∙ signs src o h place (coming g) (le-leb (asks h) (tree.reach (prefix_of o)) (omega (arith, a, reach, c.if-asks-reach.false))) (shallow h q.deep deep)
    ∙ told.goes.goes (under place (prefix_of o) h) spot
    ∙ sheds_pre x.place (form_of x.form e) e place (prefix_of o) h (coming c.expression.new.self.feed) (ends (under place (prefix_of o) h) spot)
    ∙ ap (λ s. limited 64 (coming c.expression.new.self.feed) (have place (tree.prefix (prefix_of o)) (tree.pre place (prefix_of o) (phrase s (arena_nodes c.expression.new.self.arena) x.node).expr) h)) p.source)

pub group-returns-in_err-take_mark : goal.group-returns-in_err-take_mark
group-returns-in_err-take_mark t c =
    let f = c.args.self.now.feed in
    let n = c.args.self.now.arena in
    let src = feed_source f in
    let place = c.args.next.place in
    let face = faced src c.args.next (coming f) Kind.LeftRound c.requires.facing c.requires.kind in
    let p = passed face c.advance.ensures.coming c.advance.ensures.source in
    let x = c.in_ok-read.read in
    let g = c.advance.new.self in
    let told = c.in_ok-read.ensures.told in
    let ends = c.in_ok-read.ensures.ends in
    let no = c.in_err-take_mark.ensures in
    let inner = c.in_ok-inner.ensures in
    let deep : c.args.depth.levels < 64 = omega (arith, inner, c.in_ok-inner.inner.most) in
    let e = (phrase (feed_source g) (arena_nodes c.expression.new.self.arena) x.node).expr in
    exit c.from_residual-in_err-take_mark.result _ c.from_residual-in_err-take_mark.ensures.1
    (kept_then (kept_passed n p) (kept_then told.kept (kept_still c.expression.new.self.arena no.told.1 no.source)))
    (λ h q.
    let spot : Spot 0 c.in_ok-inner.inner.levels (paren place h) = record { asked = refl; deep = omega (arith, q, inner) } in
    ap (λ ts. judged (limited 64 ts (want h))) p.first
    ∙ ap judged (opens h place (coming g) (shallow h q deep) ∙ told.goes.goes (paren place h) spot)
    ∙ unclosed marks.Mark.RightRound (paren place h) x.place (form_of x.form e) e (λ i. have place tree.closed e h) (coming c.expression.new.self.feed) _ (λ i. refl) (ends (paren place h) spot) no.told.0)

pub expression-loop-next-preserved : goal.expression-loop-next-preserved
expression-loop-next-preserved t c = grew_more c.loop-next.invariant c.in_ok-read-2.ensures

pub expression-returns-in_err-read-2 : goal.expression-returns-in_err-read-2
expression-returns-in_err-read-2 t c =
    let b = c.in_err-read-2.ensures in
    let a = c.in_ok-read.ensures in
    let k = kept_then a.kept (kept_then c.loop-next.invariant.kept b.kept) in
    record {
      told = exit c.from_residual-in_err-read-2.result _ c.from_residual-in_err-read-2.ensures.1 k (grew_stop a c.loop-next.invariant b);
      ends = search rules;
    }

pub expression-returns-in_default-growth_of : goal.expression-returns-in_default-growth_of
expression-returns-in_default-growth_of t c =
    let x = c.loop-next.read in
    let f = c.loop-next.self.feed in
    let n = c.in-Some.next in
    let e = (phrase (feed_source c.args.self.now.feed) (arena_nodes c.loop-next.self.arena) x.node).expr in
    let none = sym c.growth_of.ensures ∙ c.in_default-growth_of.is in
    record {
      told = grew_told c.in_ok-read.ensures c.loop-next.invariant;
      ends = λ h q.
          stuck_next x.place (form_of x.form e) e h (next_token (feed_source f) n) (coming f) (drop 1 (coming f)) c.in-Some.ensures
          (rests (feed_source f) n.place n.kind x.form c.args.asks x.place e h q.asked none);
    }

pub expression-grown-requires : goal.expression-grown-requires
expression-grown-requires t c =
    let inv = c.loop-next.invariant in
    let grows = goes_on c.in-Some.next.kind c.loop-next.read.form c.args.asks c.in-Some-growth_of.growth (sym c.growth_of.ensures ∙ c.in-Some-growth_of.is) in
    (search rules, (inv.stored, (c.in-Some.ensures, grows)))

pub binary-returns-in_err-right : goal.binary-returns-in_err-right
binary-returns-in_err-right t c =
    let f = c.args.self.now.feed in
    let n = c.args.self.now.arena in
    let src = feed_source f in
    let o = c.args.operator in
    let x = c.args.read in
    let g = c.advance.new.self in
    let e = (phrase src (arena_nodes n) x.node).expr in
    let face = faced src c.args.next (coming f) (Kind.Operator o) c.requires.facing c.requires.kind in
    let p = passed {f = f} {g = g} face c.advance.ensures.coming c.advance.ensures.source in
    let level : c.level.result ≡ tree.level (tree.rank (binary_of o)) = c.level.ensures.value ∙ ap tree.level c.from-rank.ensures in
    let tight = ap (leb (tree.left (tree.rank (binary_of o)))) (tight_same x.form e) ∙ c.requires.tight in
    let told = c.in_err-right.ensures.told in
    exit c.from_residual.result _ c.from_residual.ensures.1 (kept_then (kept_passed n p) told.kept)
    (λ h q.
    let a = q.asked in
    ap (λ ts. judged (limited 64 ts (having src (arena_nodes n) x h))) p.first
    ∙ ap judged (joins x.place (form_of x.form e) e h (binary_of o) c.args.next.place (coming g) (le-leb (asks h) (tree.level (tree.rank (binary_of o))) a) tight)
    ∙ told.goes (rhs x.place (binary_of o) e h) (record { asked = omega (arith, level); deep = q.deep }))

pub binary-returns : goal.binary-returns
binary-returns t c =
    let f = c.args.self.now.feed in
    let n = c.args.self.now.arena in
    let src = feed_source f in
    let o = c.args.operator in
    let x = c.args.read in
    let g = c.advance.new.self in
    let e = (phrase src (arena_nodes n) x.node).expr in
    let face = faced src c.args.next (coming f) (Kind.Operator o) c.requires.facing c.requires.kind in
    let p = passed {f = f} {g = g} face c.advance.ensures.coming c.advance.ensures.source in
    let level : c.level.result ≡ tree.level (tree.rank (binary_of o)) = c.level.ensures.value ∙ ap tree.level c.from-rank.ensures in
    let tight = ap (leb (tree.left (tree.rank (binary_of o)))) (tight_same x.form e) ∙ c.requires.tight in
    let told = c.in_ok-right.ensures.told in
    let ends = c.in_ok-right.ensures.ends in
    let long = passed_long p in
    let kept = kept_then (kept_passed n p) told.kept in
    let y = c.in_ok-right.right in
    let us = coming c.expression.new.self.feed in
    let ns = arena_nodes c.expression.new.self.arena in
    let e' = (phrase (feed_source g) ns y.node).expr in
    let i = x.place in
    told_made kept c.made.ensures tt (omega (arith, long, told.goes.spare)) (omega (arith, long, told.goes.some))
    (λ h q.
    let a = q.asked in
    let spot : Spot (c.level.result + 1) c.args.depth.levels (rhs i (binary_of o) e h) = record { asked = omega (arith, level); deep = q.deep } in
    ap (λ ts. limited 64 ts (having src (arena_nodes n) x h)) p.first
    ∙ joins i (form_of x.form e) e h (binary_of o) c.args.next.place (coming g) (le-leb (asks h) (tree.level (tree.rank (binary_of o))) a) tight
    ∙ told.goes.goes (rhs i (binary_of o) e h) spot
    ∙ sheds_op y.place (form_of y.form e') e' i (binary_of o) e h us (ends (rhs i (binary_of o) e h) spot)
    ∙ ap (λ r. limited 64 us (have i (tree.binary r) (tree.bin i (binary_of o) e e') h)) (sym c.from-rank.ensures)
    ∙ ap (λ a'. limited 64 us (have i (tree.binary (rank_of c.from-rank.result)) (tree.bin i (binary_of o) a'.expr e') h)) (sym (kept_phrase src x.node kept c.requires.stored))
    ∙ ap (λ s. limited 64 us (have i (tree.binary (rank_of c.from-rank.result)) (tree.bin i (binary_of o) (phrase src ns x.node).expr (phrase s ns y.node).expr) h)) p.source)

pub call-returns : goal.call-returns
call-returns t c =
    let f = c.args.self.now.feed in
    let n = c.args.self.now.arena in
    let src = feed_source f in
    let told = c.in_ok-arguments.ensures.told in
    let spare = c.in_ok-arguments.ensures.spare in
    let more = kept_long told.kept in
    let x = c.args.read in
    let e = (phrase src (arena_nodes n) x.node).expr in
    let us = coming c.listed.new.self.feed in
    let i = x.place in
    let face = faced src c.args.next (coming f) Kind.LeftRound c.requires.facing c.requires.kind in
    let inner = c.in_ok-inner.ensures in
    let deep : c.args.depth.levels < 64 = omega (arith, inner, c.in_ok-inner.inner.most) in
    told_made told.kept c.made.ensures tt spare (omega (arith, spare, more))
    (λ h q.
    ap (λ ts. limited 64 ts (having src (arena_nodes n) x h)) face
    ∙ pars i (form_of x.form e) e h c.args.next.place (drop 1 (coming f)) (callable_same x.form e ∙ c.requires.callable) (shallow h q deep)
    ∙ told.goes.goes (of_call i e) h (record { mark = refl; deep = omega (arith, q, inner) })
    ∙ ap (λ a. limited 64 us (have i tree.closed (tree.call i a.expr (phrase src (arena_nodes c.listed.new.self.arena) c.in_ok-arguments.arguments).exprs) h)) (sym (kept_phrase src x.node told.kept c.requires.stored)))

pub display-returns : goal.display-returns
display-returns t c =
    let f = c.args.self.now.feed in
    let src = feed_source f in
    let told = c.in_ok-elements.ensures.told in
    let spare = c.in_ok-elements.ensures.spare in
    let more = kept_long told.kept in
    let face = faced src c.args.next (coming f) Kind.LeftSquare c.requires.facing c.requires.kind in
    let inner = c.in_ok-inner.ensures in
    let deep : c.args.depth.levels < 64 = omega (arith, inner, c.in_ok-inner.inner.most) in
    told_made told.kept c.made.ensures tt spare (omega (arith, spare, more))
    (λ h q.
    ap (λ ts. limited 64 ts (want h)) face
    ∙ lists h c.args.next.place (drop 1 (coming f)) (shallow h q deep)
    ∙ told.goes.goes (of_list c.args.next.place) h (record { mark = refl; deep = omega (arith, q, inner) }))

pub index-returns-in_err-take_mark : goal.index-returns-in_err-take_mark
index-returns-in_err-take_mark t c =
    let f = c.args.self.now.feed in
    let n = c.args.self.now.arena in
    let src = feed_source f in
    let x = c.args.read in
    let g = c.advance.new.self in
    let e = (phrase src (arena_nodes n) x.node).expr in
    let face = faced src c.args.next (coming f) Kind.LeftSquare c.requires.facing c.requires.kind in
    let p = passed {f = f} {g = g} face c.advance.ensures.coming c.advance.ensures.source in
    let tight = ap (leb 8) (tight_same x.form e) ∙ c.requires.tight in
    let inner = c.in_ok-inner.ensures in
    let deep : c.args.depth.levels < 64 = omega (arith, inner, c.in_ok-inner.inner.most) in
    let told = c.in_ok-index.ensures.told in
    let ends = c.in_ok-index.ensures.ends in
    let y = c.in_ok-index.index in
    let i = x.place in
    let ns = arena_nodes c.expression.new.self.arena in
    let e' = (phrase (feed_source g) ns y.node).expr in
    let no = c.in_err-take_mark.ensures in
    exit c.from_residual-in_err-take_mark.result _ c.from_residual-in_err-take_mark.ensures.1
    (kept_then (kept_passed n p) (kept_then told.kept (kept_still c.expression.new.self.arena no.told.1 no.source)))
    (λ h q.
    let spot : Spot 0 c.in_ok-inner.inner.levels (index i e h) = record { asked = refl; deep = omega (arith, q, inner) } in
    ap (λ ts. judged (limited 64 ts (having src (arena_nodes n) x h))) p.first
    ∙ ap judged (subs i (form_of x.form e) e h c.args.next.place (coming g) tight (shallow h q deep) ∙ told.goes.goes (index i e h) spot)
    ∙ unclosed marks.Mark.RightSquare (index i e h) y.place (form_of y.form e') e' (λ j. have i tree.indexed (tree.idx i e e') h) (coming c.expression.new.self.feed) _ (λ j. refl) (ends (index i e h) spot) no.told.0)

pub index-returns : goal.index-returns
index-returns t c =
    let f = c.args.self.now.feed in
    let n = c.args.self.now.arena in
    let src = feed_source f in
    let x = c.args.read in
    let g = c.advance.new.self in
    let e = (phrase src (arena_nodes n) x.node).expr in
    let face = faced src c.args.next (coming f) Kind.LeftSquare c.requires.facing c.requires.kind in
    let p = passed {f = f} {g = g} face c.advance.ensures.coming c.advance.ensures.source in
    let tight = ap (leb 8) (tight_same x.form e) ∙ c.requires.tight in
    let inner = c.in_ok-inner.ensures in
    let deep : c.args.depth.levels < 64 = omega (arith, inner, c.in_ok-inner.inner.most) in
    let told = c.in_ok-index.ensures.told in
    let ends = c.in_ok-index.ensures.ends in
    let y = c.in_ok-index.index in
    let i = x.place in
    let ns = arena_nodes c.expression.new.self.arena in
    let e' = (phrase (feed_source g) ns y.node).expr in
    let us = c.take_mark.new.self in
    let r : Passed (at (tree.mark tree.rbracket) c.in_ok-take_mark.ensures.told.0) c.expression.new.self.feed us = record { first = c.in_ok-take_mark.ensures.told.1; source = c.in_ok-take_mark.ensures.source } in
    let long = passed_long p in
    let last = passed_long r in
    let kept = kept_then (kept_passed n p) (kept_then told.kept (kept_passed c.expression.new.self.arena r)) in
    told_made kept c.made.ensures tt (omega (arith, long, last, told.goes.spare)) (omega (arith, long, last, told.goes.some))
    (λ h q.
    let spot : Spot 0 c.in_ok-inner.inner.levels (index i e h) = record { asked = refl; deep = omega (arith, q, inner) } in
    ap (λ ts. limited 64 ts (having src (arena_nodes n) x h)) p.first
    ∙ subs i (form_of x.form e) e h c.args.next.place (coming g) tight (shallow h q deep)
    ∙ told.goes.goes (index i e h) spot
    ∙ ap (λ ts. limited 64 ts (have y.place (form_of y.form e') e' (index i e h))) r.first
    ∙ ap (λ a. limited 64 (coming us) (have i tree.indexed (tree.idx i a.expr e') h)) (sym (kept_phrase src x.node kept c.requires.stored))
    ∙ ap (λ s. limited 64 (coming us) (have i tree.indexed (tree.idx i (phrase src ns x.node).expr (phrase s ns y.node).expr) h)) p.source)

pub item-returns : goal.item-returns
item-returns t c =
    let told = c.in_ok-last.ensures.told in
    item_told c.args.list c.in_ok-last.last c.requires.stored told c.in_ok-last.ensures.ends c.store.ensures.index c.store.ensures.nodes c.store.ensures.limit

pub listed-returns-then-passes-clause-told : goal.listed-returns-then-passes-clause-told
listed-returns-then-passes-clause-told t c =
    let f = c.args.self.now.feed in
    let g = c.advance.new.self in
    let n = c.args.self.now.arena in
    let o : Opened f n g c.store-empty.new.arena c.store-empty.result = opened c.requires.some c.advance.ensures.coming c.advance.ensures.source c.store-empty.ensures.index c.store-empty.ensures.nodes c.store-empty.ensures.limit in
    let r = c.if-passes.ensures in
    let p : Passed (at (tree.mark (mark_of c.args.close)) r.told.0) g c.passes.new.self = record { first = r.told.1; source = r.source } in
    listed_empty c.args.close o p

pub listed-returns-clause-told : goal.listed-returns-clause-told
listed-returns-clause-told t c =
    let f = c.args.self.now.feed in
    let g = c.advance.new.self in
    let n = c.args.self.now.arena in
    let o : Opened f n g c.store-empty.new.arena c.store-empty.result = opened c.requires.some c.advance.ensures.coming c.advance.ensures.source c.store-empty.ensures.index c.store-empty.ensures.nodes c.store-empty.ensures.limit in
    let r = c.if-passes.ensures in
    listed_items {g = g} {g' = c.passes.new.self} c.args.close c.items.result o r.told.0 r.told.1 r.source c.items.ensures
