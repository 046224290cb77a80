use Rattle.std.proofs.Common.{◌≡◌, ◌<◌, [], ◌∷◌, length, sym, refl, ap, ◌∙◌, subst, arith, length-append, rules}
use Rattle.arena.specs.Tables.{arena_nodes}
use Rattle.arena.specs.Trees.{Phrase, phrase, spelled}
use Rattle.arena.specs.declared.nodes.Node.{Node}
use Rattle.grammar.specs.Limits.{limited}
use Rattle.grammar.specs.Reader.{State, add, more, other, seq, start}
use Rattle.grammar.specs.Tree.{at}
use Rattle.reader.proofs.ArmSteps.{arm_on, arms_on, around, block_on, else_block, for_begun, for_test, from_arm, from_test, if_begun, if_test, if_ways, no_else, past_arms, while_begun, while_test, word_passed}
use Rattle.reader.proofs.BlockSteps.{Begun, block_begun, block_first, block_inward, block_opened, block_told, guarded, nested, one_more, sequel_ends, sequel_next, settled_told, still_there, tested_colon}
use Rattle.reader.proofs.Leading.{along, led, led_on, stepped, stopped, stopped_behind, stopped_on, told_on, told_stored}
use Rattle.reader.proofs.ListSteps.{stored_phrase}
use Rattle.reader.proofs.Steps.{Passed, kept_long, kept_phrase, kept_still, passed_long}
use Rattle.reader.proofs.Storing.{kept_taken, kept_then, stays}
use Rattle.reader.specs.Feeds.{coming, feed_source}
use Rattle.reader.specs.Keeping.{Kept}
use Rattle.reader.specs.Kinds.{mark_of}
use Rattle.reader.specs.Places.{ArmsAt, AroundAt, NestAt, Sequel, TestAt, nest_body, nest_end}
use Rattle.reader.specs.Taking.{Another}
use Rattle.reader.specs.Told.{read_expr}
use Rattle.reader.specs.declared.kinds.Mark.{Mark}
use Rattle.grammar.specs.Tree as tree
use Rattle.reader.proofs.parsers.Parser.+arm_block_elifs_for_statement_guarded_block_if_statement_otherwise_statement_statements_while_statement_worded.Goals as goal

pub arm-returns-in_err-condition : goal.arm-returns-in_err-condition
arm-returns-in_err-condition t c =
    let src = feed_source c.args.self.now.feed in
    let aa = (phrase src (arena_nodes c.args.self.now.arena) c.args.before).arms in
    let bad = c.in_err-condition.ensures in
    stopped c.from_residual.result _ c.from_residual.ensures.1 bad.kept (λ x. bad.leads (if_test aa c.args.place x))

pub arm-returns : goal.arm-returns
arm-returns t c =
    let f = c.args.self.now.feed in
    let n = c.args.self.now.arena in
    let g = c.guarded_block.new.self.feed in
    let m = c.guarded_block.new.self.arena in
    let src = feed_source f in
    let p = c.args.place in
    let a = c.in_ok-condition.field-0 in
    let aa = (phrase src (arena_nodes n) c.args.before).arms in
    let told = c.in_ok-condition.ensures in
    told_stored (Node.MoreArms c.args.before p a.condition a.body) (led told (λ (x : AroundAt c.args.depth.levels). if_test aa p x))
    c.store.ensures.index c.store.ensures.nodes c.store.ensures.limit (omega (arith, told.leads.spare))
    (λ new x.
    ap (λ (q : Phrase). limited 64 (coming g) (more (tree.arm q.arms p (phrase src (arena_nodes m) a.condition).expr (phrase src (arena_nodes m) a.body).stmts) x.body)) (sym (kept_phrase src c.args.before told.kept c.requires.stored))
    ∙ ap (λ (q : Phrase). limited 64 (coming g) (more q.arms x.body)) (sym new))

pub for_statement-returns-in_err-condition : goal.for_statement-returns-in_err-condition
for_statement-returns-in_err-condition t c =
    let f = c.args.self.now.feed in
    let g = c.advance.new.self in
    let n = c.args.self.now.arena in
    let p = c.args.next.place in
    let word : Passed (at (tree.mark tree.for) p) f g = word_passed Mark.For c.args.next c.requires.facing c.requires.kind c.advance.ensures.coming c.advance.ensures.source in
    let k = c.take_mark.new.self in
    let variable = c.in_ok-variable.variable in
    let v = spelled (feed_source f) variable in
    let name : Passed (at (tree.name (spelled (feed_source g) variable)) variable.at) g c.take_name.new.self = record { first = c.in_ok-variable.ensures.told; source = c.in_ok-variable.ensures.source } in
    let within : Passed (at (tree.mark tree.within) c.in_ok-take_mark.ensures.told.0) c.take_name.new.self k = record { first = c.in_ok-take_mark.ensures.told.1; source = c.in_ok-take_mark.ensures.source } in
    let begun = for_begun c.args.depth.levels n variable word name within in
    stopped_on c.from_residual-in_err-condition.result c.from_residual-in_err-condition.ensures.1 (for_test p v) (λ s (x : TestAt c.args.depth.levels). from_test k x) begun c.in_err-condition.ensures

pub for_statement-returns : goal.for_statement-returns
for_statement-returns t c =
    let f = c.args.self.now.feed in
    let g = c.advance.new.self in
    let n = c.args.self.now.arena in
    let p = c.args.next.place in
    let word : Passed (at (tree.mark tree.for) p) f g = word_passed Mark.For c.args.next c.requires.facing c.requires.kind c.advance.ensures.coming c.advance.ensures.source in
    let k = c.take_mark.new.self in
    let variable = c.in_ok-variable.variable in
    let v = spelled (feed_source f) variable in
    let name : Passed (at (tree.name (spelled (feed_source g) variable)) variable.at) g c.take_name.new.self = record { first = c.in_ok-variable.ensures.told; source = c.in_ok-variable.ensures.source } in
    let within : Passed (at (tree.mark tree.within) c.in_ok-take_mark.ensures.told.0) c.take_name.new.self k = record { first = c.in_ok-take_mark.ensures.told.1; source = c.in_ok-take_mark.ensures.source } in
    let begun = for_begun c.args.depth.levels n variable word name within in
    let h = c.guarded_block.new.self.feed in
    let a = c.in_ok-condition.field-0 in
    let told = c.in_ok-condition.ensures in
    told_stored (Node.For p variable a.condition a.body) (block_on a (for_test p v) begun told)
    c.store.ensures.index c.store.ensures.nodes c.store.ensures.limit (omega (arith, begun.kept.cost, told.leads.spare))
    (λ new x. ap (λ (q : Phrase). limited 64 (coming h) (start (add q.stmt x.body))) (sym new))

pub if_statement-returns-in_err-first : goal.if_statement-returns-in_err-first
if_statement-returns-in_err-first t c =
    let f = c.args.self.now.feed in
    let g = c.advance.new.self in
    let n = c.args.self.now.arena in
    let p = c.args.next.place in
    let word : Passed (at (tree.mark tree.if) p) f g = word_passed Mark.If c.args.next c.requires.facing c.requires.kind c.advance.ensures.coming c.advance.ensures.source in
    let none = c.store-none.result in
    let begun = if_begun c.args.depth.levels n c.store-nothing.new.arena c.store-none.new.arena word c.store-nothing.ensures.nodes c.store-nothing.ensures.limit c.store-none.ensures.index c.store-none.ensures.nodes c.store-none.ensures.limit in
    stopped_on c.from_residual.result c.from_residual.ensures.1 around (λ s (x : AroundAt c.args.depth.levels). from_arm g c.store-none.new.arena none p s x) begun c.in_err-first.ensures

pub if_statement-returns-in_err-arms : goal.if_statement-returns-in_err-arms
if_statement-returns-in_err-arms t c =
    let f = c.args.self.now.feed in
    let g = c.advance.new.self in
    let n = c.args.self.now.arena in
    let p = c.args.next.place in
    let word : Passed (at (tree.mark tree.if) p) f g = word_passed Mark.If c.args.next c.requires.facing c.requires.kind c.advance.ensures.coming c.advance.ensures.source in
    let none = c.store-none.result in
    let begun = if_begun c.args.depth.levels n c.store-nothing.new.arena c.store-none.new.arena word c.store-nothing.ensures.nodes c.store-nothing.ensures.limit c.store-none.ensures.index c.store-none.ensures.nodes c.store-none.ensures.limit in
    let first = arm_on none p c.in_ok-first.first around begun c.in_ok-first.ensures in
    stopped_on c.from_residual-in_err-arms.result c.from_residual-in_err-arms.ensures.1 around (λ s (x : AroundAt c.args.depth.levels). past_arms c.arm.new.self.feed c.arm.new.self.arena s c.in_ok-first.first x) first c.in_err-arms.ensures.told

pub if_statement-otherwise-requires : goal.if_statement-otherwise-requires
if_statement-otherwise-requires t c =
    let f = c.args.self.now.feed in
    let g = c.advance.new.self in
    let n = c.args.self.now.arena in
    let p = c.args.next.place in
    let word : Passed (at (tree.mark tree.if) p) f g = word_passed Mark.If c.args.next c.requires.facing c.requires.kind c.advance.ensures.coming c.advance.ensures.source in
    let none = c.store-none.result in
    let begun = if_begun c.args.depth.levels n c.store-nothing.new.arena c.store-none.new.arena word c.store-nothing.ensures.nodes c.store-nothing.ensures.limit c.store-none.ensures.index c.store-none.ensures.nodes c.store-none.ensures.limit in
    let first = arm_on none p c.in_ok-first.first around begun c.in_ok-first.ensures in
    let arms = arms_on c.in_ok-first.first c.in_ok-arms.arms around first c.in_ok-arms.ensures.told in
    let i = c.store-nothing.result in
    let m = c.store-nothing.new.arena in
    let l = c.store-none.new.arena in
    let src = feed_source c.elifs.new.self.feed in
    let on : Kept g l c.elifs.new.self.feed c.elifs.new.self.arena = kept_then c.in_ok-first.ensures.kept c.in_ok-arms.ensures.told.kept in
    let one = ap length c.store-nothing.ensures.nodes ∙ length-append (arena_nodes n) (Node.NoStatements ∷ []) in
    let two = ap length c.store-none.ensures.nodes ∙ length-append (arena_nodes m) (Node.NoArms ∷ []) in
    let here : i < length (arena_nodes m) = omega (arith, one, c.store-nothing.ensures.index) in
    let then : i < length (arena_nodes l) = omega (arith, two, here) in
    let empty : (phrase src (arena_nodes c.elifs.new.self.arena) i).stmts ≡ tree.empty =
    ap (λ (q : Phrase). q.stmts) (kept_phrase src i on then ∙ stays src (arena_nodes m) (arena_nodes l) (Node.NoArms ∷ []) i here c.store-none.ensures.nodes ∙ stored_phrase n m Node.NoStatements i src c.store-nothing.ensures.index c.store-nothing.ensures.nodes) in
    (search rules, (c.in_ok-arms.ensures.over, (omega (arith, kept_long on, then), empty)))

pub if_statement-returns-in_err-otherwise : goal.if_statement-returns-in_err-otherwise
if_statement-returns-in_err-otherwise t c =
    let f = c.args.self.now.feed in
    let g = c.advance.new.self in
    let n = c.args.self.now.arena in
    let p = c.args.next.place in
    let word : Passed (at (tree.mark tree.if) p) f g = word_passed Mark.If c.args.next c.requires.facing c.requires.kind c.advance.ensures.coming c.advance.ensures.source in
    let none = c.store-none.result in
    let begun = if_begun c.args.depth.levels n c.store-nothing.new.arena c.store-none.new.arena word c.store-nothing.ensures.nodes c.store-nothing.ensures.limit c.store-none.ensures.index c.store-none.ensures.nodes c.store-none.ensures.limit in
    let first = arm_on none p c.in_ok-first.first around begun c.in_ok-first.ensures in
    let arms = arms_on c.in_ok-first.first c.in_ok-arms.arms around first c.in_ok-arms.ensures.told in
    let k = c.elifs.new.self.feed in
    let ways = (phrase (feed_source f) (arena_nodes c.elifs.new.self.arena) c.in_ok-arms.arms).arms in
    stopped_on c.from_residual-in_err-otherwise.result c.from_residual-in_err-otherwise.ensures.1 (if_ways ways) (λ s (x : ArmsAt c.args.depth.levels). limited 64 (coming k) (more x.ways x.body)) arms c.in_err-otherwise.ensures

pub if_statement-returns : goal.if_statement-returns
if_statement-returns t c =
    let f = c.args.self.now.feed in
    let g = c.advance.new.self in
    let n = c.args.self.now.arena in
    let p = c.args.next.place in
    let word : Passed (at (tree.mark tree.if) p) f g = word_passed Mark.If c.args.next c.requires.facing c.requires.kind c.advance.ensures.coming c.advance.ensures.source in
    let none = c.store-none.result in
    let begun = if_begun c.args.depth.levels n c.store-nothing.new.arena c.store-none.new.arena word c.store-nothing.ensures.nodes c.store-nothing.ensures.limit c.store-none.ensures.index c.store-none.ensures.nodes c.store-none.ensures.limit in
    let first = arm_on none p c.in_ok-first.first around begun c.in_ok-first.ensures in
    let arms = arms_on c.in_ok-first.first c.in_ok-arms.arms around first c.in_ok-arms.ensures.told in
    let k = c.otherwise.new.self.feed in
    let m = c.elifs.new.self.arena in
    let l = c.otherwise.new.self.arena in
    let src = feed_source f in
    let i = c.in_ok-arms.arms in
    let told = c.in_ok-otherwise.ensures in
    let ways = (phrase src (arena_nodes m) i).arms in
    told_stored (Node.If i c.in_ok-otherwise.otherwise)
    (led_on (if_ways ways) (λ s (x : ArmsAt c.args.depth.levels). limited 64 (coming c.elifs.new.self.feed) (more x.ways x.body)) (λ s j x. limited 64 (coming k) (start (add (tree.choose x.ways (phrase s (arena_nodes l) j).stmts) x.body))) arms told)
    c.store.ensures.index c.store.ensures.nodes c.store.ensures.limit
    (omega (arith, begun.kept.cost, c.in_ok-first.ensures.leads.spare, c.in_ok-arms.ensures.told.leads.spare, told.leads.spare))
    (λ new x.
    ap (λ (q : Phrase). limited 64 (coming k) (start (add (tree.choose q.arms (phrase src (arena_nodes l) c.in_ok-otherwise.otherwise).stmts) x.body))) (sym (kept_phrase src i told.kept c.in_ok-arms.ensures.told.leads.stored))
    ∙ ap (λ (q : Phrase). limited 64 (coming k) (start (add q.stmt x.body))) (sym new))

pub otherwise-returns-in_ok-take_mark : goal.otherwise-returns-in_ok-take_mark
otherwise-returns-in_ok-take_mark t c =
    let f = c.args.self.now.feed in
    let g = c.passes.new.self in
    let h = c.take_mark.new.self in
    let k = c.block.new.self.feed in
    let n = c.args.self.now.arena in
    let m = c.block.new.self.arena in
    let came = c.if-passes.ensures in
    let colon = c.in_ok-take_mark.ensures in
    let word : Passed (at (tree.mark tree.else) came.told.0) f g = record { first = came.told.1; source = came.source } in
    let mark : Passed (at (tree.mark tree.colon) colon.told.0) g h = record { first = colon.told.1; source = colon.source } in
    let block : ArmsAt c.args.depth.levels → State = λ x. start (other x.ways tree.empty x.body) in
    told_on else_block (λ s (x : NestAt c.args.depth.levels). limited 64 (coming h) (seq tree.newline (tree.indent ∷ []) (start (nest_body x.nest tree.empty x.body))))
    (λ s i x. limited 64 (coming k) (nest_end x.nest (phrase s (arena_nodes m) i).stmts x.body)) c.block.result (omega arith)
    (along (stepped n (λ (x : ArmsAt c.args.depth.levels). more x.ways x.body) (λ x. seq tree.colon (tree.newline ∷ tree.indent ∷ []) (block x)) word (λ x. refl))
    (stepped n (λ x. seq tree.colon (tree.newline ∷ tree.indent ∷ []) (block x)) (λ x. seq tree.newline (tree.indent ∷ []) (block x)) mark (λ x. refl)))
    c.block.ensures

pub otherwise-returns-else-passes : goal.otherwise-returns-else-passes
otherwise-returns-else-passes t c =
    let f = c.args.self.now.feed in
    let g = c.passes.new.self in
    let n = c.args.self.now.arena in
    let went = c.if-passes.ensures in
    let long = ap length went.told.0 in
    record {
      kept = kept_still n went.told.0 went.source;
      leads = record {
        stored = c.requires.stored;
        spare = omega (arith, long);
        goes = λ x.
            no_else x.ways x.body (coming f) c.requires.over went.told.1
            ∙ ap (λ ts. limited 64 ts (start (add (tree.choose x.ways tree.empty) x.body))) (sym went.told.0)
            ∙ ap (λ ss. limited 64 (coming g) (start (add (tree.choose x.ways ss) x.body))) (sym c.requires.empty);
      };
    }

pub while_statement-returns-in_err-condition : goal.while_statement-returns-in_err-condition
while_statement-returns-in_err-condition t c =
    let f = c.args.self.now.feed in
    let g = c.advance.new.self in
    let n = c.args.self.now.arena in
    let p = c.args.next.place in
    let word : Passed (at (tree.mark tree.while) p) f g = word_passed Mark.While c.args.next c.requires.facing c.requires.kind c.advance.ensures.coming c.advance.ensures.source in
    let begun = while_begun c.args.depth.levels n word in
    stopped_on c.from_residual.result c.from_residual.ensures.1 (while_test p) (λ s (x : TestAt c.args.depth.levels). from_test g x) begun c.in_err-condition.ensures

pub while_statement-returns : goal.while_statement-returns
while_statement-returns t c =
    let f = c.args.self.now.feed in
    let g = c.advance.new.self in
    let n = c.args.self.now.arena in
    let p = c.args.next.place in
    let word : Passed (at (tree.mark tree.while) p) f g = word_passed Mark.While c.args.next c.requires.facing c.requires.kind c.advance.ensures.coming c.advance.ensures.source in
    let begun = while_begun c.args.depth.levels n word in
    let h = c.guarded_block.new.self.feed in
    let a = c.in_ok-condition.field-0 in
    let told = c.in_ok-condition.ensures in
    let long = passed_long word in
    told_stored (Node.While p a.condition a.body) (block_on a (while_test p) begun told)
    c.store.ensures.index c.store.ensures.nodes c.store.ensures.limit (omega (arith, long, told.leads.spare))
    (λ new x. ap (λ (q : Phrase). limited 64 (coming h) (start (add q.stmt x.body))) (sym new))

pub block-returns-in_err-inner : goal.block-returns-in_err-inner
block-returns-in_err-inner t c =
    let bad = c.in_err-inner.ensures.told in
    stopped c.from_residual.result _ c.from_residual.ensures.1 (kept_taken c.args.self.now.arena bad.source bad.fewer) (λ x. bad.gets (block_inward x))

pub block-returns-in_err-last : goal.block-returns-in_err-last
block-returns-in_err-last t c =
    let told = c.in_ok-inner.ensures.told in
    let bad = c.in_err-last.ensures in
    stopped_behind c.from_residual-in_err-last.result _ c.from_residual-in_err-last.ensures.1 (block_opened told c.store-before.ensures.nodes c.store-before.ensures.limit) bad.kept
    (λ x. bad.leads (block_first c.in_ok-inner.ensures.deeper (coming c.take_indented.new.self) x))

pub block-statements-requires : goal.block-statements-requires
block-statements-requires t c =
    let told = c.in_ok-inner.ensures in
    let first : Begun c.args.depth.levels c.args.self.now.feed c.args.self.now.arena c.statement.new.self.feed c.store-first.new.arena c.store-first.result =
    block_begun told.told told.deeper c.store-before.ensures.index c.store-before.ensures.nodes c.store-before.ensures.limit c.in_ok-last.ensures c.store-first.ensures.index c.store-first.ensures.nodes c.store-first.ensures.limit in
    (omega (arith, told.deeper, c.in_ok-inner.inner.most), (first.stored, first.filled))

pub block-returns : goal.block-returns
block-returns t c =
    let told = c.in_ok-inner.ensures in
    let first : Begun c.args.depth.levels c.args.self.now.feed c.args.self.now.arena c.statement.new.self.feed c.store-first.new.arena c.store-first.result =
    block_begun told.told told.deeper c.store-before.ensures.index c.store-before.ensures.nodes c.store-before.ensures.limit c.in_ok-last.ensures c.store-first.ensures.index c.store-first.ensures.nodes c.store-first.ensures.limit in
    block_told c.statements.result told.deeper first c.statements.ensures

pub guarded_block-returns-in_err-body : goal.guarded_block-returns-in_err-body
guarded_block-returns-in_err-body t c =
    let f = c.args.self.now.feed in
    let g = c.expression.new.self.feed in
    let h = c.take_mark.new.self in
    let m = c.expression.new.self.arena in
    let r = c.in_ok-condition.condition in
    let ok = c.in_ok-condition.ensures in
    let colon = c.in_ok-take_mark.ensures in
    let bad = c.in_err-body.ensures in
    let p : Passed (at (tree.mark tree.colon) colon.told.0) g h = record { first = colon.told.1; source = colon.source } in
    stopped_behind c.from_residual-in_err-body.result _ c.from_residual-in_err-body.ensures.1 (tested_colon r ok.told p) bad.kept
    (λ x. bad.leads (nested (read_expr (feed_source f) (arena_nodes m) r) x))

pub guarded_block-returns : goal.guarded_block-returns
guarded_block-returns t c =
    let g = c.expression.new.self.feed in
    let h = c.take_mark.new.self in
    let ok = c.in_ok-condition.ensures in
    let colon = c.in_ok-take_mark.ensures in
    let p : Passed (at (tree.mark tree.colon) colon.told.0) g h = record { first = colon.told.1; source = colon.source } in
    guarded c.in_ok-condition.condition c.in_ok-body.body ok.told p c.in_ok-body.ensures

pub statement-returns-in-Mark : goal.statement-returns-in-Mark
statement-returns-in-Mark t c = settled_told {f = c.args.self.now.feed} {g = c.worded.new.self.feed} {n = c.args.self.now.arena} {m = c.worded.new.self.arena} c.worded.result c.worded.ensures

pub statements-returns-in_err-last : goal.statements-returns-in_err-last
statements-returns-in_err-last t c =
    let no = c.loop-close-test.ensures in
    let inv = c.loop-close.invariant in
    let bad = c.in_err-last.ensures in
    let g = c.passes.new.self in
    let ss = (phrase (feed_source c.args.self.now.feed) (arena_nodes c.loop-close.self.arena) c.loop-close.before).stmts in
    stopped_behind c.from_residual.result _ c.from_residual.ensures.1
    (still_there {g = g} (λ (x : Sequel c.args.close c.args.depth.levels). start (x.body ss)) inv.2 no.told.0 no.source) bad.kept
    (λ x. bad.leads (sequel_next ss inv.1 (coming g) (subst (Another c.args.close) (sym no.told.0) no.told.1) x))

pub statements-loop-close-preserved : goal.statements-loop-close-preserved
statements-loop-close-preserved t c =
    let no = c.loop-close-test.ensures in
    one_more {g = c.passes.new.self} {m = c.statement.new.self.arena} c.loop-close.invariant no.told.0 no.source no.told.1 c.in_ok-last.ensures c.store-before.ensures.index c.store-before.ensures.nodes c.store-before.ensures.limit

pub statements-returns : goal.statements-returns
statements-returns t c =
    let e = c.args.self.now.feed in
    let f = c.loop-close.self.feed in
    let g = c.passes.new.self in
    let n = c.loop-close.self.arena in
    let yes = c.loop-close-test.ensures in
    let inv = c.loop-close.invariant in
    let ss = (phrase (feed_source e) (arena_nodes n) c.loop-close.before).stmts in
    let p : Passed (at (tree.mark (mark_of c.args.close)) yes.told.0) f g = record { first = yes.told.1; source = yes.source } in
    let a = along inv.2 (stepped n (λ (x : Sequel c.args.close c.args.depth.levels). start (x.body ss)) (λ x. x.end ss) p (λ x. sequel_ends x ss inv.1 yes.told.0 (coming g))) in
    let cost = a.kept.cost in
    record { kept = a.kept; leads = record { stored = inv.0; spare = omega (arith, cost); goes = a.goes } }
