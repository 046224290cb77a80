use Rattle.std.proofs.Common.{◌≡◌, length, sym, ap, ◌∙◌, arith}
use Rattle.arena.specs.Tables.{arena_nodes}
use Rattle.arena.specs.Trees.{Phrase, phrase}
use Rattle.arena.specs.declared.nodes.Node.{Node}
use Rattle.grammar.specs.Tree as tree
use Rattle.grammar.specs.Tree.{Decls}
use Rattle.grammar.specs.Limits.{limited}
use Rattle.grammar.specs.Verdict.{judged}
use Rattle.reader.specs.Classes.{ClassAt, MemberAt}
use Rattle.reader.specs.Feeds.{coming, feed_source}
use Rattle.reader.proofs.DefinitionSteps.{members_of}
use Rattle.reader.proofs.Leading.{Along, along, along_as, along_stored, stopped_behind}
use Rattle.reader.proofs.Steps.{kept_phrase, kept_still}
use Rattle.reader.proofs.Storing.{kept_then, stored}
use Rattle.reader.proofs.parsers.Parser.class_members.Goals as goal

-- the class with the members so far
abbrev with_members : Decls → ClassAt → MemberAt
with_members ds x = record { place = x.place; name = x.name; super = x.super; others = x.others; members = ds }

pub returns-in_err-last : goal.returns-in_err-last
returns-in_err-last c =
    let m = c.loop-self.self.arena in
    let ds = (phrase (feed_source c.args.self.now.feed) (arena_nodes m) c.loop-self.before).decls in
    let still = c.loop-self-test.ensures in
    let bad = c.in_err-last.ensures in
    stopped_behind c.from_residual.result _ c.from_residual.ensures.1 c.loop-self.invariant.1 (kept_then (kept_still m still.told.0 still.source) bad.kept)
    (λ x. ap (λ ts. judged (limited 64 ts (members_of ds x))) (sym still.told.0) ∙ bad.leads (with_members ds x))

pub loop-self-preserved : goal.loop-self-preserved
loop-self-preserved c =
    let src = feed_source c.args.self.now.feed in
    let f = c.loop-self.self.feed in
    let g = c.passes.new.self in
    let h = c.class_member.new.self.feed in
    let m = c.loop-self.self.arena in
    let k = c.class_member.new.self.arena in
    let q = c.store-before.new.arena in
    let before = c.loop-self.before in
    let last = c.in_ok-last.last in
    let inv = c.loop-self.invariant in
    let still = c.loop-self-test.ensures in
    let told = c.in_ok-last.ensures in
    let st = c.store-before.ensures in
    let ds = (phrase src (arena_nodes m) before).decls in
    let same : feed_source g ≡ src = still.source ∙ inv.1.kept.source in
    let count = ap length still.told.0 in
    let new = stored src (arena_nodes k) (arena_nodes q) (Node.MoreDeclarations before last) c.store-before.result st.index st.nodes in
    let list : ds ≡ (phrase src (arena_nodes k) before).decls = ap (λ (z : Phrase). z.decls) (sym (kept_phrase src before told.kept inv.0)) in
    let member : Along (λ x. limited 64 (coming f) (members_of ds x)) (λ x. limited 64 (coming h) (members_of (tree.decl ds (phrase (feed_source g) (arena_nodes k) last).decl) x)) f m h k = record {
      kept = kept_then (kept_still m still.told.0 still.source) told.kept;
      goes = λ x. ap (λ ts. limited 64 ts (members_of ds x)) (sym still.told.0) ∙ told.leads.goes (with_members ds x);
    } in (
      new.here,
      along inv.1 (along_as (along_stored (Node.MoreDeclarations before last) member st.nodes st.limit (omega (arith, count, told.leads.spare)))
          (λ x.
          (λ i. limited 64 (coming h) (members_of (tree.decl (list i) (phrase (same i) (arena_nodes k) last).decl) x))
          ∙ ap (λ (z : Phrase). limited 64 (coming h) (members_of z.decls x)) (sym new.stands))),
    )
