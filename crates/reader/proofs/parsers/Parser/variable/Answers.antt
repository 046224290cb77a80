use Rattle.std.proofs.Common.{◌≡◌, Ok, Err, sym, ap, ◌∙◌, subst}
use Rattle.std.proofs.lemmas.Result.{err_from_is_err_and}
use Rattle.arena.specs.Tables.{arena_nodes}
use Rattle.arena.specs.Trees.{Phrase, literal_of, named, phrase}
use Rattle.grammar.specs.Tree as tree
use Rattle.grammar.specs.Reader.{awaits, join}
use Rattle.grammar.specs.Limits.{limited}
use Rattle.grammar.specs.Verdict.{judged}
use Rattle.reader.specs.Definitions.{LiteralTold, VariableTells}
use Rattle.reader.specs.Feeds.{coming, feed_source}
use Rattle.reader.proofs.Storing.{stored}
use Rattle.reader.proofs.VariableMoves.{assigned, line_ends, no_line_end, unassigned, unvalued, valued, var_slot}
use Rattle.reader.proofs.parsers.Parser.variable.Goals as goal

pub returns-in_err-annotation-clause-tells : goal.returns-in_err-annotation-clause-tells
returns-in_err-annotation-clause-tells c =
    let src = feed_source c.args.self.now.feed in
    let told = c.in_err-annotation.ensures in
    let p = err_from_is_err_and c.from_residual.result c.from_residual.ensures.1 in
    subst (VariableTells src (arena_nodes c.annotation.new.self.arena) c.args.name c.args.depth.levels (coming c.args.self.now.feed) (coming c.annotation.new.self.feed)) (sym (p.1 ∙ ap Err p.2))
    (λ x. told.tells (var_slot (named src c.args.name) c.args.depth.levels x))

pub returns-in_err-take_mark-clause-tells : goal.returns-in_err-take_mark-clause-tells
returns-in_err-take_mark-clause-tells c =
    let src = feed_source c.args.self.now.feed in
    let n = named src c.args.name in
    let ns = arena_nodes c.annotation.new.self.arena in
    let a = (phrase src ns c.in_ok-annotation.annotation).ann in
    let typed = c.in_ok-annotation.ensures in
    let bad = c.in_err-take_mark.ensures in
    let p = err_from_is_err_and c.from_residual-in_err-take_mark.result c.from_residual-in_err-take_mark.ensures.1 in
    subst (VariableTells src ns c.args.name c.args.depth.levels (coming c.args.self.now.feed) (coming c.take_mark.new.self)) (sym (p.1 ∙ ap Err p.2))
    (λ x.
    ap judged (typed.tells.1 (var_slot n c.args.depth.levels x))
    ∙ unassigned n a x.outer (coming c.annotation.new.self.feed) c.in_err-take_mark.field-0.0 bad.told.0)

pub returns-in_err-value-clause-tells : goal.returns-in_err-value-clause-tells
returns-in_err-value-clause-tells c =
    let src = feed_source c.args.self.now.feed in
    let n = named src c.args.name in
    let ns = arena_nodes c.annotation.new.self.arena in
    let a = (phrase src ns c.in_ok-annotation.annotation).ann in
    let typed = c.in_ok-annotation.ensures in
    let eq = c.in_ok-take_mark.ensures in
    let bad = c.in_err-value.ensures in
    let g = c.annotation.new.self.feed in
    let h = c.take_mark.new.self in
    let p = err_from_is_err_and c.from_residual-in_err-value.result c.from_residual-in_err-value.ensures.1 in
    subst (VariableTells src ns c.args.name c.args.depth.levels (coming c.args.self.now.feed) (coming c.take_literal.new.self)) (sym (p.1 ∙ ap Err p.2))
    (λ x.
    ap judged (typed.tells.1 (var_slot n c.args.depth.levels x) ∙ assigned n a x.outer eq.told.0 (coming g) (coming h) eq.told.1)
    ∙ unvalued n a x.outer (coming h) c.in_err-value.field-0.0 bad.told.0)

pub returns-in_err-take_mark-2-clause-tells : goal.returns-in_err-take_mark-2-clause-tells
returns-in_err-take_mark-2-clause-tells c =
    let src = feed_source c.args.self.now.feed in
    let n = named src c.args.name in
    let ns = arena_nodes c.annotation.new.self.arena in
    let a = (phrase src ns c.in_ok-annotation.annotation).ann in
    let v = c.in_ok-value.value in
    let typed = c.in_ok-annotation.ensures in
    let eq = c.in_ok-take_mark.ensures in
    let lit = c.in_ok-value.ensures in
    let bad = c.in_err-take_mark-2.ensures in
    let g = c.annotation.new.self.feed in
    let h = c.take_mark.new.self in
    let k = c.take_literal.new.self in
    let same : feed_source h ≡ src = eq.source ∙ typed.kept.source in
    let p = err_from_is_err_and c.from_residual-in_err-take_mark-2.result c.from_residual-in_err-take_mark-2.ensures.1 in
    subst (VariableTells src ns c.args.name c.args.depth.levels (coming c.args.self.now.feed) (coming c.take_mark-2.new.self)) (sym (p.1 ∙ ap Err p.2))
    (λ x.
    ap judged (typed.tells.1 (var_slot n c.args.depth.levels x) ∙ assigned n a x.outer eq.told.0 (coming g) (coming h) eq.told.1
    ∙ valued n a x.outer (literal_of src v.literal) v.place (coming h) (coming k) (subst (λ s. LiteralTold s (coming h) (coming k) (Ok v)) same lit.told))
    ∙ no_line_end (awaits (join (tree.a_var n a v.place (literal_of src v.literal)) x.outer)) (coming k) c.in_err-take_mark-2.field-0.0 bad.told.0)

pub returns-clause-tells : goal.returns-clause-tells
returns-clause-tells c =
    let src = feed_source c.args.self.now.feed in
    let n = named src c.args.name in
    let ns = arena_nodes c.annotation.new.self.arena in
    let a = (phrase src ns c.in_ok-annotation.annotation).ann in
    let v = c.in_ok-value.value in
    let typed = c.in_ok-annotation.ensures in
    let eq = c.in_ok-take_mark.ensures in
    let lit = c.in_ok-value.ensures in
    let end = c.in_ok-take_mark-2.ensures in
    let g = c.annotation.new.self.feed in
    let h = c.take_mark.new.self in
    let k = c.take_literal.new.self in
    let m = c.take_mark-2.new.self in
    let st = c.store.ensures in
    let made = stored src ns (arena_nodes c.store.new.arena) _ c.store.result st.index st.nodes in
    let same : feed_source h ≡ src = eq.source ∙ typed.kept.source in (
      made.here,
      (λ x.
          typed.tells.1 (var_slot n c.args.depth.levels x) ∙ assigned n a x.outer eq.told.0 (coming g) (coming h) eq.told.1
          ∙ valued n a x.outer (literal_of src v.literal) v.place (coming h) (coming k) (subst (λ s. LiteralTold s (coming h) (coming k) (Ok v)) same lit.told)
          ∙ line_ends (awaits (join (tree.a_var n a v.place (literal_of src v.literal)) x.outer)) end.told.0 (coming k) (coming m) end.told.1
          ∙ ap (λ (q : Phrase). limited 64 (coming m) (awaits (join q.decl x.outer))) (sym made.stands)),
    )
