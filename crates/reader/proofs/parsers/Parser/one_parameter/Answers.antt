use Rattle.std.proofs.Common.{◌≡◌, Ok, Err, sym, ap, ◌∙◌, subst}
use Rattle.std.proofs.lemmas.Result.{err_from_is_err_and}
use Rattle.arena.specs.Tables.{arena_nodes}
use Rattle.arena.specs.Trees.{named, spelled}
use Rattle.grammar.specs.Reader.{of_param, typing}
use Rattle.grammar.specs.Verdict.{judged}
use Rattle.reader.specs.Feeds.{coming, feed_source}
use Rattle.reader.specs.Parameters.{ParameterTells}
use Rattle.reader.specs.Types.{TypeTells}
use Rattle.reader.proofs.ParameterMoves.{colon_comes, param_named, param_slot}
use Rattle.reader.proofs.parsers.Parser.one_parameter.Goals as goal

pub returns-in_err-annotation-clause-tells : goal.returns-in_err-annotation-clause-tells
returns-in_err-annotation-clause-tells c =
    let f = c.args.self.now.feed in
    let g = c.take_name.new.self in
    let h = c.take_mark.new.self in
    let d = c.args.depth.levels in
    let src = feed_source f in
    let name = c.in_ok-name.name in
    let ok = c.in_ok-name.ensures in
    let colon = c.in_ok-take_mark.ensures in
    let bad = c.in_err-annotation.ensures in
    let p = err_from_is_err_and c.from_residual-in_err-annotation.result c.from_residual-in_err-annotation.ensures.1 in
    subst (ParameterTells src (arena_nodes c.annotation.new.self.arena) d (coming f) (coming c.annotation.new.self.feed)) (sym (p.1 ∙ ap Err p.2))
    (λ x ps.
    let s = typing (of_param x.place x.name ps (named src name) x.outer) in
    ap judged (param_named d x ps name.at (spelled src name) (coming f) (coming g) ok.told ∙ colon_comes s colon.told.0 (coming g) (coming h) colon.told.1)
    ∙ bad.tells (param_slot d x ps (named src name)))

pub returns-clause-tells : goal.returns-clause-tells
returns-clause-tells c =
    let f = c.args.self.now.feed in
    let g = c.take_name.new.self in
    let h = c.take_mark.new.self in
    let k = c.annotation.new.self.feed in
    let d = c.args.depth.levels in
    let src = feed_source f in
    let ns = arena_nodes c.annotation.new.self.arena in
    let i = c.in_ok-annotation.annotation in
    let name = c.in_ok-name.name in
    let ok = c.in_ok-name.ensures in
    let colon = c.in_ok-take_mark.ensures in
    let typed = c.in_ok-annotation.ensures in
    let same : feed_source h ≡ src = colon.source ∙ ok.source in
    let told = subst (λ s. TypeTells s ns d (coming h) (coming k) (Ok i)) same typed.tells in (
      told.0,
      (λ x ps.
          let s = typing (of_param x.place x.name ps (named src name) x.outer) in
          param_named d x ps name.at (spelled src name) (coming f) (coming g) ok.told ∙ colon_comes s colon.told.0 (coming g) (coming h) colon.told.1
          ∙ told.1 (param_slot d x ps (named src name))),
    )
