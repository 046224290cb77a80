use Rattle.std.proofs.Common.{◌≡◌, ℕ, List, [], ◌∷◌, sym, refl, ap, ◌∙◌, arith}
use Rattle.arena.specs.Tables.{arena_nodes}
use Rattle.arena.specs.Trees.{Phrase, named, phrase}
use Rattle.arena.specs.declared.nodes.Node.{Node}
use Rattle.grammar.specs.Tree as tree
use Rattle.grammar.specs.Tree.{Ann, Id, Params, Token}
use Rattle.grammar.specs.Reader.{for_param, naming, of_param, typed}
use Rattle.grammar.specs.Limits.{limited}
use Rattle.reader.specs.Feeds.{coming, feed_source}
use Rattle.reader.specs.Functions.{past_param}
use Rattle.reader.specs.Parameters.{Header}
use Rattle.reader.proofs.Leading.{Along, told_stored}
use Rattle.reader.proofs.Steps.{kept_phrase}
use Rattle.reader.proofs.parsers.Parser.more_parameters.Goals as goal

-- a parameter's type is complete: the list goes on past the parameter
sheds : {d : ℕ} (ts : List Token) (ps : Params) (m : Id) (a : Ann) (x : Header d) → limited 64 ts (typed a (of_param x.place x.name ps m x.outer)) ≡ past_param ts (tree.param ps m a) x
sheds [] ps m a x = refl
sheds (t ∷ ts) ps m a x = refl

pub returns : goal.returns
returns c =
    let f = c.args.self.now.feed in
    let g = c.one_parameter.new.self.feed in
    let n = c.args.self.now.arena in
    let m = c.one_parameter.new.self.arena in
    let src = feed_source f in
    let list = c.args.list in
    let one = c.in_ok-name.field-0 in
    let ok = c.in_ok-name.ensures in
    let ps = (phrase src (arena_nodes n) list).params in
    let a = (phrase src (arena_nodes m) one.annotation).ann in
    let read : Along (λ (x : Header c.args.depth.levels). limited 64 (coming f) (naming (for_param x.place x.name ps x.outer))) (past_param (coming g) (tree.param ps (named src one.name) a)) f n g m = record {
      kept = ok.kept;
      goes = λ x. ok.tells.1 x ps ∙ sheds (coming g) ps (named src one.name) a x;
    } in
    told_stored (Node.MoreParameters list one.name one.annotation) read
    c.store.ensures.index c.store.ensures.nodes c.store.ensures.limit (omega (arith, ok.spare))
    (λ new x.
    ap (λ (q : Phrase). past_param (coming g) (tree.param q.params (named src one.name) a) x) (sym (kept_phrase src list ok.kept c.requires.stored))
    ∙ ap (λ (q : Phrase). past_param (coming g) q.params x) (sym new))
