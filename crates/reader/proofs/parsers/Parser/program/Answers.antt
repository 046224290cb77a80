use Rattle.std.proofs.Common.{◌≡◌, ℕ, List, drop, IsErrAnd, Ok, Err, Result, sym, refl, ap, ◌∙◌}
use Rattle.arena.specs.Tables.{arena_nodes}
use Rattle.arena.specs.Trees.{phrase}
use Rattle.arena.specs.declared.nodes.Node.{Node}
use Rattle.grammar.specs.Reader.{done}
use Rattle.grammar.specs.Limits.{limited}
use Rattle.grammar.specs.Verdict.{Verdict, judged}
use Rattle.reader.specs.Bodies.{OwnerAt, verdict_of}
use Rattle.reader.specs.Feeds.{coming, feed_source}
use Rattle.reader.specs.Kinds.{next_token}
use Rattle.reader.specs.Owners.{IsProgram, program}
use Rattle.reader.specs.Stops.{stop_of}
use Rattle.reader.specs.declared.answers.Routine.{Routine}
use Rattle.reader.specs.declared.refusals.Stop.{Stop}
use Rattle.reader.proofs.Refusing.{refused_here}
use Rattle.reader.proofs.parsers.Parser.program.Goals as goal

abbrev whole : OwnerAt IsProgram 0
whole = record { owner = program; owned = tt; deep = refl }

-- the exit of a `?`
refused_whole : (src : List ℕ) (ns : List Node) (r : Result Routine Stop) (y : Stop) (v : Verdict) → IsErrAnd r (λ z. z ≡ y) → v ≡ stop_of y → verdict_of src ns r ≡ v
refused_whole src ns (Ok a) y v e w = absurd e
refused_whole src ns (Err z) y v e w = ap stop_of e ∙ sym w

pub returns-in_err-whole-clause-verdict : goal.returns-in_err-whole-clause-verdict
returns-in_err-whole-clause-verdict c =
    let bad = c.in_err-whole.ensures in
    refused_whole _ _ c.from_residual.result _ _ c.from_residual.ensures.1 (bad.leads whole)

pub returns-in-None-clause-verdict : goal.returns-in-None-clause-verdict
returns-in-None-clause-verdict c =
    let src = feed_source c.args.self.now.feed in
    let ns = arena_nodes c.whole_body.new.self.arena in
    let body = c.in_ok-whole.whole in
    let told = c.in_ok-whole.ensures in
    let end = done (phrase src ns body.declarations).decls (phrase src ns body.statements).stmts in
    sym (ap judged (told.leads.goes whole ∙ ap (λ ts. limited 64 ts end) c.in-None.ensures))

pub returns-in-Some-clause-verdict : goal.returns-in-Some-clause-verdict
returns-in-Some-clause-verdict c =
    let src = feed_source c.args.self.now.feed in
    let g = c.whole_body.new.self.feed in
    let ns = arena_nodes c.whole_body.new.self.arena in
    let body = c.in_ok-whole.whole in
    let told = c.in_ok-whole.ensures in
    let end = done (phrase src ns body.declarations).decls (phrase src ns body.statements).stmts in
    sym (ap judged (told.leads.goes whole)
    ∙ refused_here (next_token (feed_source g) c.in-Some.next) (drop 1 (coming g)) (coming g) end c.stop_at.result c.in-Some.ensures refl (c.stop_at.ensures (feed_source g)))
