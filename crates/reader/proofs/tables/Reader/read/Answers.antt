use Rattle.std.proofs.Common.{sym, ◌∙◌}
use Rattle.arena.specs.Tables.{arena_nodes}
use Rattle.reader.proofs.Sources.{answer_holds, refusal_same}
use Rattle.reader.proofs.tables.Reader.read.Goals as goal

pub returns-then-is_err-clause-holds : goal.returns-then-is_err-clause-holds
returns-then-is_err-clause-holds c =
    let s = c.args.source.now in
    let r = c.read_short-answer.result in
    let ns = arena_nodes c.clear-then-is_err.new.self in
    let ms = arena_nodes c.read_short-answer.new.arena in
    answer_holds s ns r (refusal_same s ns ms r (sym c.is_err.ensures.value ∙ c.if-is_err.true) ∙ c.read_short-answer.ensures.verdict)

pub returns-else-is_err-clause-holds : goal.returns-else-is_err-clause-holds
returns-else-is_err-clause-holds c = answer_holds c.args.source.now (arena_nodes c.read_short-answer.new.arena) c.read_short-answer.result c.read_short-answer.ensures.verdict
