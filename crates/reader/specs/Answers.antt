-- What the answers of reading stand for.
use Rattle.std.specs.Prelude.{◌≡◌, ℕ, List, [], Ok, Err, Result}
use Rattle.arena.specs.declared.nodes.Node.{Node}
use Rattle.arena.specs.Tables.{arena_nodes}
use Rattle.arena.specs.Trees.{phrase}
use Rattle.grammar.specs.Tree.{Decls, Stmts}
use Rattle.grammar.specs.Verdict.{Verdict, accepted}
use Rattle.syntax.specs.Laws.{ReadsAs, RefusedFor}
use Rattle.reader.specs.Reasons.{reason_number}
use Rattle.reader.specs.Stops.{refusal_verdict}
use Rattle.reader.specs.declared.answers.Refusal.{Refusal}
use Rattle.reader.specs.declared.answers.Routine.{Routine}
use Rattle.reader.specs.declared.tables.Reader.{Reader}

-- the nodes of the source that was read last
abbrev pub reader_nodes : Reader → List Node
reader_nodes x = arena_nodes x.arena

abbrev pub routine_decls : List ℕ → List Node → Routine → Decls
routine_decls src ns a = (phrase src ns a.declarations).decls

abbrev pub routine_stmts : List ℕ → List Node → Routine → Stmts
routine_stmts src ns a = (phrase src ns a.statements).stmts

-- the verdict that an answer tells: the tree that the nodes stand for, or a number and a place
abbrev pub answer_verdict : List ℕ → List Node → Result Routine Refusal → Verdict
answer_verdict src ns (Ok a) = accepted (routine_decls src ns a) (routine_stmts src ns a)
answer_verdict src ns (Err e) = refusal_verdict e

-- in terms of the grammar alone
abbrev pub AnswerHolds : List ℕ → List Node → Result Routine Refusal → Type 0
AnswerHolds src ns (Ok a) = ReadsAs src (routine_decls src ns a) (routine_stmts src ns a)
AnswerHolds src ns (Err e) = RefusedFor src (reason_number e.reason) e.place

-- a refusal leaves no node
abbrev pub NothingLeft : List Node → Result Routine Refusal → Type 0
NothingLeft ns (Ok a) = Unit {0}
NothingLeft ns (Err e) = ns ≡ []
