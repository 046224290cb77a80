-- From the tokens of a source to the verdict on it.
use Rattle.std.proofs.Common.{◌≡◌, ℕ, ◌≤◌, true, false, cond, ltb, List, length, is_err, Ok, Err, Result, sym, refl, ap, ◌∙◌, arith}
use Rattle.std.proofs.lemmas.List.{length-map}
use Rattle.arena.specs.declared.nodes.Node.{Node}
use Rattle.grammar.specs.Tree.{Token}
use Rattle.grammar.specs.Verdict.{incomplete, reads, refused}
use Rattle.lexis.proofs.Counting.{few}
use Rattle.lexis.specs.Lines.{tokens}
use Rattle.syntax.proofs.Exactly.{reads_exactly}
use Rattle.syntax.specs.Reading.{reading, source_tokens, token_of}
use Rattle.reader.specs.Answers.{AnswerHolds, answer_verdict}
use Rattle.reader.specs.declared.answers.Refusal.{Refusal}
use Rattle.reader.specs.declared.answers.Routine.{Routine}

-- a source that is not too long is judged by its tokens
pub short_reads : (s : List ℕ) → length s ≤ 4096 → reading s ≡ reads (source_tokens s)
short_reads s l = let e : ltb 4096 (length s) ≡ false = grind arith in ap (λ b. cond b (refused 1 0) (reads (source_tokens s))) e

-- its tokens are few enough for the table
pub tokens_fit : (s : List ℕ) (ts : List Token) → length s ≤ 4096 → ts ≡ source_tokens s → length ts ≤ 12290
tokens_fit s ts l e = let a = ap length e ∙ length-map (tokens s) token_of in let b = few s in omega (arith, a, b, l)

-- so are they judged
pub judged_so : (s : List ℕ) (ts : List Token) → length s ≤ 4096 → ts ≡ source_tokens s → reads ts ≡ reading s
judged_so s ts l e = ap reads e ∙ sym (short_reads s l)

-- they never end too soon
pub never_short : (s : List ℕ) (ts : List Token) → length s ≤ 4096 → ts ≡ source_tokens s → incomplete ≡ reads ts → ⊥
never_short s ts l e u = reads_exactly.judges s (sym (u ∙ judged_so s ts l e))

-- an answer with the right verdict holds in terms of the grammar
pub answer_holds : (s : List ℕ) (ns : List Node) (r : Result Routine Refusal) → answer_verdict s ns r ≡ reading s → AnswerHolds s ns r
answer_holds s ns (Ok a) e = (reads_exactly.accepts s _ _).0 (sym e)
answer_holds s ns (Err y) e = (reads_exactly.refuses s _ _).0 (sym e)

-- a refusal tells the same, whatever the table holds
pub refusal_same : (s : List ℕ) (ns ms : List Node) (r : Result Routine Refusal) → is_err r ≡ true → answer_verdict s ns r ≡ answer_verdict s ms r
refusal_same s ns ms (Ok a) e = let z : ◌≡◌ {A = ℕ} 0 1 = cc in absurd (omega arith)
refusal_same s ns ms (Err y) e = refl
