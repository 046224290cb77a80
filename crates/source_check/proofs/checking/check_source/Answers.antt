use Rattle.std.proofs.Common.{sym, arith}
use Rattle.number_output.proofs.PairFacts.{length_pair_text}
use Rattle.syntax.proofs.Exactly.{reads_exactly}
use Rattle.source_check.proofs.checking.check_source.Goals as goal

pub overflow_cast-place : goal.overflow_cast-place
overflow_cast-place c = let l = (reads_exactly.places c.args.input.now _ _ (sym c.in-Err.ensures.verdict)).1 in grind arith

pub unwrap-requires-in-Err : goal.unwrap-requires-in-Err
unwrap-requires-in-Err c =
    let l = (reads_exactly.places c.args.input.now _ _ (sym c.in-Err.ensures.verdict)).1 in
    grind (arith, length_pair_text)
