use Rattle.std.proofs.Common.{◌≡◌, ◌+◌, length, drop}
use Rattle.lexis.specs.declared.scans.Quoted.{Quoted}
use Rattle.lexis.specs.Texts.{text_end}
use Rattle.lexer.proofs.text.text_end.Given as goal

abbrev pub invariant-loop-i : goal.invariant-loop-i
invariant-loop-i l = text_end l.state (1 + length l.yielded) (drop (1 + length l.yielded) l.rest) ≡ text_end (Quoted.Plain 0) 1 (drop 1 l.rest)
