-- The numbers of the reasons for which a source is no routine.
use Rattle.std.specs.Prelude.{ℕ}
use Rattle.lexis.specs.Faults.{fault_number}
use Rattle.reader.specs.declared.reasons.Reason.{Reason}

abbrev pub reason_number : Reason → ℕ
reason_number Reason.TooLong = 1
reason_number (Reason.Lexical f) = fault_number f
reason_number Reason.Misplaced = 6
reason_number Reason.TooDeep = 7
reason_number Reason.Nested = 8
