-- The numbers of the faults of reading bytes.
use Rattle.std.specs.Prelude.{ℕ}
use Rattle.lexis.specs.declared.faults.Fault.{Fault}

abbrev pub fault_number : Fault → ℕ
fault_number Fault.Byte = 2
fault_number Fault.Number = 3
fault_number Fault.Text = 4
fault_number Fault.Indentation = 5
