-- Where a line of two numbers fits.
use Rattle.std.proofs.Common.{◌≡◌, ℕ, ◌≤◌, ◌++◌, length, Ok, length-append, arith}
use Rattle.numeral.proofs.NumeralFacts.{length_numeral}
use Rattle.number_output.specs.Numbers.{pair_text, paired}
use Rattle.print_buffer.specs.Buffers.{Held, buffer_bytes, buffer_room}

pub length_pair_text : (first second : ℕ) → length (pair_text first second) ≤ 22
length_pair_text first second =
    let a = length_numeral first in
    let b = length_numeral second in
    simp length-append (omega arith)

-- small numbers are appended where there is room for the longest line
pub pair_fits : (b : Held) (first second : ℕ) → first ≤ 2147483648 → second ≤ 2147483648 → 22 ≤ buffer_room b → paired b first second ≡ record { result = Ok tt; bytes = buffer_bytes b ++ pair_text first second }
pair_fits b first second m n room = let l = length_pair_text first second in grind arith
