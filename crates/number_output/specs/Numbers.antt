-- What appending a number, or two in a line, answers and leaves.
use Rattle.std.specs.Prelude.{ℕ, cond, List, [], ◌∷◌, ◌++◌, length, max, Ok, Err, Result, nat_lt}
use Rattle.numeral.specs.Numerals.{numeral}
use Rattle.print_buffer.specs.Buffers.{Appended, Held, buffer_bytes, buffer_room}
use Rattle.number_output.specs.declared.errors.NumberError.{NumberError}
use Rattle.number_output.specs.declared.errors.NumberError.TheVariants.{OverBound, NoRoom}

-- the numeral of a number and one byte more
abbrev pub number_text : ℕ → ℕ → List ℕ
number_text n end = numeral n ++ (end ∷ [])

-- a line of two numbers: a blank after the first, a line feed after the second
abbrev pub pair_text : ℕ → ℕ → List ℕ
pair_text first second = number_text first 32 ++ number_text second 10

-- a text whose largest number is n
abbrev pub told : Held → ℕ → List ℕ → Appended NumberError
told b n text =
    cond (nat_lt 2147483648 n)
    (record { result = Err OverBound; bytes = buffer_bytes b })
    (cond (nat_lt (buffer_room b) (length text))
    (record { result = Err NoRoom; bytes = buffer_bytes b })
    (record { result = Ok tt; bytes = buffer_bytes b ++ text }))

abbrev pub numbered : Held → ℕ → ℕ → Appended NumberError
numbered b n end = told b n (number_text n end)

abbrev pub paired : Held → ℕ → ℕ → Appended NumberError
paired b first second = told b (max first second) (pair_text first second)
