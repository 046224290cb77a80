-- What a print buffer holds, and what appending to it answers and leaves.
use Rattle.std.specs.Prelude.{ℕ, ◌+◌, ◌-◌, cond, List, ◌++◌, length, Ok, Err, Result, nat_lt}
use Rattle.print_buffer.specs.declared.appending.NoRoom.{NoRoom}

-- a buffer as its callers see it
pub record Held : Type 0 where
  pub bytes : List ℕ
  pub limit : ℕ

abbrev pub buffer_bytes : Held → List ℕ
buffer_bytes b = b.bytes

-- how many bytes it takes in all
abbrev pub buffer_limit : Held → ℕ
buffer_limit b = b.limit

-- how many bytes it still takes
abbrev pub buffer_room : Held → ℕ
buffer_room b = buffer_limit b - length (buffer_bytes b)

-- the answer, where want of it is told by an E, and the bytes after
pub record Appended (E : Type 0) : Type 0 where
  pub result : Result (Unit {0}) E
  pub bytes : List ℕ

abbrev pub appended : Held → List ℕ → List ℕ → Appended NoRoom
appended b first second =
    cond (nat_lt (buffer_room b) (length first + length second))
    (record { result = Err (record {}); bytes = buffer_bytes b })
    (record { result = Ok tt; bytes = buffer_bytes b ++ (first ++ second) })
