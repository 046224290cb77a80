-- How many tokens a source can have.
use Rattle.std.specs.Prelude.{ℕ, ◌+◌, ◌*◌, ◌≤◌, List, length}
use Rattle.lexis.specs.Lines.{tokens}

-- three for each byte (an INDENT, a token, and the DEDENT that closes the level), a NEWLINE and END
abbrev pub TokensFew : Type 0
TokensFew = (s : List ℕ) → length (tokens s) ≤ 3 * length s + 2
