-- The laws of tokens.
use Rattle.std.specs.Prelude.{◌≡◌, ℕ, ◌≤◌, true, List, [], length}
use Rattle.lexis.specs.Balance.{Balanced}
use Rattle.lexis.specs.Levels.{Leveled}
use Rattle.lexis.specs.Lines.{tokens}
use Rattle.lexis.specs.Reading.{Reads, Ascends}
use Rattle.lexis.specs.Texts.{is_text, string_value}
use Rattle.lexis.specs.Tokens.{Tok}

pub record Lawful (s : List ℕ) : Type 0 where
  -- the bytes of each token stand at its place, it is the longest there, and between two tokens there are only blanks, comments and line ends
  pub reads : Reads s true 0 (tokens s)
  -- places never descend, and ascend strictly past tokens that have bytes
  pub ascends : Ascends 0 (tokens s)
  -- each DEDENT closes the level of an INDENT, END closes the list once all are closed, and a fault is last
  pub balanced : Balanced 0 (tokens s)
  -- the columns of lines: open levels strictly increase from the outside in, and a fault of indentation lies at a line at no open level
  pub leveled : Leveled s true [] (tokens s)

-- the value of what may stand between quotes has at most 255 bytes
abbrev pub ValuesShort : Type 0
ValuesShort = (w : List ℕ) → is_text w ≡ true → length (string_value w) ≤ 255

abbrev pub TokensStand : Type 0
TokensStand = (s : List ℕ) → Lawful s

-- the laws of bytes and columns leave no other tokens
abbrev pub TokensOnly : Type 0
TokensOnly = (s : List ℕ) (ts : List (ℕ × Tok)) → Reads s true 0 ts → Leveled s true [] ts → ts ≡ tokens s
