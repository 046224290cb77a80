-- What stands between tokens.
use Rattle.std.specs.Prelude.{◌≡◌, ℕ, ◌*◌, ◌<◌, ◌≤◌, Bool, true, false, ◌||◌, List, length, drop, slice_index, Option, MatchOption}
use Rattle.lexis.specs.Bytes.{class_of}
use Rattle.lexis.specs.declared.bytes.Class.{Class}
use Rattle.lexis.specs.declared.bytes.Class.TheVariants.{Blank, LineEnd, Hash, Letter, Digit, Quote, Mark, Other}
use Rattle.lexis.specs.Lines.{lex}
use Rattle.lexis.specs.Tokens.{Tok}
use Rattle.lexis.specs.Runs.{ends_line}
use Rattle.lexis.specs.declared.lines.Mode.{Mode}
use Rattle.lexis.specs.declared.lines.Spot.{Spot}

-- the tokens from a spot of the source on, with some levels open
abbrev pub ahead : List ℕ → List ℕ → Spot → List (ℕ × Tok)
ahead s ls x = lex x.mode ls 0 x.pos (drop x.pos s)

abbrev pub is_space : Class → Bool
is_space Blank = true
is_space LineEnd = false
is_space Hash = true
is_space Letter = false
is_space Digit = false
is_space Quote = false
is_space Mark = false
is_space Other = false

-- a byte of this class gives no token
abbrev pub is_gap : Mode → Class → Bool
is_gap (Mode.Fresh c) k = is_space k || ends_line k
is_gap Mode.Inside k = is_space k
is_gap Mode.Over k = false

-- the column that a line's start has come to
abbrev pub width : Mode → ℕ
width (Mode.Fresh c) = c
width Mode.Inside = 0
width Mode.Over = 0

-- a byte widens a line's start by at most eight columns
abbrev pub Narrow : Spot → Type 0
Narrow x = width x.mode ≤ 8 * x.pos

-- the same tokens are ahead of both spots, whatever levels are open
abbrev pub Leads : List ℕ → Spot → Spot → Type 0
Leads s x y = (ls : List ℕ) → ahead s ls x ≡ ahead s ls y

-- at the end, or at a token
abbrev pub Stops : List ℕ → Spot → Type 0
Stops s x = x.pos < length s → is_gap x.mode (class_of (slice_index s x.pos)) ≡ false

pub record Passes (s : List ℕ) (x y : Spot) : Type 0 where
  pub leads : Leads s x y
  pub narrow : Narrow y
  pub on : x.pos < y.pos
  pub within : y.pos ≤ length s

-- one step over what gives no token, or none where that stops
abbrev pub Passed : List ℕ → Spot → Option Spot → Type 0
Passed s x r = MatchOption r (Stops s x) (λ y. Passes s x y)
