-- Which bytes are which token, and which of the tokens that could stand at a place does.
use Rattle.std.specs.Prelude.{◌≡◌, ℕ, ◌<◌, ◌≤◌, Bool, true, false, ◌&&◌, List, [], ◌∷◌, ◌++◌, length, take, Some, None, slice_index}
use Rattle.std.specs.List.{prefix_len}
use Rattle.lexis.specs.Bytes.{class_of}
use Rattle.lexis.specs.Numbers.{number_of}
use Rattle.lexis.specs.Runs.{in_run}
use Rattle.lexis.specs.Texts.{is_text}
use Rattle.lexis.specs.Tokens.{Tok}
use Rattle.lexis.specs.Words.{keyword_of, spelled, symbol_bytes}
use Rattle.lexis.specs.declared.bytes.Class.{Class}
use Rattle.lexis.specs.declared.bytes.Class.TheVariants.{Blank, LineEnd, Hash, Letter, Digit, Quote, Mark, Other}
use Rattle.lexis.specs.declared.faults.Fault.{Fault}
use Rattle.lexis.specs.declared.scans.Run.{Run}

abbrev pub every : (ℕ → Bool) → List ℕ → Bool
every f [] = true
every f (b ∷ bs) = f b && every f bs

-- the bytes u are the token t; four tokens have no bytes, and of a fault's bytes nothing is said here
abbrev pub Writes : Tok → List ℕ → Type 0
Writes (Tok.name w) u = (u ≡ w) × (class_of (slice_index w 0) ≡ Letter) × (every (in_run Run.Word) w ≡ true) × (keyword_of w ≡ None)
Writes (Tok.str w) u = (u ≡ 34 ∷ (w ++ 34 ∷ [])) × (is_text w ≡ true)
Writes (Tok.int n) u = (every (in_run Run.Digits) u ≡ true) × (number_of u ≡ Some n)
Writes (Tok.keyword k) u = u ≡ spelled k
Writes (Tok.symbol o) u = u ≡ symbol_bytes o
Writes Tok.newline u = u ≡ []
Writes Tok.indent u = u ≡ []
Writes Tok.dedent u = u ≡ []
Writes Tok.done u = u ≡ []
Writes (Tok.fault f) u = Unit {0}

-- the other tokens tell of lines and of the source's end
abbrev pub has_bytes : Tok → Bool
has_bytes (Tok.name w) = true
has_bytes (Tok.str w) = true
has_bytes (Tok.int n) = true
has_bytes (Tok.keyword k) = true
has_bytes (Tok.symbol o) = true
has_bytes Tok.newline = false
has_bytes Tok.indent = false
has_bytes Tok.dedent = false
has_bytes Tok.done = false
has_bytes (Tok.fault f) = false

-- no more than n bytes at the front of r are a token
abbrev pub Longest : ℕ → List ℕ → Type 0
Longest n r = (t : Tok) (m : ℕ) → n < m → m ≤ length r → has_bytes t ≡ true → Writes t (take m r) → ⊥

-- a token of m bytes is the longest at the front of r; and a number has all the digits there
abbrev pub Whole : Tok → ℕ → List ℕ → Type 0
Whole (Tok.name w) m r = Longest m r
Whole (Tok.str w) m r = Longest m r
Whole (Tok.int n) m r = Longest m r × (m ≡ prefix_len (in_run Run.Digits) r)
Whole (Tok.keyword k) m r = Longest m r
Whole (Tok.symbol o) m r = Longest m r
Whole Tok.newline m r = Longest m r
Whole Tok.indent m r = Longest m r
Whole Tok.dedent m r = Longest m r
Whole Tok.done m r = Longest m r
Whole (Tok.fault f) m r = Longest m r

-- a token stands at the front of r
pub record There (r : List ℕ) : Type 0 where
  pub token : Tok
  pub size : ℕ
  pub bytes : has_bytes token ≡ true
  pub some : 1 ≤ size
  pub within : size ≤ length r
  pub writes : Writes token (take size r)
  pub whole : Whole token size r

-- what is wrong where a byte of this class begins no token
abbrev pub fault_class : Class → Fault
fault_class Blank = Fault.Byte
fault_class LineEnd = Fault.Byte
fault_class Hash = Fault.Byte
fault_class Letter = Fault.Byte
fault_class Digit = Fault.Number
fault_class Quote = Fault.Text
fault_class Mark = Fault.Byte
fault_class Other = Fault.Byte

-- why a fault lies at the front of r: no token begins there, or all the digits there are no number; at a fault of indentation a token does stand there
abbrev pub Blames : Fault → List ℕ → Type 0
Blames Fault.Byte r = (fault_class (class_of (slice_index r 0)) ≡ Fault.Byte) × Longest 0 r
Blames Fault.Number r = (fault_class (class_of (slice_index r 0)) ≡ Fault.Number) × (number_of (take (prefix_len (in_run Run.Digits) r) r) ≡ None)
Blames Fault.Text r = (fault_class (class_of (slice_index r 0)) ≡ Fault.Text) × Longest 0 r
Blames Fault.Indentation r = There r

-- why just this stands at the front of r: a token of m bytes because it is the longest, a fault because of its reason
abbrev pub Best : Tok → ℕ → List ℕ → Type 0
Best (Tok.name w) m r = Whole (Tok.name w) m r
Best (Tok.str w) m r = Whole (Tok.str w) m r
Best (Tok.int n) m r = Whole (Tok.int n) m r
Best (Tok.keyword k) m r = Whole (Tok.keyword k) m r
Best (Tok.symbol o) m r = Whole (Tok.symbol o) m r
Best Tok.newline m r = Unit {0}
Best Tok.indent m r = Unit {0}
Best Tok.dedent m r = Unit {0}
Best Tok.done m r = Unit {0}
Best (Tok.fault f) m r = Blames f r
