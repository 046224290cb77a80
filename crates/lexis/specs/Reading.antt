-- How the tokens of a source stand in its bytes.
use Rattle.std.specs.Prelude.{◌≡◌, ℕ, ◌+◌, ◌<◌, ◌≤◌, Bool, true, false, cond, List, [], ◌∷◌, length, take, drop, slice_index}
use Rattle.std.specs.List.{prefix_len}
use Rattle.lexis.specs.Bytes.{class_of}
use Rattle.lexis.specs.Lines.{is_fault}
use Rattle.lexis.specs.Runs.{in_run, starts}
use Rattle.lexis.specs.Tokens.{Tok}
use Rattle.lexis.specs.Written.{Writes, has_bytes, Best}
use Rattle.lexis.specs.declared.bytes.Class.TheVariants.{Blank, LineEnd, Hash}
use Rattle.lexis.specs.declared.scans.Run.{Run}

-- from place p to place q there are only blanks, comments and, if `lines`, line ends; a comment goes on to the end of its line
pub data Gap (s : List ℕ) (lines : Bool) : ℕ → ℕ → Type 0 where
  none : {p : ℕ} → Gap s lines p p
  blank : {p q : ℕ} → class_of (slice_index s p) ≡ Blank → Gap s lines (p + 1) q → Gap s lines p q
  line_end : {p q : ℕ} → lines ≡ true → class_of (slice_index s p) ≡ LineEnd → Gap s lines (p + 1) q → Gap s lines p q
  remark : {p q : ℕ} → class_of (slice_index s p) ≡ Hash → Gap s lines (p + prefix_len (in_run Run.Comment) (drop p s)) q → Gap s lines p q

-- the place of the first of some tokens
abbrev pub first_place : List (ℕ × Tok) → ℕ → ℕ
first_place [] q = q
first_place (x ∷ xs) q = x.0

-- whether the first of some tokens is a fault
abbrev pub fault_next : List (ℕ × Tok) → Bool
fault_next [] = false
fault_next (x ∷ xs) = is_fault x.1

-- Where a token without bytes lies: NEWLINE at a line end or the source's end, INDENT and DEDENT at the token behind them, which is no fault, END at the source's end.
-- A fault lies at a byte that no gap has.
abbrev pub Lies : List ℕ → ℕ → Tok → List (ℕ × Tok) → Type 0
Lies s q (Tok.name w) ts = Unit {0}
Lies s q (Tok.str w) ts = Unit {0}
Lies s q (Tok.int n) ts = Unit {0}
Lies s q (Tok.keyword k) ts = Unit {0}
Lies s q (Tok.symbol o) ts = Unit {0}
Lies s q Tok.newline ts = q < length s → class_of (slice_index s q) ≡ LineEnd
Lies s q Tok.indent ts = (q < length s) × (first_place ts q ≡ q) × (fault_next ts ≡ false)
Lies s q Tok.dedent ts = (first_place ts q ≡ q) × (fault_next ts ≡ false)
Lies s q Tok.done ts = q ≡ length s
Lies s q (Tok.fault f) ts = (q < length s) × (starts (class_of (slice_index s q)) ≡ true)

-- whether a line has yet to begin after a token: past a NEWLINE yes, past a token with bytes no, and past the others as before
abbrev pub begins_line : Tok → Bool → Bool
begins_line (Tok.name w) first = false
begins_line (Tok.str w) first = false
begins_line (Tok.int n) first = false
begins_line (Tok.keyword k) first = false
begins_line (Tok.symbol o) first = false
begins_line Tok.newline first = true
begins_line Tok.indent first = first
begins_line Tok.dedent first = first
begins_line Tok.done first = first
begins_line (Tok.fault f) first = first

-- Past place p the next token is t, at q, and then come ts; `first` says that no token came on the line yet, so that empty lines may be passed.
-- `later` tells of what comes past the token's last byte.
pub record Follows (s : List ℕ) (first : Bool) (p q : ℕ) (t : Tok) (ts : List (ℕ × Tok)) (later : ℕ → Type 0) : Type 0 where
  -- how many bytes the token has
  pub size : ℕ
  pub gap : Gap s first p q
  pub past : p ≤ q
  pub writes : Writes t (take size (drop q s))
  pub best : Best t size (drop q s)
  pub lies : Lies s q t ts
  pub solid : has_bytes t ≡ true → 1 ≤ size
  pub within : q + size ≤ length s
  pub then : later (q + size)

-- past place p these tokens come, one after the other
abbrev pub Reads : List ℕ → Bool → ℕ → List (ℕ × Tok) → Type 0
Reads s first p [] = Unit {0}
Reads s first p (x ∷ xs) = Follows s first p x.0 x.1 xs (λ q. Reads s (begins_line x.1 first) q xs)

-- no token lies before place p; places never descend, and ascend past a token that has bytes
abbrev pub Ascends : ℕ → List (ℕ × Tok) → Type 0
Ascends p [] = Unit {0}
Ascends p (x ∷ xs) = (p ≤ x.0) × Ascends (x.0 + cond (has_bytes x.1) 1 0) xs
