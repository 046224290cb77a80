-- The tokens of a source, with their places: an automaton over its bytes, which may look ahead.
use Rattle.std.specs.Prelude.{ℕ, zero, suc, ◌+◌, ◌-◌, ◌%◌, Bool, true, false, cond, ◌||◌, List, [], ◌∷◌, ◌++◌, ◌==◌, nat_lt, slice_index}
use Rattle.std.specs.List.{prefix_len}
use Rattle.lexis.specs.Bytes.{class_of, among}
use Rattle.lexis.specs.declared.bytes.Class.{Class}
use Rattle.lexis.specs.declared.bytes.Class.TheVariants.{Blank, LineEnd, Hash, Letter, Digit, Quote, Mark, Other}
use Rattle.lexis.specs.Tokens.{Tok}
use Rattle.lexis.specs.Runs.{in_run}
use Rattle.lexis.specs.Scans.{scan_of}
use Rattle.lexis.specs.declared.scans.Run.{Run}
use Rattle.lexis.specs.declared.lines.Level.{Level}
use Rattle.lexis.specs.declared.lines.Mode.{Mode}
use Rattle.lexis.specs.declared.faults.Fault.{Fault}

-- what one byte, with those after it, leads to: tokens, a mode, the open levels (the innermost first), and bytes to pass over
pub record Move : Type 0 where
  pub out : List (ℕ × Tok)
  pub mode : Mode
  pub levels : List ℕ
  pub skip : ℕ

abbrev pub quiet : Mode → List ℕ → ℕ → Move
quiet m ls k = record { out = []; mode = m; levels = ls; skip = k }

abbrev pub gives : ℕ → Tok → Mode → List ℕ → ℕ → Move
gives p t m ls k = record { out = (p, t) ∷ []; mode = m; levels = ls; skip = k }

abbrev pub before : ℕ → Tok → Move → Move
before p t m = record { out = (p, t) ∷ m.out; mode = m.mode; levels = m.levels; skip = m.skip }

abbrev pub is_fault : Tok → Bool
is_fault (Tok.name w) = false
is_fault (Tok.str w) = false
is_fault (Tok.int n) = false
is_fault (Tok.keyword k) = false
is_fault (Tok.symbol o) = false
is_fault Tok.newline = false
is_fault Tok.indent = false
is_fault Tok.dedent = false
is_fault Tok.done = false
is_fault (Tok.fault f) = true

-- nothing comes after a fault
abbrev pub after : Tok → Mode
after t = cond (is_fault t) Mode.Over Mode.Inside

-- a token and its size, in a line
abbrev pub in_line : ℕ → List ℕ → Tok × ℕ → Move
in_line p ls s = gives p s.0 (after s.0) ls (s.1 - 1)

abbrev pub halt : ℕ → Fault → List ℕ → Move
halt p f ls = gives p (Tok.fault f) Mode.Over ls 0

abbrev pub is_open : ℕ → List ℕ → Bool
is_open c ls = c == 0 || among ls c

abbrev pub top_level : List ℕ → ℕ
top_level [] = 0
top_level (l ∷ ls) = l

-- how a line at column c stands to the open levels
abbrev pub level_of : ℕ → List ℕ → Level
level_of c ls =
    cond (nat_lt (top_level ls) c) Level.Deeper
    (cond (top_level ls == c) Level.Same
    (cond (is_open c ls) Level.Shallower Level.Nowhere))

-- what a line's first token leads to, where `later` is the same with the innermost level closed
abbrev pub choose : Level → ℕ → ℕ → Tok × ℕ → List ℕ → Move → Move
choose Level.Same p c s ls later = in_line p ls s
choose Level.Deeper p c s ls later = before p Tok.indent (in_line p (c ∷ ls) s)
choose Level.Shallower p c s ls later = before p Tok.dedent later
choose Level.Nowhere p c s ls later = halt p Fault.Indentation ls

abbrev pub settle : ℕ → ℕ → Tok × ℕ → List ℕ → Move
settle p c s [] = choose (level_of c []) p c s [] (in_line p [] s)
settle p c s (l ∷ ls) = choose (level_of c (l ∷ ls)) p c s (l ∷ ls) (settle p c s ls)

-- a fault of the token comes before one of the indentation
abbrev pub begun : ℕ → ℕ → List ℕ → Tok × ℕ → Move
begun p c ls s = cond (is_fault s.0) (in_line p ls s) (settle p c s ls)

-- a tab goes to the next multiple of eight
abbrev pub widened : ℕ → ℕ → ℕ
widened b c = cond (b == 9) (c - c % 8 + 8) (c + 1)

-- the rest of the line, from a hash on
abbrev pub comment : List ℕ → ℕ
comment r = prefix_len (in_run Run.Comment) r - 1

abbrev pub fresh_by : Class → ℕ → ℕ → List ℕ → List ℕ → Move
fresh_by Blank p c ls r = quiet (Mode.Fresh (widened (slice_index r 0) c)) ls 0
fresh_by LineEnd p c ls r = quiet (Mode.Fresh 0) ls 0
fresh_by Hash p c ls r = quiet (Mode.Fresh c) ls (comment r)
fresh_by Letter p c ls r = begun p c ls (scan_of r)
fresh_by Digit p c ls r = begun p c ls (scan_of r)
fresh_by Quote p c ls r = begun p c ls (scan_of r)
fresh_by Mark p c ls r = begun p c ls (scan_of r)
fresh_by Other p c ls r = begun p c ls (scan_of r)

abbrev pub inside_by : Class → ℕ → List ℕ → List ℕ → Move
inside_by Blank p ls r = quiet Mode.Inside ls 0
inside_by LineEnd p ls r = gives p Tok.newline (Mode.Fresh 0) ls 0
inside_by Hash p ls r = quiet Mode.Inside ls (comment r)
inside_by Letter p ls r = in_line p ls (scan_of r)
inside_by Digit p ls r = in_line p ls (scan_of r)
inside_by Quote p ls r = in_line p ls (scan_of r)
inside_by Mark p ls r = in_line p ls (scan_of r)
inside_by Other p ls r = in_line p ls (scan_of r)

abbrev pub move : Mode → List ℕ → ℕ → List ℕ → Move
move (Mode.Fresh c) ls p r = fresh_by (class_of (slice_index r 0)) p c ls r
move Mode.Inside ls p r = inside_by (class_of (slice_index r 0)) p ls r
move Mode.Over ls p r = quiet Mode.Over ls 0

-- at the end of the source
abbrev pub closing : ℕ → List ℕ → List (ℕ × Tok)
closing p [] = (p, Tok.done) ∷ []
closing p (l ∷ ls) = (p, Tok.dedent) ∷ closing p ls

abbrev pub ending : Mode → ℕ → List ℕ → List (ℕ × Tok)
ending (Mode.Fresh c) p ls = closing p ls
ending Mode.Inside p ls = (p, Tok.newline) ∷ closing p ls
ending Mode.Over p ls = []

-- the tokens from place p on, after k more bytes
unfoldable pub lex : Mode → List ℕ → ℕ → ℕ → List ℕ → List (ℕ × Tok)
lex m ls k p [] = ending m p ls
lex m ls (suc k) p (b ∷ bs) = lex m ls k (p + 1) bs
lex m ls zero p (b ∷ bs) =
    let v = move m ls p (b ∷ bs) in
    v.out ++ lex v.mode v.levels v.skip (p + 1) bs

-- each with its place; after END or a fault nothing comes
abbrev pub tokens : List ℕ → List (ℕ × Tok)
tokens s = lex (Mode.Fresh 0) [] 0 0 s
