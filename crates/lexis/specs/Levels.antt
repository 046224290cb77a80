-- How the lines of a source stand to its levels of indentation.
use Rattle.std.specs.Prelude.{◌≡◌, ℕ, ◌<◌, Bool, true, false, cond, List, [], ◌∷◌, length, take, fold}
use Rattle.lexis.specs.Bytes.{class_of}
use Rattle.lexis.specs.Lines.{is_open, top_level, widened}
use Rattle.lexis.specs.Runs.{ends_line}
use Rattle.lexis.specs.Tokens.{Tok}
use Rattle.lexis.specs.declared.faults.Fault.{Fault}

-- the column past a byte
abbrev pub advanced : ℕ → ℕ → ℕ
advanced c b = cond (ends_line (class_of b)) 0 (widened b c)

-- how wide the text before place q is in its line
abbrev pub column : List ℕ → ℕ → ℕ
column s q = fold advanced 0 (take q s)

-- at a fault of indentation the line is at no open level
abbrev pub Misfits : List ℕ → Bool → List ℕ → ℕ → Fault → Type 0
Misfits s first ls q Fault.Byte = Unit {0}
Misfits s first ls q Fault.Number = Unit {0}
Misfits s first ls q Fault.Text = Unit {0}
Misfits s first ls q Fault.Indentation = (first ≡ true) × (column s q < top_level ls) × (is_open (column s q) ls ≡ false)

-- A token at place q, with the levels ls open, the innermost first; `first` says that no token came on its line yet. `later` tells of what comes after.
-- An INDENT opens a level wider than all open ones, a DEDENT closes the innermost, for a line at another open level or at the source's end, and a line's first token stands at the innermost.
abbrev pub Settles : List ℕ → Bool → List ℕ → ℕ → Tok → List (ℕ × Tok) → (Bool → List ℕ → Type 0) → Type 0
Settles s first ls q (Tok.name w) ts later = (first ≡ true → column s q ≡ top_level ls) × later false ls
Settles s first ls q (Tok.str w) ts later = (first ≡ true → column s q ≡ top_level ls) × later false ls
Settles s first ls q (Tok.int n) ts later = (first ≡ true → column s q ≡ top_level ls) × later false ls
Settles s first ls q (Tok.keyword k) ts later = (first ≡ true → column s q ≡ top_level ls) × later false ls
Settles s first ls q (Tok.symbol o) ts later = (first ≡ true → column s q ≡ top_level ls) × later false ls
Settles s first ls q Tok.newline ts later = (first ≡ false) × later true ls
Settles s first ls q Tok.indent ts later = (first ≡ true) × (top_level ls < column s q) × later true (column s q ∷ ls)
Settles s first ls q Tok.dedent ts later = (first ≡ true) × ((l : ℕ) × (rest : List ℕ) × (ls ≡ l ∷ rest) × (q < length s → (column s q < l) × (is_open (column s q) rest ≡ true)) × later true rest)
Settles s first ls q Tok.done ts later = (first ≡ true) × (q ≡ length s) × (ls ≡ []) × (ts ≡ [])
Settles s first ls q (Tok.fault f) ts later = Misfits s first ls q f × (ts ≡ [])

-- the same of some tokens, one after the other; the last is END or a fault
abbrev pub Leveled : List ℕ → Bool → List ℕ → List (ℕ × Tok) → Type 0
Leveled s first ls [] = ⊥
Leveled s first ls (x ∷ xs) = Settles s first ls x.0 x.1 xs (λ b k. Leveled s b k xs)
