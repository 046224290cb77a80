-- What is left of some tokens where only so many levels can be open: an INDENT past them becomes a fault of indentation, and the last token.
use Rattle.std.specs.Prelude.{◌≡◌, ℕ, ◌+◌, ◌-◌, ◌≤◌, Bool, false, cond, List, [], ◌∷◌, length, ◌==◌}
use Rattle.lexis.specs.Lines.{tokens}
use Rattle.lexis.specs.Tokens.{Tok}
use Rattle.lexis.specs.declared.faults.Fault.{Fault}

-- `free` levels more can be opened
abbrev pub too_deep : Tok → ℕ → Bool
too_deep (Tok.name w) free = false
too_deep (Tok.str w) free = false
too_deep (Tok.int n) free = false
too_deep (Tok.keyword k) free = false
too_deep (Tok.symbol o) free = false
too_deep Tok.newline free = false
too_deep Tok.indent free = free == 0
too_deep Tok.dedent free = false
too_deep Tok.done free = false
too_deep (Tok.fault f) free = false

abbrev pub free_after : Tok → ℕ → ℕ
free_after (Tok.name w) free = free
free_after (Tok.str w) free = free
free_after (Tok.int n) free = free
free_after (Tok.keyword k) free = free
free_after (Tok.symbol o) free = free
free_after Tok.newline free = free
free_after Tok.indent free = free - 1
free_after Tok.dedent free = free + 1
free_after Tok.done free = free
free_after (Tok.fault f) free = free

abbrev pub within : ℕ → List (ℕ × Tok) → List (ℕ × Tok)
within free [] = []
within free (x ∷ xs) = cond (too_deep x.1 free) ((x.0, Tok.fault Fault.Indentation) ∷ []) (x ∷ within (free_after x.1 free) xs)

-- as many levels as the source has bytes are enough
abbrev pub Enough : Type 0
Enough = (s : List ℕ) (n : ℕ) → length s ≤ n → within n (tokens s) ≡ tokens s
