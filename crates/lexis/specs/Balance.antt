-- How INDENT, DEDENT, END and a fault stand in a list of tokens.
use Rattle.std.specs.Prelude.{◌≡◌, ℕ, ◌+◌, ◌-◌, ◌≤◌, List, [], ◌∷◌}
use Rattle.lexis.specs.Tokens.{Tok}

-- a token, with n levels open before it; `later` tells of what comes after, by the levels open then
abbrev pub Opens : Tok → ℕ → List (ℕ × Tok) → (ℕ → Type 0) → Type 0
Opens (Tok.name w) n ts later = later n
Opens (Tok.str w) n ts later = later n
Opens (Tok.int v) n ts later = later n
Opens (Tok.keyword k) n ts later = later n
Opens (Tok.symbol o) n ts later = later n
Opens Tok.newline n ts later = later n
Opens Tok.indent n ts later = later (n + 1)
Opens Tok.dedent n ts later = (1 ≤ n) × later (n - 1)
Opens Tok.done n ts later = (n ≡ 0) × (ts ≡ [])
Opens (Tok.fault f) n ts later = ts ≡ []

-- Each DEDENT closes a level that an INDENT opened. END comes once all are closed. The last token is END or a fault, and none of these comes before it.
abbrev pub Balanced : ℕ → List (ℕ × Tok) → Type 0
Balanced n [] = ⊥
Balanced n (x ∷ xs) = Opens x.1 n xs (λ k. Balanced k xs)
