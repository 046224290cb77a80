-- Names and strings borrow their bytes from the source: a name stands at its token's place, and what is between a
-- string's quotes just after it.
use Rattle.std.specs.Prelude.{◌≡◌, ℕ, ◌+◌, List, length, take, drop}
use Rattle.lexis.specs.Tokens.{Tok}

abbrev pub Stands : List ℕ → ℕ → Tok → Type 0
Stands s p (Tok.name w) = take (length w) (drop p s) ≡ w
Stands s p (Tok.str w) = take (length w) (drop (p + 1) s) ≡ w
Stands s p (Tok.int n) = Unit {0}
Stands s p (Tok.keyword k) = Unit {0}
Stands s p (Tok.symbol k) = Unit {0}
Stands s p Tok.newline = Unit {0}
Stands s p Tok.indent = Unit {0}
Stands s p Tok.dedent = Unit {0}
Stands s p Tok.done = Unit {0}
Stands s p (Tok.fault f) = Unit {0}
