-- The tokens that a feed has yet to give, as the grammar takes them.
use Rattle.std.specs.Prelude.{◌≡◌, ℕ, List, [], ◌∷◌, map, drop, Some, None, Option}
use Rattle.grammar.specs.Tree.{Token}
use Rattle.lexer.specs.Left.{bytes_of, left}
use Rattle.lexis.specs.Tokens.{Tok}
use Rattle.syntax.specs.Reading.{token_of}
use Rattle.reader.specs.Kinds.{next_token}
use Rattle.reader.specs.declared.feeds.Feed.{Feed}
use Rattle.reader.specs.declared.kinds.Next.{Next}

abbrev pub feed_of : List (ℕ × Tok) → List Token
feed_of ts = map token_of ts

-- the next token, and those after it; nothing comes after none
abbrev pub with_next : List ℕ → Option Next → List Token → List Token
with_next src None ts = []
with_next src (Some t) ts = next_token src t ∷ ts

-- the source whose tokens they are
abbrev pub feed_source : Feed → List ℕ
feed_source f = bytes_of f.lexer

abbrev pub coming : Feed → List Token
coming f = with_next (feed_source f) f.next (feed_of (left f.lexer))

-- what is told of the first of some tokens
abbrev pub NextTold : List ℕ → List Token → Option Next → Type 0
NextTold src ts None = ts ≡ []
NextTold src ts (Some t) = ts ≡ next_token src t ∷ drop 1 ts
