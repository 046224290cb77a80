-- Tokens, as the rules see them: a name is its bytes, a string the bytes between its quotes as they are written.
use Rattle.std.specs.Prelude.{ℕ, List}
use Rattle.lexis.specs.declared.tokens.Keyword.{Keyword}
use Rattle.lexis.specs.declared.tokens.Symbol.{Symbol}
use Rattle.lexis.specs.declared.faults.Fault.{Fault}
use Rattle.lexis.specs.declared.tokens.Token.{Token}
use Rattle.lexis.specs.declared.tokens.Placed.{Placed}
use Rattle.lexis.specs.declared.scans.Sized.{Sized}

pub data Tok : Type 0 where
  name : List ℕ → Tok
  str : List ℕ → Tok
  int : ℕ → Tok
  keyword : Keyword → Tok
  symbol : Symbol → Tok
  newline indent dedent done : Tok
  fault : Fault → Tok

abbrev pub model : Token → Tok
model (Token.Name w) = Tok.name w.now
model (Token.Str w) = Tok.str w.now
model (Token.Int n) = Tok.int n
model (Token.Keyword k) = Tok.keyword k
model (Token.Symbol o) = Tok.symbol o
model Token.Newline = Tok.newline
model Token.Indent = Tok.indent
model Token.Dedent = Tok.dedent
model Token.End = Tok.done
model (Token.Fault f) = Tok.fault f

-- a token with its place
abbrev pub placed : Placed → ℕ × Tok
placed t = (t.at, model t.token)

-- a token with the number of its bytes
abbrev pub sized : Sized → Tok × ℕ
sized t = (model t.token, t.size)
