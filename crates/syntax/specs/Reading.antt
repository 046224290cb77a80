-- The verdict on a source, as far as reading goes.
use Rattle.std.specs.Prelude.{cond, List, map, ℕ, ltb, length}
use Rattle.grammar.specs.Tree as tree
use Rattle.grammar.specs.Tree.{Kind, Token, at, lit, mark, op}
use Rattle.grammar.specs.Verdict.{Verdict, reads, refused}
use Rattle.lexis.specs.Faults.{fault_number}
use Rattle.lexis.specs.Lines.{tokens}
use Rattle.lexis.specs.Texts.{string_value}
use Rattle.lexis.specs.Tokens.{Tok}
use Rattle.lexis.specs.declared.tokens.Keyword.{Keyword}
use Rattle.lexis.specs.declared.tokens.Symbol.{Symbol}

-- what a keyword is to the grammar; those without a use fit nowhere
abbrev pub keyword_kind : Keyword → Kind
keyword_kind Keyword.False = lit tree.lit_false
keyword_kind Keyword.None = lit tree.lit_none
keyword_kind Keyword.True = lit tree.lit_true
keyword_kind Keyword.And = op tree.and
keyword_kind Keyword.As = mark tree.unused
keyword_kind Keyword.Assert = mark tree.unused
keyword_kind Keyword.Async = mark tree.unused
keyword_kind Keyword.Await = mark tree.unused
keyword_kind Keyword.Break = mark tree.unused
keyword_kind Keyword.Class = mark tree.class
keyword_kind Keyword.Continue = mark tree.unused
keyword_kind Keyword.Def = mark tree.def
keyword_kind Keyword.Del = mark tree.unused
keyword_kind Keyword.Elif = mark tree.elif
keyword_kind Keyword.Else = mark tree.else
keyword_kind Keyword.Except = mark tree.unused
keyword_kind Keyword.Finally = mark tree.unused
keyword_kind Keyword.For = mark tree.for
keyword_kind Keyword.From = mark tree.unused
keyword_kind Keyword.Global = mark tree.global
keyword_kind Keyword.If = mark tree.if
keyword_kind Keyword.Import = mark tree.unused
keyword_kind Keyword.In = mark tree.within
keyword_kind Keyword.Is = op tree.is
keyword_kind Keyword.Lambda = mark tree.unused
keyword_kind Keyword.Nonlocal = mark tree.nonlocal
keyword_kind Keyword.Not = tree.not_word
keyword_kind Keyword.Or = op tree.or
keyword_kind Keyword.Pass = mark tree.pass
keyword_kind Keyword.Raise = mark tree.unused
keyword_kind Keyword.Return = mark tree.return
keyword_kind Keyword.Try = mark tree.unused
keyword_kind Keyword.While = mark tree.while
keyword_kind Keyword.With = mark tree.unused
keyword_kind Keyword.Yield = mark tree.unused

abbrev pub symbol_kind : Symbol → Kind
symbol_kind Symbol.Plus = op tree.plus
symbol_kind Symbol.Minus = op tree.minus
symbol_kind Symbol.Star = op tree.times
symbol_kind Symbol.Percent = op tree.rem
symbol_kind Symbol.Less = op tree.lt
symbol_kind Symbol.Greater = op tree.gt
symbol_kind Symbol.Assign = mark tree.assign
symbol_kind Symbol.LeftRound = tree.lparen
symbol_kind Symbol.RightRound = mark tree.rparen
symbol_kind Symbol.LeftSquare = tree.lbracket
symbol_kind Symbol.RightSquare = mark tree.rbracket
symbol_kind Symbol.Comma = mark tree.comma
symbol_kind Symbol.Colon = mark tree.colon
symbol_kind Symbol.Dot = tree.dot
symbol_kind Symbol.Divide = op tree.over
symbol_kind Symbol.AtMost = op tree.le
symbol_kind Symbol.AtLeast = op tree.ge
symbol_kind Symbol.Equal = op tree.eq
symbol_kind Symbol.Differ = op tree.ne
symbol_kind Symbol.Arrow = mark tree.arrow

-- what a token is to the grammar: a string by its value, a fault by its number
abbrev pub kind_of : Tok → Kind
kind_of (Tok.name w) = tree.name w
kind_of (Tok.str w) = lit (tree.text (string_value w))
kind_of (Tok.int n) = lit (tree.int n)
kind_of (Tok.keyword k) = keyword_kind k
kind_of (Tok.symbol s) = symbol_kind s
kind_of Tok.newline = mark tree.newline
kind_of Tok.indent = mark tree.indent
kind_of Tok.dedent = mark tree.dedent
kind_of Tok.done = mark tree.end
kind_of (Tok.fault f) = tree.wrong (fault_number f)

abbrev pub token_of : ℕ × Tok → Token
token_of t = at (kind_of t.1) t.0

-- the tokens of a source, as the grammar takes them
abbrev pub source_tokens : List ℕ → List Token
source_tokens s = map token_of (tokens s)

-- at most 4,096 bytes
abbrev pub reading : List ℕ → Verdict
reading s = cond (ltb 4096 (length s)) (refused 1 0) (reads (source_tokens s))
