-- Tokens of small sources, computed.
use Rattle.std.proofs.Common.{◌≡◌, [], ◌∷◌, ◌++◌, codes, refl}
use Rattle.lexis.specs.Lines.{tokens, lex}
use Rattle.lexis.specs.Texts.{string_value, value_from}
use Rattle.lexis.specs.Tokens.{Tok}
use Rattle.lexis.specs.declared.tokens.Symbol.{Symbol}
use Rattle.lexis.specs.declared.tokens.Keyword.{Keyword}
use Rattle.lexis.specs.declared.faults.Fault.{Fault}

assigns : tokens (codes "x = 1" ++ 10 ∷ []) ≡ (0, Tok.name (codes "x")) ∷ (2, Tok.symbol Symbol.Assign) ∷ (4, Tok.int 1) ∷ (5, Tok.newline) ∷ (6, Tok.done) ∷ []
unfolding lex
assigns = refl

-- a tab, a comment before a line end of two bytes, a DEDENT
nested : tokens (codes "if a:" ++ 10 ∷ 9 ∷ codes "pass # b" ++ 13 ∷ 10 ∷ codes "c")
    ≡ (0, Tok.keyword Keyword.If) ∷ (3, Tok.name (codes "a")) ∷ (4, Tok.symbol Symbol.Colon) ∷ (5, Tok.newline)
    ∷ (7, Tok.indent) ∷ (7, Tok.keyword Keyword.Pass) ∷ (15, Tok.newline)
    ∷ (17, Tok.dedent) ∷ (17, Tok.name (codes "c")) ∷ (18, Tok.newline) ∷ (18, Tok.done) ∷ []
unfolding lex
nested = refl

-- a tab goes to column 8, also after a blank
tabs : tokens (9 ∷ codes "a" ++ 13 ∷ 32 ∷ 9 ∷ codes "b" ++ 10 ∷ codes "        c") ≡ (1, Tok.indent) ∷ (1, Tok.name (codes "a")) ∷ (2, Tok.newline) ∷ (5, Tok.name (codes "b")) ∷ (6, Tok.newline) ∷ (15, Tok.name (codes "c")) ∷ (16, Tok.newline) ∷ (16, Tok.dedent) ∷ (16, Tok.done) ∷ []
unfolding lex
tabs = refl

-- lines of blanks and comments give nothing
quiet : tokens (codes "  # a" ++ 10 ∷ 9 ∷ 13 ∷ 10 ∷ []) ≡ (9, Tok.done) ∷ []
unfolding lex
quiet = refl

-- a bracket does not join lines
bracket : tokens (codes "x = (" ++ 10 ∷ codes "1)")
    ≡ (0, Tok.name (codes "x")) ∷ (2, Tok.symbol Symbol.Assign) ∷ (4, Tok.symbol Symbol.LeftRound) ∷ (5, Tok.newline)
    ∷ (6, Tok.int 1) ∷ (7, Tok.symbol Symbol.RightRound) ∷ (8, Tok.newline) ∷ (8, Tok.done) ∷ []
unfolding lex
bracket = refl

-- the DEDENTs of the source's end
dedents : tokens (codes "a" ++ 10 ∷ codes " b" ++ 10 ∷ codes "  c" ++ 10 ∷ [])
    ≡ (0, Tok.name (codes "a")) ∷ (1, Tok.newline) ∷ (3, Tok.indent) ∷ (3, Tok.name (codes "b")) ∷ (4, Tok.newline)
    ∷ (7, Tok.indent) ∷ (7, Tok.name (codes "c")) ∷ (8, Tok.newline) ∷ (9, Tok.dedent) ∷ (9, Tok.dedent) ∷ (9, Tok.done) ∷ []
unfolding lex
dedents = refl

-- the longest token: a number and a name, an arrow, two equals signs and one
longest : tokens (codes "12ab->c===") ≡ (0, Tok.int 12) ∷ (2, Tok.name (codes "ab")) ∷ (4, Tok.symbol Symbol.Arrow) ∷ (6, Tok.name (codes "c")) ∷ (7, Tok.symbol Symbol.Equal) ∷ (9, Tok.symbol Symbol.Assign) ∷ (10, Tok.newline) ∷ (10, Tok.done) ∷ []
unfolding lex
longest = refl

byte : tokens (codes "a ! 1") ≡ (0, Tok.name (codes "a")) ∷ (2, Tok.fault Fault.Byte) ∷ []
unfolding lex
byte = refl

-- a fault of the first token comes before one of the indentation
number : tokens (codes "  a" ++ 10 ∷ codes " 01") ≡ (2, Tok.indent) ∷ (2, Tok.name (codes "a")) ∷ (3, Tok.newline) ∷ (5, Tok.fault Fault.Number) ∷ []
unfolding lex
number = refl

largest : tokens (codes "2147483647 2147483648") ≡ (0, Tok.int 2147483647) ∷ (11, Tok.fault Fault.Number) ∷ []
unfolding lex
largest = refl

-- at the opening quote
unclosed : tokens (codes "a " ++ 34 ∷ codes "b" ++ 10 ∷ 34 ∷ []) ≡ (0, Tok.name (codes "a")) ∷ (2, Tok.fault Fault.Text) ∷ []
unfolding lex
unclosed = refl

-- no DEDENT is given before
indentation : tokens (codes "  a" ++ 10 ∷ codes " b") ≡ (2, Tok.indent) ∷ (2, Tok.name (codes "a")) ∷ (3, Tok.newline) ∷ (5, Tok.fault Fault.Indentation) ∷ []
unfolding lex
indentation = refl

text : tokens (34 ∷ codes "a" ++ 92 ∷ 34 ∷ 34 ∷ codes "<=12") ≡ (0, Tok.str (97 ∷ 92 ∷ 34 ∷ [])) ∷ (5, Tok.symbol Symbol.AtMost) ∷ (7, Tok.int 12) ∷ (9, Tok.newline) ∷ (9, Tok.done) ∷ []
unfolding lex
text = refl

escaped : string_value (97 ∷ 92 ∷ 34 ∷ 92 ∷ 92 ∷ 92 ∷ 110 ∷ 92 ∷ 116 ∷ 98 ∷ []) ≡ 97 ∷ 34 ∷ 92 ∷ 10 ∷ 9 ∷ 98 ∷ []
unfolding value_from
escaped = refl
