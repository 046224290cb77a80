-- Worked cases of reading: a source, and the number and place of its refusal, or 0 and 0 where it reads.
use Rattle.std.specs.Prelude.{List, [], ◌∷◌, ◌++◌, ◌≡◌, ℕ, codes, replicate}
use Rattle.grammar.specs.Verdict.{Verdict, accepted, incomplete, refused}
use Rattle.syntax.specs.Reading.{reading}

abbrev pub shown : Verdict → ℕ × ℕ
shown (accepted ds ss) = (0, 0)
shown (refused n p) = (n, p)
shown incomplete = (0, 1)

pub record Case : Type 0 where
  pub source : List ℕ
  pub answer : ℕ × ℕ

abbrev pub case : List ℕ → ℕ → ℕ → Case
case s n p = record { source = s; answer = (n, p) }

-- 9, 10, 13, 34 and 92 are a tab, a line feed, a carriage return, a quote and a backslash
abbrev pub cases : List Case
cases =
    -- the empty source
    case ([]) 6 0
    -- one statement
    ∷ case (codes "pass") 0 0
    -- an integer over the limit
    ∷ case (codes "print(2147483648)") 3 6
    -- a leading zero, before the unexpected indentation
    ∷ case (codes "pass" ++ (10 ∷ codes "  07")) 3 7
    -- a byte that begins no token
    ∷ case (codes "x = 1 ! 2") 2 6
    -- a line's first token is judged for 2 before its indentation
    ∷ case (codes "if True:" ++ (10 ∷ codes "    pass" ++ (10 ∷ codes "  ?"))) 2 20
    -- an unclosed string
    ∷ case (codes "print(" ++ (34 ∷ codes "abc")) 4 6
    -- an escape that is none
    ∷ case (codes "print(" ++ (34 ∷ codes "Hell" ++ (92 ∷ codes "o" ++ (34 ∷ codes ")")))) 4 6
    -- the four escapes
    ∷ case (codes "print(" ++ (34 ∷ codes "a" ++ (92 ∷ 34 ∷ codes "b" ++ (92 ∷ 92 ∷ codes "c" ++ (92 ∷ codes "td" ++ (92 ∷ codes "ne" ++ (34 ∷ codes ")"))))))) 0 0
    -- a tab goes to column eight, so column four is on no open level
    ∷ case (codes "if True:" ++ (10 ∷ 9 ∷ codes "pass" ++ (10 ∷ codes "    pass"))) 5 19
    -- the indentation is judged before the grammar
    ∷ case (codes "if True:" ++ (10 ∷ codes "    pass" ++ (10 ∷ codes "  )"))) 5 20
    -- comparisons do not associate: the second one is refused
    ∷ case (codes "a < b < c") 6 6
    -- only a bare name or member is called
    ∷ case (codes "(f)(x)") 6 3
    -- a target has no parentheses around it
    ∷ case (codes "(x) = 1") 6 4
    -- a bracket does not join lines
    ∷ case (codes "x = (" ++ (10 ∷ codes "1)")) 6 5
    -- the line end CR LF has the place of its CR
    ∷ case (codes "x =" ++ (13 ∷ 10 ∷ codes "1")) 6 3
    -- the block is missing at the end of the source
    ∷ case (codes "if True:") 6 8
    -- a program ends with a statement: the end has the source's length
    ∷ case (codes "def f() -> int:" ++ (10 ∷ codes "  pass" ++ (10 ∷ codes "  "))) 6 25
    -- CR, CR LF and LF end lines; the block ends with the source
    ∷ case (codes "if True:" ++ (13 ∷ codes " pass" ++ (13 ∷ 10 ∷ codes " pass" ++ (10 ∷ [])))) 0 0
    -- both blocks end with the source
    ∷ case (codes "while False:" ++ (10 ∷ codes "  if True:" ++ (10 ∷ codes "    pass"))) 0 0
    -- a keyword without a use
    ∷ case (codes "x = as") 6 4
    -- the 65th parenthesis
    ∷ case (replicate 65 40) 7 64
    -- the 65th minus
    ∷ case (replicate 65 45) 7 64
    -- a definition in a function
    ∷ case (codes "def f() -> int:" ++ (10 ∷ codes "  def g() -> int:" ++ (10 ∷ codes "    return 1" ++ (10 ∷ codes "  return 1" ++ (10 ∷ codes "pass"))))) 8 18
    -- nonlocal in a function
    ∷ case (codes "def f() -> int:" ++ (10 ∷ codes "  nonlocal x" ++ (10 ∷ codes "  return 1" ++ (10 ∷ codes "pass")))) 8 18
    -- nonlocal after a statement
    ∷ case (codes "def f() -> int:" ++ (10 ∷ codes "  pass" ++ (10 ∷ codes "  nonlocal x" ++ (10 ∷ codes "pass")))) 6 25
    ∷ []

abbrev pub answers : List Case → List (ℕ × ℕ)
answers [] = []
answers (c ∷ cs) = shown (reading c.source) ∷ answers cs

abbrev pub expected : List Case → List (ℕ × ℕ)
expected [] = []
expected (c ∷ cs) = c.answer ∷ expected cs

-- each source has its answer
abbrev pub WorkedCases : Type 0
WorkedCases = answers cases ≡ expected cases
