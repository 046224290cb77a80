-- The keywords, and the operators by longest match.
use Rattle.std.specs.Prelude.{ℕ, cond, List, [], ◌∷◌, Some, None, codes, Option}
use Rattle.std.specs.Str.{bytes_eq}
use Rattle.lexis.specs.declared.tokens.Keyword.{Keyword}
use Rattle.lexis.specs.declared.tokens.Symbol.{Symbol}

-- the value beside the first key that is w
abbrev pub beside : {X : Type 0} → List (List ℕ × X) → List ℕ → Option X
beside [] w = None
beside (e ∷ es) w = cond (bytes_eq w e.0) (Some e.1) (beside es w)

abbrev pub spelled : Keyword → List ℕ
spelled Keyword.False = codes "False"
spelled Keyword.None = codes "None"
spelled Keyword.True = codes "True"
spelled Keyword.And = codes "and"
spelled Keyword.As = codes "as"
spelled Keyword.Assert = codes "assert"
spelled Keyword.Async = codes "async"
spelled Keyword.Await = codes "await"
spelled Keyword.Break = codes "break"
spelled Keyword.Class = codes "class"
spelled Keyword.Continue = codes "continue"
spelled Keyword.Def = codes "def"
spelled Keyword.Del = codes "del"
spelled Keyword.Elif = codes "elif"
spelled Keyword.Else = codes "else"
spelled Keyword.Except = codes "except"
spelled Keyword.Finally = codes "finally"
spelled Keyword.For = codes "for"
spelled Keyword.From = codes "from"
spelled Keyword.Global = codes "global"
spelled Keyword.If = codes "if"
spelled Keyword.Import = codes "import"
spelled Keyword.In = codes "in"
spelled Keyword.Is = codes "is"
spelled Keyword.Lambda = codes "lambda"
spelled Keyword.Nonlocal = codes "nonlocal"
spelled Keyword.Not = codes "not"
spelled Keyword.Or = codes "or"
spelled Keyword.Pass = codes "pass"
spelled Keyword.Raise = codes "raise"
spelled Keyword.Return = codes "return"
spelled Keyword.Try = codes "try"
spelled Keyword.While = codes "while"
spelled Keyword.With = codes "with"
spelled Keyword.Yield = codes "yield"

abbrev pub keywords : List Keyword
keywords =
    Keyword.False
    ∷ Keyword.None
    ∷ Keyword.True
    ∷ Keyword.And
    ∷ Keyword.As
    ∷ Keyword.Assert
    ∷ Keyword.Async
    ∷ Keyword.Await
    ∷ Keyword.Break
    ∷ Keyword.Class
    ∷ Keyword.Continue
    ∷ Keyword.Def
    ∷ Keyword.Del
    ∷ Keyword.Elif
    ∷ Keyword.Else
    ∷ Keyword.Except
    ∷ Keyword.Finally
    ∷ Keyword.For
    ∷ Keyword.From
    ∷ Keyword.Global
    ∷ Keyword.If
    ∷ Keyword.Import
    ∷ Keyword.In
    ∷ Keyword.Is
    ∷ Keyword.Lambda
    ∷ Keyword.Nonlocal
    ∷ Keyword.Not
    ∷ Keyword.Or
    ∷ Keyword.Pass
    ∷ Keyword.Raise
    ∷ Keyword.Return
    ∷ Keyword.Try
    ∷ Keyword.While
    ∷ Keyword.With
    ∷ Keyword.Yield
    ∷ []

-- the first of some keywords that is spelled w
abbrev pub first_spelled : List Keyword → List ℕ → Option Keyword
first_spelled [] w = None
first_spelled (k ∷ ks) w = cond (bytes_eq (spelled k) w) (Some k) (first_spelled ks w)

abbrev pub keyword_of : List ℕ → Option Keyword
keyword_of w = first_spelled keywords w

abbrev pub symbol_bytes : Symbol → List ℕ
symbol_bytes Symbol.Plus = codes "+"
symbol_bytes Symbol.Minus = codes "-"
symbol_bytes Symbol.Star = codes "*"
symbol_bytes Symbol.Percent = codes "%"
symbol_bytes Symbol.Less = codes "<"
symbol_bytes Symbol.Greater = codes ">"
symbol_bytes Symbol.Assign = codes "="
symbol_bytes Symbol.LeftRound = codes "("
symbol_bytes Symbol.RightRound = codes ")"
symbol_bytes Symbol.LeftSquare = codes "["
symbol_bytes Symbol.RightSquare = codes "]"
symbol_bytes Symbol.Comma = codes ","
symbol_bytes Symbol.Colon = codes ":"
symbol_bytes Symbol.Dot = codes "."
symbol_bytes Symbol.Divide = codes "//"
symbol_bytes Symbol.AtMost = codes "<="
symbol_bytes Symbol.AtLeast = codes ">="
symbol_bytes Symbol.Equal = codes "=="
symbol_bytes Symbol.Differ = codes "!="
symbol_bytes Symbol.Arrow = codes "->"

-- symbols of two bytes and of one, each with its size; where two fit, the longer comes first
abbrev pub doubles : List (List ℕ × (Symbol × ℕ))
doubles =
    (codes "//", (Symbol.Divide, 2))
    ∷ (codes "<=", (Symbol.AtMost, 2))
    ∷ (codes ">=", (Symbol.AtLeast, 2))
    ∷ (codes "==", (Symbol.Equal, 2))
    ∷ (codes "!=", (Symbol.Differ, 2))
    ∷ (codes "->", (Symbol.Arrow, 2))
    ∷ []

abbrev pub singles : List (List ℕ × (Symbol × ℕ))
singles =
    (codes "+", (Symbol.Plus, 1))
    ∷ (codes "-", (Symbol.Minus, 1))
    ∷ (codes "*", (Symbol.Star, 1))
    ∷ (codes "%", (Symbol.Percent, 1))
    ∷ (codes "<", (Symbol.Less, 1))
    ∷ (codes ">", (Symbol.Greater, 1))
    ∷ (codes "=", (Symbol.Assign, 1))
    ∷ (codes "(", (Symbol.LeftRound, 1))
    ∷ (codes ")", (Symbol.RightRound, 1))
    ∷ (codes "[", (Symbol.LeftSquare, 1))
    ∷ (codes "]", (Symbol.RightSquare, 1))
    ∷ (codes ",", (Symbol.Comma, 1))
    ∷ (codes ":", (Symbol.Colon, 1))
    ∷ (codes ".", (Symbol.Dot, 1))
    ∷ []

abbrev pub either : {X : Type 0} → Option X → Option X → Option X
either None y = y
either (Some x) y = Some x

abbrev pub symbol_of : ℕ → ℕ → Option (Symbol × ℕ)
symbol_of a b = either (beside doubles (a ∷ b ∷ [])) (beside singles (a ∷ []))
