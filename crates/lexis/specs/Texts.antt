-- String literals: an automaton over the bytes after the opening quote.
use Rattle.std.specs.Prelude.{ℕ, ◌+◌, Bool, true, false, cond, ◌&&◌, List, [], ◌∷◌, ◌++◌, is_some, Some, None, fold, Option, ◌==◌, nat_le, nat_lt}
use Rattle.lexis.specs.declared.scans.Quoted.{Quoted}

-- what a backslash and c stand for
abbrev pub escape_of : ℕ → Option ℕ
escape_of c =
    cond (c == 34) (Some 34)
    (cond (c == 110) (Some 10)
    (cond (c == 116) (Some 9)
    (cond (c == 92) (Some 92) None)))

-- a value has at most 255 bytes
abbrev pub longer_by : ℕ → Quoted
longer_by v = cond (nat_lt v 255) (Quoted.Plain (v + 1)) Quoted.Bad

abbrev pub text_step : Quoted → ℕ → Quoted
text_step (Quoted.Plain v) b =
    cond (b == 34) Quoted.Closed
    (cond (b == 92) (Quoted.Escaped v)
    (cond (nat_le 32 b && nat_le b 126) (longer_by v) Quoted.Bad))
text_step (Quoted.Escaped v) b = cond (is_some (escape_of b)) (longer_by v) Quoted.Bad
text_step Quoted.Closed b = Quoted.Closed
text_step Quoted.Bad b = Quoted.Bad

-- Closed tells where, Bad that there is none
abbrev pub ends : Quoted → ℕ → Option ℕ → Option ℕ
ends (Quoted.Plain v) p later = later
ends (Quoted.Escaped v) p later = later
ends Quoted.Closed p later = Some p
ends Quoted.Bad p later = None

-- the place of the closing quote, where p is the place of the first of the bytes
abbrev pub text_end : Quoted → ℕ → List ℕ → Option ℕ
text_end q p [] = None
text_end q p (b ∷ bs) = ends (text_step q b) p (text_end (text_step q b) (p + 1) bs)

abbrev pub is_inside : Quoted → Bool
is_inside (Quoted.Plain v) = true
is_inside (Quoted.Escaped v) = false
is_inside Quoted.Closed = false
is_inside Quoted.Bad = false

-- w may stand between quotes
abbrev pub is_text : List ℕ → Bool
is_text w = is_inside (fold text_step (Quoted.Plain 0) w)

abbrev pub or_else : Option ℕ → ℕ → ℕ
or_else (Some v) b = v
or_else None b = b

-- the byte that a backslash and b write; without a meaning of its own, b itself
abbrev pub unescaped : ℕ → ℕ
unescaped b = or_else (escape_of b) b

-- what a byte between the quotes writes; `pending` says whether a backslash came just before
abbrev pub written : Bool → ℕ → List ℕ
written true b = unescaped b ∷ []
written false b = cond (b == 92) [] (b ∷ [])

abbrev pub escapes : Bool → ℕ → Bool
escapes true b = false
escapes false b = b == 92

unfoldable pub value_from : Bool → List ℕ → List ℕ
value_from pending [] = []
value_from pending (b ∷ bs) = written pending b ++ value_from (escapes pending b) bs

-- the value of a string, from the bytes between its quotes
abbrev pub string_value : List ℕ → List ℕ
string_value w = value_from false w
