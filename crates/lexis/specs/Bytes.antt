-- What a byte outside comments and strings can begin: the lexical rule.
use Rattle.std.specs.Prelude.{ℕ, Bool, false, cond, ◌&&◌, ◌||◌, List, [], ◌∷◌, codes, ◌==◌, nat_le}
use Rattle.lexis.specs.declared.bytes.Class.{Class}
use Rattle.lexis.specs.declared.bytes.Class.TheVariants.{Blank, LineEnd, Hash, Letter, Digit, Quote, Mark, Other}

abbrev pub between : ℕ → ℕ → ℕ → Bool
between low high b = nat_le low b && nat_le b high

abbrev pub among : List ℕ → ℕ → Bool
among [] b = false
among (c ∷ cs) b = b == c || among cs b

abbrev pub is_blank : ℕ → Bool
is_blank b = among (32 ∷ 9 ∷ []) b

abbrev pub is_line_end : ℕ → Bool
is_line_end b = among (10 ∷ 13 ∷ []) b

-- A through Z, in both cases, and the underscore
abbrev pub is_letter : ℕ → Bool
is_letter b = between 65 90 b || (between 97 122 b || b == 95)

abbrev pub is_digit : ℕ → Bool
is_digit b = between 48 57 b

-- the first byte of an operator or a delimiter, and the ! of !=
abbrev pub is_mark : ℕ → Bool
is_mark b = among (codes "+-*/%<>=!()[],:.") b

abbrev pub class_of : ℕ → Class
class_of b =
    cond (is_blank b) Blank
    (cond (is_line_end b) LineEnd
    (cond (b == 35) Hash
    (cond (is_letter b) Letter
    (cond (is_digit b) Digit
    (cond (b == 34) Quote
    (cond (is_mark b) Mark Other))))))
