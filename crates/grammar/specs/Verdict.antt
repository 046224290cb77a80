-- The verdict on a list of tokens: the program, or the number and place of the first token that is refused.
use Rattle.std.specs.Prelude.{◌≡◌, ℕ, T, List, [], ◌∷◌, ◌++◌, ◌≢◌}
use Rattle.grammar.specs.Tree.{Token, Stmts, Decls, place, name, lit, dot, lparen, lbracket, not_word, op, mark, wrong, at}
use Rattle.grammar.specs.Grammar.{Program}
use Rattle.grammar.specs.Profile.{opening, nested, profile}
use Rattle.grammar.specs.Reader.{begin}
use Rattle.grammar.specs.Limits.{Limit, levels, nests, Reading, limited, complete, barred, beyond, unfinished}
use Rattle.grammar.specs.Theorems.{Iff}
use Rattle.grammar.specs.Exactly.{Within, Barred, Over}
use Rattle.grammar.specs.Last.{last}

pub data Verdict : Type 0 where
  accepted : Decls → Stmts → Verdict
  -- number and place
  refused : ℕ → ℕ → Verdict
  -- the tokens end too soon: never where the last is the end of the text or a fault of lexing
  incomplete : Verdict

-- a fault of lexing has its own number
abbrev pub fault : Token → ℕ
fault (at (name x) p) = 6
fault (at (lit x) p) = 6
fault (at dot p) = 6
fault (at lparen p) = 6
fault (at lbracket p) = 6
fault (at not_word p) = 6
fault (at (op o) p) = 6
fault (at (mark m) p) = 6
fault (at (wrong k) p) = k

abbrev pub number : Limit → ℕ
number levels = 7
number nests = 8

abbrev pub most_levels : ℕ
most_levels = 64

abbrev pub judged : Reading → Verdict
judged (complete ds ss) = accepted ds ss
judged (barred t rest) = refused (fault t) (place t)
judged (beyond l t rest) = refused (number l) (place t)
judged unfinished = incomplete

abbrev pub reads : List Token → Verdict
reads ts = judged (limited most_levels ts begin)

abbrev pub Accepts : Type 0
Accepts = (ts : List Token) (ds : Decls) (ss : Stmts) → Iff (reads ts ≡ accepted ds ss) ((d : Program ds ss ts) × Within most_levels (profile d))

-- why a token is refused, and the number that it gets
pub data Why (ts : List Token) (t : Token) (rest : List Token) : ℕ → Type 0 where
  no_program : Barred most_levels ts t rest → Why ts t rest (fault t)
  too_deep : Over most_levels (opening most_levels) ts t rest → Why ts t rest 7
  in_function_body : Over most_levels nested ts t rest → Why ts t rest 8

abbrev pub Refuses : Type 0
Refuses = (ts : List Token) (n p : ℕ) → Iff (reads ts ≡ refused n p) ((t : Token) × (rest : List Token) × (place t ≡ p) × Why ts t rest n)

-- tokens that end as a text ends are accepted or refused
abbrev pub Judges : Type 0
Judges = (before : List Token) (t : Token) → T (last t) → reads (before ++ (t ∷ [])) ≢ incomplete
