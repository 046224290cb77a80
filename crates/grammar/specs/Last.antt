-- The tokens with which a text can end: its end, or one that no rule takes.
use Rattle.std.specs.Prelude.{ℕ, Bool, true, false, T, List, [], ◌∷◌, ◌++◌, ◌≢◌}
use Rattle.grammar.specs.Tree.{Token, mark_discrete, name, lit, dot, lparen, lbracket, not_word, op, mark, wrong, at, end, unused}
use Rattle.grammar.specs.Reader.{begin}
use Rattle.grammar.specs.Limits.{limited, unfinished}
use Rattle.grammar.specs.Theorems.{Begins}

abbrev pub holds : {A : Type 0} → Dec A → Bool → Bool
holds (yes a) b = true
holds (no a) b = b

-- no rule takes it: a keyword without a use, or a fault of lexing
abbrev pub foreign : Token → Bool
foreign (at (name x) p) = false
foreign (at (lit x) p) = false
foreign (at dot p) = false
foreign (at lparen p) = false
foreign (at lbracket p) = false
foreign (at not_word p) = false
foreign (at (op o) p) = false
foreign (at (mark m) p) = holds (mark_discrete unused m) false
foreign (at (wrong k) p) = true

abbrev pub last : Token → Bool
last (at (name x) p) = false
last (at (lit x) p) = false
last (at dot p) = false
last (at lparen p) = false
last (at lbracket p) = false
last (at not_word p) = false
last (at (op o) p) = false
last (at (mark m) p) = holds (mark_discrete end m) (holds (mark_discrete unused m) false)
last (at (wrong k) p) = true

abbrev pub Foreign : Type 0
Foreign = (before : List Token) (t : Token) → T (foreign t) → Begins (before ++ (t ∷ [])) → ⊥

-- tokens that end so do not end too soon
abbrev pub Decided : Type 0
Decided = (lim : ℕ) (before : List Token) (t : Token) → T (last t) → limited lim (before ++ (t ∷ [])) begin ≢ unfinished
