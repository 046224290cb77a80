-- What the limited reader accepts and refuses, in terms of derivations and their profiles.
use Rattle.std.specs.Prelude.{◌≡◌, ℕ, ◌<◌, List, [], ◌∷◌, ◌++◌, length, take}
use Rattle.grammar.specs.Tree.{Token, Stmts, Decls}
use Rattle.grammar.specs.Grammar.{Program}
use Rattle.grammar.specs.Profile.{Label, plain, opening, nested, profile}
use Rattle.grammar.specs.Reader.{begin, accepted}
use Rattle.grammar.specs.Limits.{trail, limited, levels, nests, complete, barred, beyond, unfinished}
use Rattle.grammar.specs.Theorems.{Begins, Iff}

-- fewer than lim levels are open around a token that opens one, and no declaration is nested
abbrev pub Fine : ℕ → Label → Type 0
Fine lim plain = Unit {0}
Fine lim (opening n) = n < lim
Fine lim nested = ⊥

abbrev pub Within : ℕ → List Label → Type 0
Within lim [] = Unit {0}
Within lim (l ∷ ls) = Fine lim l × Within lim ls

-- some program begins with the tokens ts, and in every such program ls are their labels
abbrev pub Labelled : List Token → List Label → Type 0
Labelled ts ls = Begins ts × ((more : List Token) (ds : Decls) (ss : Stmts) (d : Program ds ss (ts ++ more)) → take (length ts) (profile d) ≡ ls)

-- the machine sees a derivation's labels, one for each token
abbrev pub Profiled : Type 0
Profiled = (ts : List Token) (ds : Decls) (ss : Stmts) (d : Program ds ss ts) → (trail ts begin ≡ (profile d, accepted ds ss)) × (length (profile d) ≡ length ts)

abbrev pub AcceptedExactly : Type 0
AcceptedExactly = (lim : ℕ) (ts : List Token) (ds : Decls) (ss : Stmts)
    → Iff (limited lim ts begin ≡ complete ds ss) ((d : Program ds ss ts) × Within lim (profile d))

-- t is the first token of ts that no program has there, and none before it is over a limit
abbrev pub Barred : ℕ → List Token → Token → List Token → Type 0
Barred lim ts t rest =
    (before : List Token) × (ls : List Label) × (ts ≡ before ++ (t ∷ rest)) × Labelled before ls × Within lim ls × (Begins (before ++ (t ∷ [])) → ⊥)

abbrev pub SixExactly : Type 0
SixExactly = (lim : ℕ) (ts rest : List Token) (t : Token) → Iff (limited lim ts begin ≡ barred t rest) (Barred lim ts t rest)

-- t is the first token of ts that is over a limit, in every program that begins so, and l is its label
abbrev pub Over : ℕ → Label → List Token → Token → List Token → Type 0
Over lim l ts t rest =
    (before : List Token) × (ls : List Label) × (ts ≡ before ++ (t ∷ rest)) × Labelled (before ++ (t ∷ [])) (ls ++ (l ∷ [])) × Within lim ls

-- it opens a level, and lim are open around it
abbrev pub SevenExactly : Type 0
SevenExactly = (lim : ℕ) (ts rest : List Token) (t : Token) → Iff (limited lim ts begin ≡ beyond levels t rest) (Over lim (opening lim) ts t rest)

-- it heads a nested declaration
abbrev pub EightExactly : Type 0
EightExactly = (lim : ℕ) (ts rest : List Token) (t : Token) → Iff (limited lim ts begin ≡ beyond nests t rest) (Over lim nested ts t rest)

-- tokens that end too soon
abbrev pub UnfinishedExactly : Type 0
UnfinishedExactly = (lim : ℕ) (ts : List Token)
    → Iff (limited lim ts begin ≡ unfinished)
    ((ls : List Label) × Labelled ts ls × Within lim ls × ((ds : Decls) (ss : Stmts) → Program ds ss ts → ⊥))
