-- What is proved of the grammar and its reader.
use Rattle.std.specs.Prelude.{◌≡◌, ℕ, suc, ◌+◌, ◌<◌, List, [], ◌∷◌, ◌++◌, length, take}
use Rattle.grammar.specs.Tree.{Token, Stmts, Decls}
use Rattle.grammar.specs.Grammar.{Program}
use Rattle.grammar.specs.Reader.{read, accepted, refused, short}

abbrev pub Sound : Type 0
Sound = (ts : List Token) (ds : Decls) (ss : Stmts) → read ts ≡ accepted ds ss → Program ds ss ts

abbrev pub Complete : Type 0
Complete = (ts : List Token) (ds : Decls) (ss : Stmts) → Program ds ss ts → read ts ≡ accepted ds ss

-- no text has two readings
abbrev pub Unique : Type 0
Unique = (ts : List Token) (ds es : Decls) (ss us : Stmts) → Program ds ss ts → Program es us ts → (ds ≡ es) × (ss ≡ us)

-- some program begins with these tokens
abbrev pub Begins : List Token → Type 0
Begins ts = (more : List Token) × (ds : Decls) × (ss : Stmts) × Program ds ss (ts ++ more)

abbrev pub Iff : Type 0 → Type 0 → Type 0
Iff A B = (A → B) × (B → A)

-- the first token that no program has there
abbrev pub First : Type 0
First = (ts rest : List Token) (t : Token)
    → Iff (read ts ≡ refused t rest) ((before : List Token) × (ts ≡ before ++ (t ∷ rest)) × Begins before × (Begins (before ++ (t ∷ [])) → ⊥))

-- tokens that end too soon
abbrev pub Short : Type 0
Short = (ts : List Token) → Iff (read ts ≡ short) (Begins ts × ((ds : Decls) (ss : Stmts) → Program ds ss ts → ⊥))

-- the k-th token is refused
abbrev pub RefusedAt : List Token → ℕ → Type 0
RefusedAt ts k = (t : Token) × (rest : List Token) × (read ts ≡ refused t rest) × (length ts ≡ k + suc (length rest))

-- the first, by its number
abbrev pub Exact : Type 0
Exact = (ts : List Token) (k : ℕ) → Iff (RefusedAt ts k) ((k < length ts) × Begins (take k ts) × (Begins (take (suc k) ts) → ⊥))
