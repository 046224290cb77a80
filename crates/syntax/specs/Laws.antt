-- What is promised of the verdict on a source, in terms of the grammar's relation alone.
use Rattle.std.specs.Prelude.{List, ◌⊎◌, ◌≡◌, ℕ, ◌≤◌, ◌<◌, length}
use Rattle.grammar.specs.Tree.{Decls, Stmts, Token, place}
use Rattle.grammar.specs.Grammar.{Program}
use Rattle.grammar.specs.Profile.{profile}
use Rattle.grammar.specs.Exactly.{Within}
use Rattle.grammar.specs.Theorems.{Iff}
use Rattle.grammar.specs.Verdict.{Why, accepted, incomplete, most_levels, refused}
use Rattle.syntax.specs.Reading.{reading, source_tokens}

-- a source of at most 4,096 bytes whose tokens the grammar reads as this program, within the limits
abbrev pub ReadsAs : List ℕ → Decls → Stmts → Type 0
ReadsAs s ds ss = (length s ≤ 4096) × ((d : Program ds ss (source_tokens s)) × Within most_levels (profile d))

-- a source that is too long, or whose first token that is refused stands at this place and gets this number
abbrev pub RefusedFor : List ℕ → ℕ → ℕ → Type 0
RefusedFor s n p =
    ((4096 < length s) × (n ≡ 1) × (p ≡ 0))
    ⊎ ((length s ≤ 4096) × ((t : Token) × (rest : List Token) × (place t ≡ p) × Why (source_tokens s) t rest n))

pub record ReadsExactly : Type 0 where
  pub accepts : (s : List ℕ) (ds : Decls) (ss : Stmts) → Iff (reading s ≡ accepted ds ss) (ReadsAs s ds ss)
  pub refuses : (s : List ℕ) (n p : ℕ) → Iff (reading s ≡ refused n p) (RefusedFor s n p)
  -- no source reads as two programs
  pub unique : (s : List ℕ) (ds es : Decls) (ss us : Stmts) → ReadsAs s ds ss → ReadsAs s es us → (ds ≡ es) × (ss ≡ us)
  -- a verdict always comes: the tokens of a source never end too soon
  pub judges : (s : List ℕ) → reading s ≡ incomplete → ⊥
  -- a refusal's place lies in the source, or at its end, and is at most 4,096
  pub places : (s : List ℕ) (n p : ℕ) → reading s ≡ refused n p → (p ≤ length s) × (p ≤ 4096)
