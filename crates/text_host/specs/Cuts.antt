-- What it is for a text to have these lines, without saying how they are found.
use Rattle.std.specs.Prelude.{◌≡◌, ℕ, Bool, true, false, cond, List, [], ◌∷◌, ◌++◌, ◌==◌}
use Rattle.text_host.specs.Lines.{lines_of}

-- whether no line feed is among some bytes
abbrev pub feedless : List ℕ → Bool
feedless [] = true
feedless (b ∷ bs) = cond (b == 10) false (feedless bs)

-- a text and its lines: none, or a line up to its line feed and the lines after it, or a last unfinished line
pub data Cut : List ℕ → List (List ℕ) → Type 0 where
  nothing : Cut [] []
  ended : (l rest : List ℕ) (ls : List (List ℕ)) → feedless l ≡ true → Cut rest ls → Cut (l ++ (10 ∷ rest)) (l ∷ ls)
  unended : (b : ℕ) (l : List ℕ) → feedless (b ∷ l) ≡ true → Cut (b ∷ l) ((b ∷ l) ∷ [])

-- every text has its lines, and no others
pub record CutsExactly : Type 0 where
  pub has : (bs : List ℕ) → Cut bs (lines_of bs)
  pub only : (bs : List ℕ) (ls : List (List ℕ)) → Cut bs ls → lines_of bs ≡ ls
