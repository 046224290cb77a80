-- The lines that are found are the lines of the text, and the only ones.
use Rattle.std.proofs.Common.{◌≡◌, ℕ, Bool, true, false, cond, eqb, List, [], ◌∷◌, ◌++◌, sym, refl, ap, ◌∙◌, subst, arith, eqb-true}
use Rattle.text_host.specs.Cuts.{Cut, CutsExactly, feedless, nothing, ended, unended}
use Rattle.text_host.specs.Lines.{lines_of, joined_to}

-- a byte in front, if it is no line feed, belongs to the first line
longer : (b : ℕ) (bs : List ℕ) (ls : List (List ℕ)) → eqb b 10 ≡ false → Cut bs ls → Cut (b ∷ bs) (joined_to b ls)
longer b _ _ e nothing = unended b [] (grind arith)
longer b _ _ e (ended l rest ls f c) = ended (b ∷ l) rest ls (grind arith) c
longer b _ _ e (unended x l f) = unended b (x ∷ l) (grind arith)

by_byte : (b : ℕ) (bs : List ℕ) → Cut bs (lines_of bs) → (t : Bool) → eqb b 10 ≡ t → Cut (b ∷ bs) (cond t ([] ∷ lines_of bs) (joined_to b (lines_of bs)))
by_byte b bs c true e = subst (λ x. Cut (x ∷ bs) ([] ∷ lines_of bs)) (sym (eqb-true b 10 e)) (ended [] bs (lines_of bs) refl c)
by_byte b bs c false e = longer b bs (lines_of bs) e c

has : (bs : List ℕ) → Cut bs (lines_of bs)
has [] = nothing
has (b ∷ bs) = by_byte b bs (has bs) (eqb b 10) refl

first_line : (l rest : List ℕ) → feedless l ≡ true → lines_of (l ++ (10 ∷ rest)) ≡ l ∷ lines_of rest
first_line [] rest f = refl
first_line (b ∷ l) rest f = let h : feedless l ≡ true → lines_of (l ++ (10 ∷ rest)) ≡ l ∷ lines_of rest = first_line l rest in grind arith

last_line : (b : ℕ) (l : List ℕ) → feedless (b ∷ l) ≡ true → lines_of (b ∷ l) ≡ (b ∷ l) ∷ []
last_line b [] f = grind arith
last_line b (x ∷ l) f = let h : feedless (x ∷ l) ≡ true → lines_of (x ∷ l) ≡ (x ∷ l) ∷ [] = last_line x l in grind arith

only : (bs : List ℕ) (ls : List (List ℕ)) → Cut bs ls → lines_of bs ≡ ls
only _ _ nothing = refl
only _ _ (ended l rest ls f c) = first_line l rest f ∙ ap (λ x. l ∷ x) (only rest ls c)
only _ _ (unended b l f) = last_line b l f

pub cuts_exactly : CutsExactly
cuts_exactly = record { has = has; only = only }
