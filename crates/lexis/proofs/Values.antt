-- The value of a string is short.
use Rattle.std.proofs.Common.{◌≡◌, ℕ, ◌+◌, ◌≤◌, Bool, true, false, cond, ◌&&◌, eqb, ltb, leb, List, [], ◌∷◌, ◌++◌, length, is_some, fold, sym, refl, ◌∙◌, arith}
use Rattle.std.proofs.lemmas.Bool.{true≢false, ltb-true}
use Rattle.lexis.specs.Laws.{ValuesShort}
use Rattle.lexis.specs.Texts.{escape_of, text_step, is_inside, value_from, unescaped}
use Rattle.lexis.specs.declared.scans.Quoted.{Quoted}
use Rattle.lexis.proofs.Longest.{closed_stays, bad_stays}
use Rattle.lexis.proofs.Spelling.{Open}

-- how many bytes of the value came, and whether a backslash did just before
abbrev count : Quoted → ℕ
count (Quoted.Plain v) = v
count (Quoted.Escaped v) = v
count Quoted.Closed = 0
count Quoted.Bad = 0

abbrev pending : Quoted → Bool
pending (Quoted.Plain v) = false
pending (Quoted.Escaped v) = true
pending Quoted.Closed = false
pending Quoted.Bad = false

abbrev Short : Quoted → List ℕ → Type 0
Short q w = Open q → is_inside (fold text_step q w) ≡ true → count q ≤ 255 → count q + length (value_from (pending q) w) ≤ 255

longer_short : (v x : ℕ) (w : List ℕ) (t y : Bool) → ltb v 255 ≡ y → ((r : Quoted) → Short r w) → is_inside (fold text_step (cond t (cond y (Quoted.Plain (v + 1)) Quoted.Bad) Quoted.Bad) w) ≡ true → v + length (x ∷ value_from false w) ≤ 255
longer_short v x w true true e more h = let k = ltb-true v 255 e in omega (arith, more (Quoted.Plain (v + 1)) tt h (omega arith))
longer_short v x w true false e more h = absurd (true≢false (sym h ∙ bad_stays w))
longer_short v x w false y e more h = absurd (true≢false (sym h ∙ bad_stays w))

plain_short : (v b : ℕ) (w : List ℕ) (t u x : Bool) → ((r : Quoted) → Short r w) → is_inside (fold text_step (cond t Quoted.Closed (cond u (Quoted.Escaped v) (cond x (cond (ltb v 255) (Quoted.Plain (v + 1)) Quoted.Bad) Quoted.Bad))) w) ≡ true → v ≤ 255 → v + length (cond u [] (b ∷ []) ++ value_from u w) ≤ 255
plain_short v b w true u x more h k = absurd (true≢false (sym h ∙ closed_stays w))
plain_short v b w false true x more h k = more (Quoted.Escaped v) tt h k
plain_short v b w false false x more h k = longer_short v b w x (ltb v 255) refl more h

short : (w : List ℕ) (q : Quoted) → Short q w
unfolding value_from
short [] (Quoted.Plain v) o h k = omega arith
short [] (Quoted.Escaped v) o h k = omega arith
short [] Quoted.Closed o h k = absurd o
short [] Quoted.Bad o h k = absurd o
short (b ∷ w) (Quoted.Plain v) o h k = plain_short v b w (eqb b 34) (eqb b 92) (leb 32 b && leb b 126) (short w) h k
short (b ∷ w) (Quoted.Escaped v) o h k = longer_short v (unescaped b) w (is_some (escape_of b)) (ltb v 255) refl (short w) h
short (b ∷ w) Quoted.Closed o h k = absurd o
short (b ∷ w) Quoted.Bad o h k = absurd o

pub values : ValuesShort
values w h = omega (arith, short w (Quoted.Plain 0) tt h (omega arith))
