-- The lines of a text, cut one by one.
use Rattle.std.proofs.Common.{◌≡◌, ℕ, zero, suc, ◌+◌, ◌<◌, ◌≤◌, Bool, true, false, cond, eqb, List, [], ◌∷◌, length, take, drop, refl, sym, subst, ◌∙◌, arith, ltb, not, Some, None}
use Rattle.std.specs.List.{after_first, before_first, position, position_or_len}
use Rattle.std.specs.Option.{unwrap_or}
use Rattle.std.proofs.lemmas.List.Folds.{length-prefix_len}
use Rattle.std.proofs.lemmas.List.Sums.{prefix_len-le-length}
use Rattle.text_host.specs.Lines.{is_feed, lines_of}
use Rattle.text_host.specs.Texts.{text_flaw}
use Rattle.host.specs.Meaning.{Bounded, short_lines}
use Rattle.host.specs.Sound.{LeftOfSound, empty_or_sound}

-- a text that is not empty is its first line, and the lines after that and its line feed
lines_split : (b : ℕ) (bs : List ℕ) → lines_of (b ∷ bs) ≡ before_first is_feed (b ∷ bs) ∷ lines_of (after_first is_feed (b ∷ bs))
lines_split b [] = grind arith
lines_split b (x ∷ xs) = let h = lines_split x xs in grind arith

or_all : (n len : ℕ) → n ≤ len → unwrap_or (cond (ltb n len) (Some n) None) len ≡ n
or_all n len h = grind arith

-- the bytes up to the first line feed are the first line
pub first_taken : (ys : List ℕ) (n : ℕ) → n ≡ unwrap_or (position is_feed ys) (length ys) → 0 < length ys → lines_of ys ≡ take n ys ∷ lines_of (drop (length (take n ys) + 1) ys)
first_taken [] n e h = absurd (omega arith)
first_taken (b ∷ bs) n e h =
    let at = position_or_len is_feed (b ∷ bs) in
    let same : n ≡ at = e ∙ or_all at (length (b ∷ bs)) (prefix_len-le-length (λ x. not (is_feed x)) (b ∷ bs)) in
    let taken : length (take at (b ∷ bs)) ≡ at = length-prefix_len (λ x. not (is_feed x)) (b ∷ bs) in
    rw (same, taken) (lines_split b bs)

-- whether no line is over 255 bytes, where n bytes of the first one are read already
abbrev pub short_run : ℕ → List ℕ → Bool
short_run n [] = true
short_run n (b ∷ bs) = cond (eqb b 10) (short_run 0 bs) (cond (ltb n 255) (short_run (suc n) bs) false)

-- the first of some lines, after n bytes of it, and the others
abbrev pub short_after : ℕ → List (List ℕ) → Bool
short_after n [] = true
short_after n (l ∷ ls) = cond (ltb 255 (n + length l)) false (short_lines ls)

short_after_none : (ls : List (List ℕ)) → short_after 0 ls ≡ short_lines ls
short_after_none [] = refl
short_after_none (l ∷ ls) = grind arith

pub short_run_is : (n : ℕ) (xs : List ℕ) → n ≤ 255 → short_run n xs ≡ short_after n (lines_of xs)
short_run_is n [] h = refl
short_run_is n (b ∷ bs) h =
    let ends = short_run_is 0 bs (omega arith) ∙ short_after_none (lines_of bs) in
    let goes : n < 255 → short_run (suc n) bs ≡ short_after (suc n) (lines_of bs) = λ p. short_run_is (suc n) bs (omega arith) in
    grind arith

-- the test of the code is the one that the contract states
pub short_is : (xs : List ℕ) → short_run 0 xs ≡ short_lines (lines_of xs)
short_is xs = short_run_is 0 xs (omega arith) ∙ short_after_none (lines_of xs)

bounded_tail : (b : ℕ) (bs : List ℕ) → Bounded (lines_of (b ∷ bs)) → Bounded (lines_of bs)
bounded_tail b bs h = grind arith

-- the lines from any place on are short too
bounded_drop : (n : ℕ) (xs : List ℕ) → Bounded (lines_of xs) → Bounded (lines_of (drop n xs))
bounded_drop zero xs h = h
bounded_drop (suc n) [] h = h
bounded_drop (suc n) (b ∷ bs) h = bounded_drop n bs (bounded_tail b bs h)

sound_bounded : (xs : List ℕ) → empty_or_sound text_flaw xs ≡ true → Bounded (lines_of xs)
sound_bounded [] h = refl
sound_bounded (b ∷ bs) h = grind arith

-- so are those of what is left of a checked text
pub left_bounded : (xs : List ℕ) → LeftOfSound text_flaw xs → Bounded (lines_of xs)
left_bounded xs l = subst (λ ys. Bounded (lines_of ys)) (sym l.rest) (bounded_drop l.gone l.whole (sound_bounded l.whole l.sound))
