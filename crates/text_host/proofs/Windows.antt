-- What the first bytes of a text tell of whether its lines are short.
use Rattle.std.proofs.Common.{◌≡◌, ℕ, zero, suc, ◌+◌, ◌<◌, ◌≤◌, Bool, true, false, cond, eqb, List, [], ◌∷◌, length, take, drop, nat_lt, Some, None, sym, refl, ap, ◌∙◌, arith}
use Rattle.std.specs.List.{position, position_or_len}
use Rattle.std.proofs.lemmas.List.{length-take}
use Rattle.host.specs.Meaning.{short_lines}
use Rattle.text_host.specs.Lines.{is_feed, lines_of}
use Rattle.text_host.proofs.LineFacts.{short_is, short_run}

-- few bytes have no long line
few : (n : ℕ) (xs : List ℕ) → n + length xs ≤ 255 → short_run n xs ≡ true
few n [] h = refl
few n (b ∷ bs) h =
    let ends : short_run 0 bs ≡ true = few 0 bs (omega arith) in
    let goes : short_run (suc n) bs ≡ true = few (suc n) bs (omega arith) in
    grind arith

-- with a line feed among the first bytes, the first line is short
fed_step : (n k b : ℕ) (bs : List ℕ) (t : Bool) → eqb b 10 ≡ t → position_or_len is_feed (take (suc k) (b ∷ bs)) < length (take (suc k) (b ∷ bs)) → n + suc k ≤ 256 → (position_or_len is_feed (take k bs) < length (take k bs) → suc n + k ≤ 256 → short_run (suc n) bs ≡ short_run 0 (drop (suc (position_or_len is_feed (take k bs))) bs)) → short_run n (b ∷ bs) ≡ short_run 0 (drop (suc (position_or_len is_feed (take (suc k) (b ∷ bs)))) (b ∷ bs))
fed_step n k b bs true e h l goes =
    let here : position_or_len is_feed (take (suc k) (b ∷ bs)) ≡ 0 = grind arith in
    rw here (grind arith)
fed_step n k b bs false e h l goes =
    let later : position_or_len is_feed (take (suc k) (b ∷ bs)) ≡ suc (position_or_len is_feed (take k bs)) = grind arith in
    rw later (grind arith)

fed : (n k : ℕ) (xs : List ℕ) → position_or_len is_feed (take k xs) < length (take k xs) → n + k ≤ 256 → short_run n xs ≡ short_run 0 (drop (suc (position_or_len is_feed (take k xs))) xs)
fed n zero xs h l = absurd (omega arith)
fed n (suc k) [] h l = absurd (omega arith)
fed n (suc k) (b ∷ bs) h l = fed_step n k b bs (eqb b 10) refl h l (fed (suc n) k bs)

-- with none, it is too long
unfed : (n k : ℕ) (xs : List ℕ) → n ≤ 255 → n + k ≡ 256 → k ≤ length xs → length (take k xs) ≤ position_or_len is_feed (take k xs) → short_run n xs ≡ false
unfed n zero xs s e l h = absurd (omega arith)
unfed n (suc k) [] s e l h = absurd (omega arith)
unfed n (suc zero) (b ∷ bs) s e l h = grind arith
unfed n (suc (suc k)) (b ∷ bs) s e l h =
    let goes : length (take (suc k) bs) ≤ position_or_len is_feed (take (suc k) bs) → short_run (suc n) bs ≡ false = unfed (suc n) (suc k) bs (omega arith) (omega arith) (omega arith) in
    grind arith

pub few_short : (xs : List ℕ) → length xs ≤ 255 → true ≡ short_lines (lines_of xs)
few_short xs h = sym (few 0 xs (omega (arith, h))) ∙ short_is xs

found : (p len n : ℕ) → Some n ≡ cond (nat_lt p len) (Some p) None → (p < len) × (p ≡ n)
found p len n e = grind arith

missed : (p len : ℕ) → None ≡ cond (nat_lt p len) (Some p) None → len ≤ p
missed p len e = grind arith

-- the lines past a line feed among the first 256 bytes are short where all are
pub past_feed : (xs : List ℕ) (n : ℕ) → Some n ≡ position is_feed (take 256 xs) → (n + 1 ≤ length xs) × (n < 256) × (short_lines (lines_of (drop (n + 1) xs)) ≡ short_lines (lines_of xs))
past_feed xs n e =
    let f = found (position_or_len is_feed (take 256 xs)) (length (take 256 xs)) n e in
    let next : suc (position_or_len is_feed (take 256 xs)) ≡ n + 1 = omega (arith, f.1) in
    let same : short_run 0 xs ≡ short_run 0 (drop (n + 1) xs) = fed 0 256 xs f.0 (omega arith) ∙ ap (λ k. short_run 0 (drop k xs)) next in
    let all = length-take 256 xs in
    (omega (arith, f.0, f.1, all), omega (arith, f.0, f.1, all), sym (short_is (drop (n + 1) xs)) ∙ sym same ∙ short_is xs)

-- without one there is a long line
pub no_feed : (xs : List ℕ) → 256 ≤ length xs → None ≡ position is_feed (take 256 xs) → false ≡ short_lines (lines_of xs)
no_feed xs l e = sym (unfed 0 256 xs (omega arith) refl l (missed (position_or_len is_feed (take 256 xs)) (length (take 256 xs)) e)) ∙ short_is xs
