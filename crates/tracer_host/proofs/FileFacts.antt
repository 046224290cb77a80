-- A file without a flaw is the file of its radii.
use Rattle.std.proofs.Common.{◌≡◌, ℕ, ◌+◌, ◌-◌, ◌*◌, ◌/◌, ◌%◌, ◌<◌, true, List, [], ◌∷◌, length, drop, None, refl, arith}
use Rattle.tracer_host.specs.Files.{FilesExactly, all_below, file_of, words}
use Rattle.tracer_host.specs.Traces.{radii_of, trace_flaw}

word_back : (n : ℕ) → n / 256 * 256 + n % 256 ≡ n
word_back n = omega arith

words_back : (rs : List ℕ) → radii_of (words rs) ≡ rs
words_back [] = refl
words_back (r ∷ rs) = let h = words_back rs in let e = word_back r in cc

length_words : (rs : List ℕ) → length (words rs) ≡ 2 * length rs
length_words [] = refl
length_words (r ∷ rs) = let h = length_words rs in omega arith

sound : (rs : List ℕ) → all_below 65536 rs ≡ true → length rs < 65536 → trace_flaw (file_of rs) ≡ None
sound rs small few =
    let l = length_words rs in
    let c = word_back (length rs) in
    grind arith

-- two bytes of a word
high : (h l : ℕ) → l < 256 → (h * 256 + l) / 256 ≡ h
high h l b = omega arith

low : (h l : ℕ) → l < 256 → (h * 256 + l) % 256 ≡ l
low h l b = omega arith

below_parts : (x y : ℕ) (bs : List ℕ) → all_below 256 (x ∷ y ∷ bs) ≡ true → (y < 256) × (all_below 256 bs ≡ true)
below_parts x y bs b = (grind arith, grind arith)

-- an even number of bytes is the words that it spells
spelled : (bs : List ℕ) (n : ℕ) → all_below 256 bs ≡ true → length bs ≡ 2 * n → words (radii_of bs) ≡ bs
spelled [] n b e = refl
spelled (x ∷ []) n b e = absurd (omega arith)
spelled (x ∷ y ∷ bs) n b e =
    let parts = below_parts x y bs b in
    let h = spelled bs (n - 1) parts.1 (omega arith) in
    let p = high x y parts.0 in
    let q = low x y parts.0 in
    cc

length_radii : (bs : List ℕ) (n : ℕ) → length bs ≡ 2 * n → length (radii_of bs) ≡ n
length_radii [] n e = omega arith
length_radii (x ∷ []) n e = absurd (omega arith)
length_radii (x ∷ y ∷ bs) n e = let h = length_radii bs (n - 1) (omega arith) in omega arith

-- what a file of 7 bytes or more without a flaw tells of its parts
record Parts (m0 m1 m2 v1 v0 c1 c0 : ℕ) (rs : List ℕ) : Type 0 where
  mark : (m0 ≡ 82) × (m1 ≡ 65) × (m2 ≡ 68)
  version : (v1 ≡ 0) × (v0 ≡ 1)
  low_byte : c0 < 256
  length_is : length rs ≡ 2 * (c1 * 256 + c0)
  bytes : all_below 256 rs ≡ true

facts_of : (m0 m1 m2 v1 v0 c1 c0 : ℕ) (rs : List ℕ) → all_below 256 (m0 ∷ m1 ∷ m2 ∷ v1 ∷ v0 ∷ c1 ∷ c0 ∷ rs) ≡ true → trace_flaw (m0 ∷ m1 ∷ m2 ∷ v1 ∷ v0 ∷ c1 ∷ c0 ∷ rs) ≡ None → Parts m0 m1 m2 v1 v0 c1 c0 rs
facts_of m0 m1 m2 v1 v0 c1 c0 rs b e = record {
  mark = (grind arith, grind arith, grind arith);
  version = (grind arith, grind arith);
  low_byte = grind arith;
  length_is = grind arith;
  bytes = grind arith;
}

only : (bs : List ℕ) → all_below 256 bs ≡ true → trace_flaw bs ≡ None → file_of (radii_of (drop 7 bs)) ≡ bs
only [] b e = grind arith
only (m0 ∷ []) b e = grind arith
only (m0 ∷ m1 ∷ []) b e = grind arith
only (m0 ∷ m1 ∷ m2 ∷ []) b e = grind arith
only (m0 ∷ m1 ∷ m2 ∷ v1 ∷ []) b e = grind arith
only (m0 ∷ m1 ∷ m2 ∷ v1 ∷ v0 ∷ []) b e = grind arith
only (m0 ∷ m1 ∷ m2 ∷ v1 ∷ v0 ∷ c1 ∷ []) b e = grind arith
only (m0 ∷ m1 ∷ m2 ∷ v1 ∷ v0 ∷ c1 ∷ c0 ∷ rs) b e =
    let f = facts_of m0 m1 m2 v1 v0 c1 c0 rs b e in
    let count = c1 * 256 + c0 in
    let n = length_radii rs count f.length_is in
    let s = spelled rs count f.bytes f.length_is in
    let p = high c1 c0 f.low_byte in
    let q = low c1 c0 f.low_byte in
    cc (f.mark.0, f.mark.1, f.mark.2, f.version.0, f.version.1)

pub files_exactly : FilesExactly
files_exactly = record { sound = sound; back = words_back; only = only }
