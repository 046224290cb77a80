-- A listing holds as many radii as fit.
use Rattle.std.proofs.Common.{◌≡◌, ℕ, ◌+◌, List, [], ◌∷◌, ◌++◌, map, length, take, sym, refl, ap, ◌∙◌, append_assoc, arith, length-append}
use lib.ListN.{length-map}
use Rattle.std.proofs.lemmas.List.{take_at, take-map}
use Rattle.copying.specs.declared.answers.Ending.{Ending}
use Rattle.copying.specs.declared.answers.Ending.TheVariants.{AllCopied, NoSpare}
use Rattle.copying.specs.Copies.{copied, ends}
use Rattle.copying.specs.Endings.{ending_number}
use Rattle.copying.proofs.AllLines.{moved_so}
use Rattle.host.specs.Calls.{all_fed, fed}
use Rattle.host.specs.Meaning.{Meaning}
use Rattle.numeral.specs.Numerals.{numeral}
use Rattle.trace_listing.specs.Listings.{AsManyAsFit, EndsAfter, copied_listing, pile_start, radius_text, summary}

fed_append : (xs ys : List (List ℕ)) → all_fed (xs ++ ys) ≡ all_fed xs ++ all_fed ys
fed_append [] ys = refl
fed_append (x ∷ xs) ys = ap (λ z. fed x ++ z) (fed_append xs ys) ∙ sym (append_assoc (fed x) (all_fed xs) (all_fed ys))

-- the first radii and their lines
first_lines : (rs : List ℕ) (went rest : List (List ℕ)) → map numeral rs ≡ went ++ rest → radius_text (take (length went) rs) ≡ all_fed went
first_lines rs went rest e =
    ap all_fed (sym (take-map numeral (length went) rs) ∙ ap (take (length went)) e ∙ take_at went rest (length went) refl)

-- one radius more is one line more
next_line : (rs : List ℕ) (went rest : List (List ℕ)) (l : List ℕ) → map numeral rs ≡ went ++ (l ∷ rest) → length (radius_text (take (length went + 1) rs)) ≡ length (all_fed went) + (length l + 1)
next_line rs went rest l e =
    let n : length (went ++ (l ∷ [])) ≡ length went + 1 = length-append went (l ∷ []) in
    let r = first_lines rs (went ++ (l ∷ [])) rest (e ∙ sym (append_assoc went (l ∷ []) rest)) in
    rw (← n, r, fed_append) (simp length-append (omega arith))

-- the reason that copying told is the listing's own
ends_after : (rs : List ℕ) (went rest : List (List ℕ)) (e : Ending) (spare : ℕ) → map numeral rs ≡ went ++ rest → spare + length (all_fed went) ≡ 4096 → ends e rest spare → EndsAfter (length went) rs e
ends_after rs went [] AllCopied spare m s h =
    grind (arith, length-append, length-map {A = ℕ} rs numeral, ap length m)
ends_after rs went (l ∷ ls) AllCopied spare m s h = absurd h
ends_after rs went [] NoSpare spare m s h = absurd h
ends_after rs went (l ∷ ls) NoSpare spare m s h =
    let k = ap length m in
    let n = length-map rs numeral in
    let a = length-append went (l ∷ ls) in
    let t = next_line rs went ls l m in
    (omega arith, omega arith)

pub as_many : (rs : List ℕ) (a : Meaning) → a.lines ≡ map numeral rs → AsManyAsFit rs (copied_listing (copied a pile_start))
as_many rs a e =
    let m = moved_so a pile_start in
    let all = copied a pile_start in
    let went = m.went in
    let split : map numeral rs ≡ went ++ all.source.lines = sym e ∙ m.in_order in
    let first = first_lines rs went all.source.lines split in
    let text : radius_text (take all.answer.count rs) ≡ all_fed went = rw m.counted first in
    let s = m.spent in
    record {
      count = all.answer.count;
      ending = all.answer.ending;
      whole = rw text (ap (λ x. x ++ summary (ending_number all.answer.ending) all.answer.count) m.printed);
      within = rw text (omega arith);
      ends_so = rw m.counted (ends_after rs went all.source.lines all.answer.ending all.target.spare split s m.ended);
    }
