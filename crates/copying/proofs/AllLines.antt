-- Copying loses nothing and doubles nothing.
use Rattle.std.proofs.Common.{◌≡◌, ℕ, ◌+◌, ◌≤◌, Bool, true, false, cond, ltb, List, [], ◌∷◌, ◌++◌, length, sym, refl, ap, ◌∙◌, subst, append_assoc, arith, length-append, ltb-false, ltb-true}
use Rattle.std.proofs.lemmas.List.{append-nil}
use Rattle.host.specs.Meaning.{Meaning}
use Rattle.host.specs.Calls.{all_fed, fed, with_line, without_first}
use Rattle.copying.specs.declared.answers.Ending.{Ending}
use Rattle.copying.specs.declared.answers.Ending.TheVariants.{AllCopied, NoSpare}
use Rattle.copying.specs.Copies.{All, Moved, copied, copied_from, ends}

-- `Moved`, after n lines that went over before
record After (n : ℕ) (a b : Meaning) (all : All) : Type 0 where
  went : List (List ℕ)
  in_order : a.lines ≡ went ++ all.source.lines
  counted : all.answer.count ≡ n + length went
  printed : all.target.printed ≡ b.printed ++ all_fed went
  spent : all.target.spare + length (all_fed went) ≡ b.spare
  ended : ends all.answer.ending all.source.lines all.target.spare
  source_printed : all.source.printed ≡ a.printed
  source_spare : all.source.spare ≡ a.spare
  target_lines : all.target.lines ≡ b.lines

-- no line more goes over
none_more : (n : ℕ) (a b : Meaning) (e : Ending) → ends e a.lines b.spare → After n a b (record { answer = record { count = n; ending = e }; source = a; target = b })
none_more n a b e h = record {
  went = [];
  in_order = refl;
  counted = omega arith;
  printed = sym (append-nil b.printed);
  spent = omega arith;
  ended = h;
  source_printed = refl;
  source_spare = refl;
  target_lines = refl;
}

length_fed : (l : List ℕ) (rest : List ℕ) → length (fed l ++ rest) ≡ length l + 1 + length rest
length_fed l rest = simp length-append (omega arith)

-- one line more goes over, and then those that go over after it
one_more : (n : ℕ) (l : List ℕ) (ls : List (List ℕ)) (a b : Meaning) (all : All) → a.lines ≡ l ∷ ls → length l + 1 ≤ b.spare → After (n + 1) (without_first a ls) (with_line b l) all → After n a b all
one_more n l ls a b all e h r =
    let f = length_fed l (all_fed r.went) in
    let s = r.spent in
    let k = r.counted in
    record {
      went = l ∷ r.went;
      in_order = e ∙ ap (λ x. l ∷ x) r.in_order;
      counted = omega arith;
      printed = r.printed ∙ append_assoc b.printed (fed l) (all_fed r.went);
      spent = omega arith;
      ended = r.ended;
      source_printed = r.source_printed;
      source_spare = r.source_spare;
      target_lines = r.target_lines;
    }

abbrev tested : ℕ → List ℕ → List (List ℕ) → Meaning → Meaning → Bool → All
tested n l ls a b t = cond t (record { answer = record { count = n; ending = NoSpare }; source = a; target = b }) (copied_from (n + 1) ls (without_first a ls) (with_line b l))

by_test : (n : ℕ) (l : List ℕ) (ls : List (List ℕ)) (a b : Meaning) → a.lines ≡ l ∷ ls → After (n + 1) (without_first a ls) (with_line b l) (copied_from (n + 1) ls (without_first a ls) (with_line b l)) → (t : Bool) → ltb b.spare (length l + 1) ≡ t → After n a b (tested n l ls a b t)
by_test n l ls a b e later true h = none_more n a b NoSpare (subst (λ x. ends NoSpare x b.spare) (sym e) (ltb-true b.spare (length l + 1) h))
by_test n l ls a b e later false h = one_more n l ls a b (copied_from (n + 1) ls (without_first a ls) (with_line b l)) e (ltb-false b.spare (length l + 1) h) later

after : (n : ℕ) (ls : List (List ℕ)) (a b : Meaning) → a.lines ≡ ls → After n a b (copied_from n ls a b)
after n [] a b e = none_more n a b AllCopied (subst (λ x. ends AllCopied x b.spare) (sym e) tt)
after n (l ∷ ls) a b e =
    by_test n l ls a b e (after (n + 1) ls (without_first a ls) (with_line b l) refl) (ltb b.spare (length l + 1)) refl

-- copying loses no line and doubles none
pub moved_so : (a b : Meaning) → Moved a b (copied a b).answer (copied a b).source (copied a b).target
moved_so a b =
    let r = after 0 a.lines a b refl in
    let k = r.counted in
    record {
      went = r.went;
      in_order = r.in_order;
      counted = omega arith;
      printed = r.printed;
      spent = r.spent;
      ended = r.ended;
      source_printed = r.source_printed;
      source_spare = r.source_spare;
      target_lines = r.target_lines;
    }

pub moved : (a b : Meaning) (all : All) → copied a b ≡ all → Moved a b all.answer all.source all.target
moved a b all e = subst (λ x. Moved a b x.answer x.source x.target) e (moved_so a b)
