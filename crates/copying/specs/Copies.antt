-- What copying lines from one host to another answers, and what it leaves of the two.
use Rattle.std.specs.Prelude.{◌≡◌, ℕ, ◌+◌, ◌<◌, cond, List, [], ◌∷◌, ◌++◌, length, Ok, Err, Result, nat_lt}
use Rattle.host.specs.Meaning.{Meaning}
use Rattle.host.specs.Calls.{all_fed, with_line, without_first}
use Rattle.copying.specs.declared.answers.Copied.{Copied}
use Rattle.copying.specs.declared.answers.Ending.{Ending}
use Rattle.copying.specs.declared.answers.Ending.TheVariants.{AllCopied, NoSpare}

-- one line: the answer, and what both hosts then mean
pub record One : Type 0 where
  pub result : Result (Unit {0}) Ending
  pub source : Meaning
  pub target : Meaning

abbrev pub one_of : List (List ℕ) → Meaning → Meaning → One
one_of [] a b = record { result = Err AllCopied; source = a; target = b }
one_of (l ∷ ls) a b =
    cond (nat_lt b.spare (length l + 1))
    (record { result = Err NoSpare; source = a; target = b })
    (record { result = Ok tt; source = without_first a ls; target = with_line b l })

abbrev pub copied_one : Meaning → Meaning → One
copied_one a b = one_of a.lines a b

-- all lines that go over
pub record All : Type 0 where
  pub answer : Copied
  pub source : Meaning
  pub target : Meaning

-- the lines that wait are copied one by one, after n others
abbrev pub copied_from : ℕ → List (List ℕ) → Meaning → Meaning → All
copied_from n [] a b = record { answer = record { count = n; ending = AllCopied }; source = a; target = b }
copied_from n (l ∷ ls) a b =
    cond (nat_lt b.spare (length l + 1))
    (record { answer = record { count = n; ending = NoSpare }; source = a; target = b })
    (copied_from (n + 1) ls (without_first a ls) (with_line b l))

abbrev pub copied : Meaning → Meaning → All
copied a b = copied_from 0 a.lines a b

-- why copying may end with these lines waiting and so much spare: for want of lines, or for want of spare for the next
abbrev pub ends : Ending → List (List ℕ) → ℕ → Type 0
ends AllCopied [] spare = Unit {0}
ends AllCopied (l ∷ ls) spare = ⊥
ends NoSpare [] spare = ⊥
ends NoSpare (l ∷ ls) spare = spare < length l + 1

-- nothing lost, nothing doubled: from hosts that meant a and b to hosts that mean a' and b'
pub record Moved (a b : Meaning) (answer : Copied) (a' b' : Meaning) : Type 0 where
  -- the lines that went over
  pub went : List (List ℕ)
  -- they are the first that waited, in order, and the others still wait
  pub in_order : a.lines ≡ went ++ a'.lines
  pub counted : answer.count ≡ length went
  -- they were printed, in order, each with a line feed, and nothing else was
  pub printed : b'.printed ≡ b.printed ++ all_fed went
  -- the spare fell by just these bytes
  pub spent : b'.spare + length (all_fed went) ≡ b.spare
  -- copying ended for the reason that is told
  pub ended : ends answer.ending a'.lines b'.spare
  -- the source printed nothing, and the target gave no line
  pub source_printed : a'.printed ≡ a.printed
  pub source_spare : a'.spare ≡ a.spare
  pub target_lines : b'.lines ≡ b.lines
