-- What the calls of a host answer, and what they leave of its meaning and of the place given.
use Rattle.std.specs.Prelude.{ℕ, ◌+◌, ◌-◌, cond, List, [], ◌∷◌, ◌++◌, length, drop, Some, None, Ok, Err, Option, Result, nat_lt}
use Rattle.host.specs.declared.refusals.Refusal.{Refusal}
use Rattle.host.specs.declared.refusals.Refusal.TheVariants.{NoLine, NoSpare, TooLong}
use Rattle.host.specs.Meaning.{Meaning}

-- the number that the panel shows for a refusal
abbrev pub refusal_number : Refusal → ℕ
refusal_number NoLine = 31
refusal_number NoSpare = 32
refusal_number TooLong = 33

-- `waits`: the length of the first line
abbrev pub first_length : List (List ℕ) → Option ℕ
first_length [] = None
first_length (l ∷ ls) = Some (length l)

-- a host without its first line; the lines after it are ls
abbrev pub without_first : Meaning → List (List ℕ) → Meaning
without_first m ls = record { lines = ls; printed = m.printed; spare = m.spare }

-- `take`: the answer, the meaning after, and what the place then holds
pub record Taken : Type 0 where
  pub result : Result ℕ Refusal
  pub after : Meaning
  pub place : List ℕ

abbrev pub taken_line : Meaning → List (List ℕ) → List ℕ → Taken
taken_line m [] place = record { result = Err NoLine; after = m; place = place }
taken_line m (l ∷ ls) place =
    cond (nat_lt (length place) (length l))
    (record { result = Err TooLong; after = m; place = place })
    (record { result = Ok (length l); after = without_first m ls; place = l ++ drop (length l) place })

abbrev pub taken : Meaning → List ℕ → Taken
taken m place = taken_line m m.lines place

-- whether a line of this length may be printed where so much is spare
abbrev pub admitted : ℕ → ℕ → Result (Unit {0}) Refusal
admitted spare len = cond (nat_lt spare (len + 1)) (Err NoSpare) (cond (nat_lt 255 len) (Err TooLong) (Ok tt))

-- a line with its line feed
abbrev pub fed : List ℕ → List ℕ
fed line = line ++ (10 ∷ [])

-- lines, each with its line feed
abbrev pub all_fed : List (List ℕ) → List ℕ
all_fed [] = []
all_fed (l ∷ ls) = fed l ++ all_fed ls

-- a host after a line was printed
abbrev pub with_line : Meaning → List ℕ → Meaning
with_line m line = record { lines = m.lines; printed = m.printed ++ fed line; spare = m.spare - (length line + 1) }

-- `put`: the answer, and the meaning after
pub record Put : Type 0 where
  pub result : Result (Unit {0}) Refusal
  pub after : Meaning

abbrev pub put_line : Meaning → List ℕ → Put
put_line m line =
    cond (nat_lt m.spare (length line + 1))
    (record { result = Err NoSpare; after = m })
    (cond (nat_lt 255 (length line))
    (record { result = Err TooLong; after = m })
    (record { result = Ok tt; after = with_line m line }))
