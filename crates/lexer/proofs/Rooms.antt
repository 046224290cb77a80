-- Tokens where only so many levels can be open.
use Rattle.std.proofs.Common.{◌≡◌, ℕ, zero, suc, ◌+◌, ◌-◌, ◌<◌, ◌≤◌, Bool, true, false, cond, List, [], ◌∷◌, ◌++◌, length, get_or, take, Some, None, Option, refl, ap, ◌∙◌, arith, length-take}
use Rattle.std.proofs.lemmas.List.{length-reverse}
use Rattle.std.proofs.lemmas.Bool.{true≢false, cond-true, cond-false, eq-eqb, ne_eqb}
use Rattle.stack.specs.Held.{held, room}
use Rattle.stack.specs.declared.Stack.{Stack}
use Rattle.lexis.specs.Bytes.{class_of}
use Rattle.lexis.specs.Lines.{Move, in_line, choose, level_of, settle, is_fault, fresh_by, inside_by, move, closing, ending, lex, tokens}
use Rattle.lexis.specs.Scans.{scan_of, scan_by, named, numbered, texted, marked}
use Rattle.lexis.specs.Tokens.{Tok}
use Rattle.lexis.specs.declared.bytes.Class.{Class}
use Rattle.lexis.specs.declared.bytes.Class.TheVariants.{Blank, LineEnd, Hash, Letter, Digit, Quote, Mark, Other}
use Rattle.lexis.specs.declared.faults.Fault.{Fault}
use Rattle.lexis.specs.declared.lines.Level.{Level}
use Rattle.lexis.specs.declared.lines.Mode.{Mode}
use Rattle.lexis.specs.declared.tokens.Keyword.{Keyword}
use Rattle.lexis.specs.declared.tokens.Symbol.{Symbol}
use Rattle.lexer.specs.Room.{within, free_after, Enough}

-- INDENT and DEDENT
abbrev pub is_level : Tok → Bool
is_level (Tok.name w) = false
is_level (Tok.str w) = false
is_level (Tok.int n) = false
is_level (Tok.keyword k) = false
is_level (Tok.symbol o) = false
is_level Tok.newline = false
is_level Tok.indent = true
is_level Tok.dedent = true
is_level Tok.done = false
is_level (Tok.fault f) = false

pub within_plain : (free p : ℕ) (t : Tok) (ts : List (ℕ × Tok)) → is_level t ≡ false → within free ((p, t) ∷ ts) ≡ (p, t) ∷ within free ts
within_plain free p (Tok.name w) ts e = refl
within_plain free p (Tok.str w) ts e = refl
within_plain free p (Tok.int n) ts e = refl
within_plain free p (Tok.keyword k) ts e = refl
within_plain free p (Tok.symbol o) ts e = refl
within_plain free p Tok.newline ts e = refl
within_plain free p Tok.indent ts e = absurd (true≢false e)
within_plain free p Tok.dedent ts e = absurd (true≢false e)
within_plain free p Tok.done ts e = refl
within_plain free p (Tok.fault f) ts e = refl

pub within_indent : (free p : ℕ) (ts : List (ℕ × Tok)) → 0 < free → within free ((p, Tok.indent) ∷ ts) ≡ (p, Tok.indent) ∷ within (free - 1) ts
within_indent free p ts h = cond-false _ _ _ (ne_eqb free 0 (λ e. omega arith))

pub within_full : (free p : ℕ) (ts : List (ℕ × Tok)) → free ≡ 0 → within free ((p, Tok.indent) ∷ ts) ≡ (p, Tok.fault Fault.Indentation) ∷ []
within_full free p ts e = cond-true _ _ _ (eq-eqb free 0 e)

pub held_fits : (s : Stack ℕ) → length (held s) ≤ room s
held_fits s = omega (arith, length-reverse (take s.len s.slots.now), length-take s.len s.slots.now)

-- a scanned token is neither INDENT nor DEDENT
named_plain : (o : Option Keyword) (w : List ℕ) → is_level (named o w) ≡ false
named_plain (Some k) w = refl
named_plain None w = refl

numbered_plain : (o : Option ℕ) → is_level (numbered o) ≡ false
numbered_plain (Some v) = refl
numbered_plain None = refl

texted_plain : (r : List ℕ) (o : Option ℕ) → is_level (texted r o).0 ≡ false
texted_plain r (Some e) = refl
texted_plain r None = refl

marked_plain : (o : Option (Symbol × ℕ)) → is_level (marked o).0 ≡ false
marked_plain (Some o) = refl
marked_plain None = refl

by_class : (k : Class) (r : List ℕ) → is_level (scan_by k r).0 ≡ false
by_class Blank r = refl
by_class LineEnd r = refl
by_class Hash r = refl
by_class Letter r = named_plain _ _
by_class Digit r = numbered_plain _
by_class Quote r = texted_plain r _
by_class Mark r = marked_plain _
by_class Other r = refl

pub scan_plain : (r : List ℕ) → is_level (scan_of r).0 ≡ false
scan_plain r = by_class (class_of (get_or r 0 0)) r

-- how many INDENTs there are
abbrev count_of : Tok → ℕ
count_of (Tok.name w) = 0
count_of (Tok.str w) = 0
count_of (Tok.int n) = 0
count_of (Tok.keyword k) = 0
count_of (Tok.symbol o) = 0
count_of Tok.newline = 0
count_of Tok.indent = 1
count_of Tok.dedent = 0
count_of Tok.done = 0
count_of (Tok.fault f) = 0

abbrev indents : List (ℕ × Tok) → ℕ
indents [] = 0
indents (x ∷ xs) = count_of x.1 + indents xs

indents_append : (xs ys : List (ℕ × Tok)) → indents (xs ++ ys) ≡ indents xs + indents ys
indents_append [] ys = omega arith
indents_append (x ∷ xs) ys = omega (arith, indents_append xs ys)

plain_count : (t : Tok) → is_level t ≡ false → count_of t ≡ 0
plain_count (Tok.name w) e = refl
plain_count (Tok.str w) e = refl
plain_count (Tok.int n) e = refl
plain_count (Tok.keyword k) e = refl
plain_count (Tok.symbol o) e = refl
plain_count Tok.newline e = refl
plain_count Tok.indent e = absurd (true≢false e)
plain_count Tok.dedent e = absurd (true≢false e)
plain_count Tok.done e = refl
plain_count (Tok.fault f) e = refl

-- with slots for all of the INDENTs, nothing changes
abbrev GoesOn : ℕ → ℕ → Tok → List (ℕ × Tok) → Type 0
GoesOn free p t ts = count_of t + indents ts ≤ free → (indents ts ≤ free_after t free → within (free_after t free) ts ≡ ts) → within free ((p, t) ∷ ts) ≡ (p, t) ∷ ts

goes_on : (free p : ℕ) (t : Tok) (ts : List (ℕ × Tok)) → GoesOn free p t ts
goes_on free p (Tok.name w) ts h more = ap (λ l. (p, Tok.name w) ∷ l) (more (omega arith))
goes_on free p (Tok.str w) ts h more = ap (λ l. (p, Tok.str w) ∷ l) (more (omega arith))
goes_on free p (Tok.int n) ts h more = ap (λ l. (p, Tok.int n) ∷ l) (more (omega arith))
goes_on free p (Tok.keyword k) ts h more = ap (λ l. (p, Tok.keyword k) ∷ l) (more (omega arith))
goes_on free p (Tok.symbol o) ts h more = ap (λ l. (p, Tok.symbol o) ∷ l) (more (omega arith))
goes_on free p Tok.newline ts h more = ap (λ l. (p, Tok.newline) ∷ l) (more (omega arith))
goes_on free p Tok.indent ts h more = within_indent free p ts (omega arith) ∙ ap (λ l. (p, Tok.indent) ∷ l) (more (omega arith))
goes_on free p Tok.dedent ts h more = ap (λ l. (p, Tok.dedent) ∷ l) (more (omega arith))
goes_on free p Tok.done ts h more = ap (λ l. (p, Tok.done) ∷ l) (more (omega arith))
goes_on free p (Tok.fault f) ts h more = ap (λ l. (p, Tok.fault f) ∷ l) (more (omega arith))

within_all : (free : ℕ) (ts : List (ℕ × Tok)) → indents ts ≤ free → within free ts ≡ ts
within_all free [] h = refl
within_all free (x ∷ ts) h = goes_on free x.0 x.1 ts h (within_all (free_after x.1 free) ts)

module _ (p c : ℕ) (s : Tok × ℕ) (e : count_of s.0 ≡ 0) where
  choose_one : (k : Level) (ls : List ℕ) (v : Move) → indents v.out ≤ 1 → indents (choose k p c s ls v).out ≤ 1
  choose_one Level.Same ls v h = omega arith
  choose_one Level.Deeper ls v h = omega arith
  choose_one Level.Shallower ls v h = omega arith
  choose_one Level.Nowhere ls v h = omega arith

  settle_one : (ls : List ℕ) → indents (settle p c s ls).out ≤ 1
  settle_one [] = choose_one (level_of c []) [] (in_line p [] s) (omega arith)
  settle_one (l ∷ ls) = choose_one (level_of c (l ∷ ls)) (l ∷ ls) (settle p c s ls) (settle_one ls)

  begun_one : (t : Bool) (ls : List ℕ) → indents (cond t (in_line p ls s) (settle p c s ls)).out ≤ 1
  begun_one true ls = omega arith
  begun_one false ls = settle_one ls

scan_count : (r : List ℕ) → count_of (scan_of r).0 ≡ 0
scan_count r = plain_count (scan_of r).0 (scan_plain r)

fresh_one : (k : Class) (p c : ℕ) (ls r : List ℕ) → indents (fresh_by k p c ls r).out ≤ 1
fresh_one Blank p c ls r = omega arith
fresh_one LineEnd p c ls r = omega arith
fresh_one Hash p c ls r = omega arith
fresh_one Letter p c ls r = begun_one p c (scan_of r) (scan_count r) (is_fault (scan_of r).0) ls
fresh_one Digit p c ls r = begun_one p c (scan_of r) (scan_count r) (is_fault (scan_of r).0) ls
fresh_one Quote p c ls r = begun_one p c (scan_of r) (scan_count r) (is_fault (scan_of r).0) ls
fresh_one Mark p c ls r = begun_one p c (scan_of r) (scan_count r) (is_fault (scan_of r).0) ls
fresh_one Other p c ls r = begun_one p c (scan_of r) (scan_count r) (is_fault (scan_of r).0) ls

inside_one : (k : Class) (p : ℕ) (ls r : List ℕ) → indents (inside_by k p ls r).out ≤ 1
inside_one Blank p ls r = omega arith
inside_one LineEnd p ls r = omega arith
inside_one Hash p ls r = omega arith
inside_one Letter p ls r = omega (arith, scan_count r)
inside_one Digit p ls r = omega (arith, scan_count r)
inside_one Quote p ls r = omega (arith, scan_count r)
inside_one Mark p ls r = omega (arith, scan_count r)
inside_one Other p ls r = omega (arith, scan_count r)

move_one : (m : Mode) (p : ℕ) (ls r : List ℕ) → indents (move m ls p r).out ≤ 1
move_one (Mode.Fresh c) p ls r = fresh_one (class_of (get_or r 0 0)) p c ls r
move_one Mode.Inside p ls r = inside_one (class_of (get_or r 0 0)) p ls r
move_one Mode.Over p ls r = omega arith

closing_none : (p : ℕ) (ls : List ℕ) → indents (closing p ls) ≡ 0
closing_none p [] = refl
closing_none p (l ∷ ls) = omega (arith, closing_none p ls)

ending_none : (m : Mode) (p : ℕ) (ls : List ℕ) → indents (ending m p ls) ≡ 0
ending_none (Mode.Fresh c) p ls = closing_none p ls
ending_none Mode.Inside p ls = omega (arith, closing_none p ls)
ending_none Mode.Over p ls = refl

few : (bs : List ℕ) (m : Mode) (ls : List ℕ) (k p : ℕ) → indents (lex m ls k p bs) ≤ length bs
unfolding lex
few [] m ls zero p = omega (arith, ending_none m p ls)
few [] m ls (suc k) p = omega (arith, ending_none m p ls)
few (b ∷ bs) m ls (suc k) p = let h = few bs m ls k (p + 1) in omega arith
few (b ∷ bs) m ls zero p =
    let v : Move = move m ls p (b ∷ bs) in
    let one : indents v.out ≤ 1 = move_one m p ls (b ∷ bs) in
    let more : indents (lex v.mode v.levels v.skip (p + 1) bs) ≤ length bs = few bs v.mode v.levels v.skip (p + 1) in
    omega (arith, indents_append v.out (lex v.mode v.levels v.skip (p + 1) bs))

pub enough : Enough
enough s n h = let k = few s (Mode.Fresh 0) [] 0 0 in within_all n (tokens s) (omega arith)
