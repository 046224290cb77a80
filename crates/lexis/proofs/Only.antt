-- The laws leave no other tokens.
use Rattle.std.proofs.Common.{◌≡◌, ℕ, ◌+◌, ◌<◌, ◌≤◌, Bool, true, false, eqb, ltb, ◌⊎◌, List, [], ◌∷◌, length, get_or, take, drop, sym, refl, ap, ◌∙◌, subst, inl, inr, ⊎_elim, arith, length-drop}
use Rattle.std.specs.List.{prefix_len}
use Rattle.std.proofs.lemmas.List.{length-take-le, get_or_past}
use Rattle.std.proofs.lemmas.Bool.{true≢false, ltb-true, eqb-true, or_cases, or_left, or_right}
use Rattle.lexis.specs.Bytes.{class_of, among}
use Rattle.lexis.specs.Laws.{TokensOnly}
use Rattle.lexis.specs.Levels.{column, Settles, Leveled}
use Rattle.lexis.specs.Lines.{is_fault, is_open, top_level}
use Rattle.lexis.specs.Reading.{Gap, first_place, fault_next, begins_line, Follows, Reads}
use Rattle.lexis.specs.Runs.{in_run, ends_line, starts}
use Rattle.lexis.specs.Tokens.{Tok}
use Rattle.lexis.specs.Written.{has_bytes, There}
use Rattle.lexis.specs.declared.bytes.Class.{Class}
use Rattle.lexis.specs.declared.bytes.Class.TheVariants.{Blank, LineEnd, Hash, Letter, Digit, Quote, Mark, Other}
use Rattle.lexis.specs.declared.faults.Fault.{Fault}
use Rattle.lexis.specs.declared.lines.Mode.{Mode}
use Rattle.lexis.specs.declared.scans.Run.{Run}
use Rattle.lexis.proofs.Leveling.{Clear, at_start, after_blank, after_end, after_remark, picks_same, picks_deeper, picks_shallower, picks_open, picks_nowhere, below}
use Rattle.lexis.proofs.Longest.{code, kind_some}
use Rattle.lexis.proofs.Rules.{Kept, kept_all, byte_at, class_at, token_at, size_at, comment_at}
use Rattle.lexis.proofs.Whole.{best_whole, scan_there, same_there, there_kind, blamed, scan_fault, fault_alone}

-- gaps
module _ (s : List ℕ) (z : Bool) where
  gap_le : {p q : ℕ} → Gap s z p q → p ≤ q
  gap_le Gap.none = omega arith
  gap_le (Gap.blank e g) = let h = gap_le g in omega arith
  gap_le (Gap.line_end l e g) = let h = gap_le g in omega arith
  gap_le (Gap.remark e g) = let h = gap_le g in omega arith

  -- what is left of a gap past a byte of this class
  abbrev Past : ℕ → ℕ → Class → Type 0
  Past p q Blank = Gap s z (p + 1) q
  Past p q LineEnd = (z ≡ true) × Gap s z (p + 1) q
  Past p q Hash = Gap s z (p + prefix_len (in_run Run.Comment) (drop p s)) q
  Past p q Letter = ⊥
  Past p q Digit = ⊥
  Past p q Quote = ⊥
  Past p q Mark = ⊥
  Past p q Other = ⊥

  abbrev Stepped : ℕ → ℕ → Type 0
  Stepped p q = (p ≡ q) ⊎ Past p q (class_of (get_or s p 0))

  gap_step : {p q : ℕ} → Gap s z p q → Stepped p q
  gap_step Gap.none = inl refl
  gap_step (Gap.blank {p} {q} e g) = inr (subst (λ (k : Class). Past p q k) (sym e) g)
  gap_step (Gap.line_end {p} {q} l e g) = inr (subst (λ (k : Class). Past p q k) (sym e) (l, g))
  gap_step (Gap.remark {p} {q} e g) = inr (subst (λ (k : Class). Past p q k) (sym e) g)

  past_none : (p q : ℕ) (k : Class) → starts k ≡ true → Past p q k → ⊥
  past_none p q Blank e x = true≢false (sym e)
  past_none p q LineEnd e x = true≢false (sym e)
  past_none p q Hash e x = true≢false (sym e)
  past_none p q Letter e x = x
  past_none p q Digit e x = x
  past_none p q Quote e x = x
  past_none p q Mark e x = x
  past_none p q Other e x = x

  no_gap : (p q : ℕ) → starts (class_of (get_or s p 0)) ≡ true → Gap s z p q → p ≡ q
  no_gap p q b g = ⊎_elim (λ e. e) (λ x. absurd (past_none p q (class_of (get_or s p 0)) b x)) (gap_step g)

starts_none : (k : Class) → starts k ≡ false → code k ≡ 0
starts_none Blank e = refl
starts_none LineEnd e = refl
starts_none Hash e = refl
starts_none Letter e = absurd (true≢false e)
starts_none Digit e = absurd (true≢false e)
starts_none Quote e = absurd (true≢false e)
starts_none Mark e = absurd (true≢false e)
starts_none Other e = refl

open_more : (c l : ℕ) (ls : List ℕ) → is_open c ls ≡ true → is_open c (l ∷ ls) ≡ true
open_more c l ls e = ⊎_elim (λ h. or_left (eqb c 0) _ h) (λ h. or_right (eqb c 0) _ (or_right (eqb c l) _ h)) (or_cases (eqb c 0) (among ls c) e)

module _ (s : List ℕ) where
  -- the two laws of a token and those after it
  abbrev Read : Bool → ℕ → ℕ → Tok → List (ℕ × Tok) → Type 0
  Read z p q t xs = Follows s z p q t xs (λ r. Reads s (begins_line t z) r xs)

  abbrev LevelOf : Bool → List ℕ → ℕ → Tok → List (ℕ × Tok) → Type 0
  LevelOf z ls q t xs = Settles s z ls q t xs (λ b k. Leveled s b k xs)

  -- a token without bytes takes none
  no_size : (q n : ℕ) → q + n ≤ length s → take n (drop q s) ≡ [] → n ≡ 0
  no_size q n h e = omega (arith, length-take-le n (drop q s) (omega (arith, length-drop q s)), ap length e)

  goes_on : (z : Bool) (q n : ℕ) (xs : List (ℕ × Tok)) → q + n ≤ length s → take n (drop q s) ≡ [] → Reads s z (q + n) xs → Reads s z q xs
  goes_on z q n xs h e x = let k : q + n ≡ q = omega (arith, no_size q n h e) in subst (λ (j : ℕ). Reads s z j xs) k x

  abbrev there : (z : Bool) (p q : ℕ) (t : Tok) (xs : List (ℕ × Tok)) → has_bytes t ≡ true → Read z p q t xs → There (drop q s)
  there z p q t xs b f = record {
    token = t;
    size = f.size;
    bytes = b;
    some = f.solid b;
    within = omega (arith, f.within, length-drop q s);
    writes = f.writes;
    whole = best_whole t f.size (drop q s) b f.best;
  }

  -- the first of the tokens lies at p, where none can lie
  module _ (p : ℕ) (h : p < length s) (none : There (drop p s) → ⊥) where
    abbrev Stuck : List (ℕ × Tok) → Type 0
    Stuck us = (z : Bool) (ls : List ℕ) (r : ℕ) → (class_of (get_or s p 0) ≡ LineEnd → z ≡ true) → (starts (class_of (get_or s p 0)) ≡ true → fault_next us ≡ false) → first_place us p ≡ p → Reads s z r us → Leveled s z ls us → ⊥

    stuck_at : (t : Tok) (xs : List (ℕ × Tok)) → Stuck xs → (z : Bool) (ls : List ℕ) (r : ℕ) → (class_of (get_or s p 0) ≡ LineEnd → z ≡ true) → (starts (class_of (get_or s p 0)) ≡ true → is_fault t ≡ false) → Read z r p t xs → LevelOf z ls p t xs → ⊥
    stuck_at (Tok.name v) xs more z ls r c n f l = none (there z r p (Tok.name v) xs refl f)
    stuck_at (Tok.str v) xs more z ls r c n f l = none (there z r p (Tok.str v) xs refl f)
    stuck_at (Tok.int v) xs more z ls r c n f l = none (there z r p (Tok.int v) xs refl f)
    stuck_at (Tok.keyword v) xs more z ls r c n f l = none (there z r p (Tok.keyword v) xs refl f)
    stuck_at (Tok.symbol v) xs more z ls r c n f l = none (there z r p (Tok.symbol v) xs refl f)
    stuck_at Tok.newline xs more z ls r c n f l = true≢false (sym (c (f.lies h)) ∙ l.0)
    stuck_at Tok.indent xs more z ls r c n f l = more true (column s p ∷ ls) (p + f.size) (λ _. refl) (λ _. f.lies.2) f.lies.1 (subst (λ (b : Bool). Reads s b (p + f.size) xs) l.0 f.then) l.2
    stuck_at Tok.dedent xs more z ls r c n f l = more true l.1.1 (p + f.size) (λ _. refl) (λ _. f.lies.1) f.lies.0 (subst (λ (b : Bool). Reads s b (p + f.size) xs) l.0 f.then) l.1.4
    stuck_at Tok.done xs more z ls r c n f l = omega (arith, f.lies)
    stuck_at (Tok.fault Fault.Byte) xs more z ls r c n f l = true≢false (n f.lies.1)
    stuck_at (Tok.fault Fault.Number) xs more z ls r c n f l = true≢false (n f.lies.1)
    stuck_at (Tok.fault Fault.Text) xs more z ls r c n f l = true≢false (n f.lies.1)
    stuck_at (Tok.fault Fault.Indentation) xs more z ls r c n f l = true≢false (n f.lies.1)

    stuck : (us : List (ℕ × Tok)) → Stuck us
    stuck [] z ls r c n e f l = l
    stuck (x ∷ xs) z ls r c n e f l = stuck_at x.1 xs (stuck xs) z ls r c n (subst (λ (q : ℕ). Read z r q x.1 xs) e f) (subst (λ (q : ℕ). LevelOf z ls q x.1 xs) e l)

  none_there : (p : ℕ) → starts (class_of (get_or s p 0)) ≡ false → There (drop p s) → ⊥
  none_there p e a =
      let k = there_kind (drop p s) a in
      let c = ap code (ap class_of (byte_at s p)) in
      omega (arith, k, c, starts_none (class_of (get_or s p 0)) e, kind_some a.token a.bytes)

  -- past a byte of a gap
  skip : (z : Bool) (ls : List ℕ) (p r : ℕ) (us : List (ℕ × Tok)) → p < length s → starts (class_of (get_or s p 0)) ≡ false → (class_of (get_or s p 0) ≡ LineEnd → z ≡ true) → ((q : ℕ) → Past s z p q (class_of (get_or s p 0)) → Gap s z r q) → Reads s z p us → Leveled s z ls us → Reads s z r us
  skip z ls p r [] h b c g f l = tt
  skip z ls p r (x ∷ xs) h b c g f l =
      ⊎_elim
      (λ e. absurd (stuck p h (none_there p b) (x ∷ xs) z ls p c (λ a. absurd (true≢false (sym a ∙ b))) (sym e) f l))
      (λ a.
      let k = g x.0 a in
      record { size = f.size; gap = k; past = gap_le s z k; writes = f.writes; best = f.best; lies = f.lies; solid = f.solid; within = f.within; then = f.then })
      (gap_step s z f.gap)

  class_is : (p : ℕ) (k : Class) → class_at s p ≡ k → class_of (get_or s p 0) ≡ k
  class_is p k e = ap class_of (sym (byte_at s p)) ∙ e

  skip_blank : (z : Bool) (ls : List ℕ) (p : ℕ) (us : List (ℕ × Tok)) → p < length s → class_at s p ≡ Blank → Reads s z p us → Leveled s z ls us → Reads s z (p + 1) us
  skip_blank z ls p us h e f l =
      let k = class_is p Blank e in
      skip z ls p (p + 1) us h (ap starts k) (λ a. let n : Blank ≡ LineEnd = sym k ∙ a in cc) (λ q x. subst (λ (j : Class). Past s z p q j) k x) f l

  skip_end : (ls : List ℕ) (p : ℕ) (us : List (ℕ × Tok)) → p < length s → class_at s p ≡ LineEnd → Reads s true p us → Leveled s true ls us → Reads s true (p + 1) us
  skip_end ls p us h e f l =
      let k = class_is p LineEnd e in
      skip true ls p (p + 1) us h (ap starts k) (λ a. refl) (λ q x. (subst (λ (j : Class). Past s true p q j) k x).1) f l

  skip_remark : (z : Bool) (ls : List ℕ) (p : ℕ) (us : List (ℕ × Tok)) → p < length s → class_at s p ≡ Hash → Reads s z p us → Leveled s z ls us → Reads s z (p + comment_at s p) us
  skip_remark z ls p us h e f l =
      let k = class_is p Hash e in
      skip z ls p (p + comment_at s p) us h (ap starts k) (λ a. let n : Hash ≡ LineEnd = sym k ∙ a in cc) (λ q x. subst (λ (j : Class). Past s z p q j) k x) f l

  -- the first token lies at p
  at_head : (z : Bool) (ls : List ℕ) (p : ℕ) (us goal : List (ℕ × Tok)) → ((q : ℕ) → Gap s z p q → p ≡ q) → ((t : Tok) (xs : List (ℕ × Tok)) → Read z p p t xs → LevelOf z ls p t xs → (p, t) ∷ xs ≡ goal) → Reads s z p us → Leveled s z ls us → us ≡ goal
  at_head z ls p [] goal g k f l = absurd l
  at_head z ls p (x ∷ xs) goal g k f l =
      let e : x.0 ≡ p = sym (g x.0 f.gap) in
      ap (λ (q : ℕ). (q, x.1) ∷ xs) e ∙ k x.1 xs (subst (λ (q : ℕ). Read z p q x.1 xs) e f) (subst (λ (q : ℕ). LevelOf z ls q x.1 xs) e l)

  module _ (ls : List ℕ) (p : ℕ) (ts : List (ℕ × Tok)) (h : p < length s) where
    abbrev Laws : Bool → Tok → List (ℕ × Tok) → (List (ℕ × Tok)) → Type 0
    Laws z t xs goal = Read z p p t xs → LevelOf z ls p t xs → (p, t) ∷ xs ≡ goal

    end_stuck : (q : ℕ) → class_at s p ≡ LineEnd → Gap s false p q → p ≡ q
    end_stuck q e g = ⊎_elim (λ a. a) (λ a. absurd (true≢false (sym (subst (λ (k : Class). Past s false p q k) (class_is p LineEnd e) a).0))) (gap_step s false g)

    newline_head : (t : Tok) (xs : List (ℕ × Tok)) → class_at s p ≡ LineEnd → ((us : List (ℕ × Tok)) → Reads s true (p + 1) us → Leveled s true ls us → us ≡ ts) → Laws false t xs ((p, Tok.newline) ∷ ts)
    newline_head (Tok.name v) xs e x f l = absurd (none_there p (ap starts (class_is p LineEnd e)) (there false p p (Tok.name v) xs refl f))
    newline_head (Tok.str v) xs e x f l = absurd (none_there p (ap starts (class_is p LineEnd e)) (there false p p (Tok.str v) xs refl f))
    newline_head (Tok.int v) xs e x f l = absurd (none_there p (ap starts (class_is p LineEnd e)) (there false p p (Tok.int v) xs refl f))
    newline_head (Tok.keyword v) xs e x f l = absurd (none_there p (ap starts (class_is p LineEnd e)) (there false p p (Tok.keyword v) xs refl f))
    newline_head (Tok.symbol v) xs e x f l = absurd (none_there p (ap starts (class_is p LineEnd e)) (there false p p (Tok.symbol v) xs refl f))
    newline_head Tok.newline xs e x f l = ap (λ (ys : List (ℕ × Tok)). (p, Tok.newline) ∷ ys) (x xs (skip_end ls p xs h e (goes_on true p f.size xs f.within f.writes f.then) l.1) l.1)
    newline_head Tok.indent xs e x f l = absurd (true≢false (sym l.0))
    newline_head Tok.dedent xs e x f l = absurd (true≢false (sym l.0))
    newline_head Tok.done xs e x f l = absurd (true≢false (sym l.0))
    newline_head (Tok.fault Fault.Byte) xs e x f l = absurd (true≢false (sym f.lies.1 ∙ ap starts (class_is p LineEnd e)))
    newline_head (Tok.fault Fault.Number) xs e x f l = absurd (true≢false (sym f.lies.1 ∙ ap starts (class_is p LineEnd e)))
    newline_head (Tok.fault Fault.Text) xs e x f l = absurd (true≢false (sym f.lies.1 ∙ ap starts (class_is p LineEnd e)))
    newline_head (Tok.fault Fault.Indentation) xs e x f l = absurd (true≢false (sym f.lies.1 ∙ ap starts (class_is p LineEnd e)))

    -- a token with bytes is the scanned one
    same_head : (z : Bool) (t : Tok) (xs : List (ℕ × Tok)) → is_fault (token_at s p) ≡ false → has_bytes t ≡ true → ((us : List (ℕ × Tok)) → Reads s false (p + size_at s p) us → Leveled s false ls us → us ≡ ts) → Read z p p t xs → begins_line t z ≡ false → Leveled s false ls xs → (p, t) ∷ xs ≡ (p, token_at s p) ∷ ts
    same_head z t xs n y x f g l =
        let same = same_there (drop p s) (there z p p t xs y f) (scan_there (drop p s) (omega (arith, length-drop p s)) n) in
        let more : Reads s false (p + size_at s p) xs = subst (λ (m : ℕ). Reads s false (p + m) xs) same.1 (subst (λ (c : Bool). Reads s c (p + f.size) xs) g f.then) in
        let rest = x xs more l in
        λ i. (p, same.0 i) ∷ rest i

    module _ (b : starts (class_of (get_or s p 0)) ≡ true) (n : is_fault (token_at s p) ≡ false) where
      token_head : (t : Tok) (xs : List (ℕ × Tok)) → ((us : List (ℕ × Tok)) → Reads s false (p + size_at s p) us → Leveled s false ls us → us ≡ ts) → Laws false t xs ((p, token_at s p) ∷ ts)
      token_head (Tok.name v) xs x f l = same_head false (Tok.name v) xs n refl x f refl l.1
      token_head (Tok.str v) xs x f l = same_head false (Tok.str v) xs n refl x f refl l.1
      token_head (Tok.int v) xs x f l = same_head false (Tok.int v) xs n refl x f refl l.1
      token_head (Tok.keyword v) xs x f l = same_head false (Tok.keyword v) xs n refl x f refl l.1
      token_head (Tok.symbol v) xs x f l = same_head false (Tok.symbol v) xs n refl x f refl l.1
      token_head Tok.newline xs x f l = absurd (true≢false (sym b ∙ ap starts (f.lies h)))
      token_head Tok.indent xs x f l = absurd (true≢false (sym l.0))
      token_head Tok.dedent xs x f l = absurd (true≢false (sym l.0))
      token_head Tok.done xs x f l = absurd (true≢false (sym l.0))
      token_head (Tok.fault Fault.Byte) xs x f l = absurd (blamed Fault.Byte (drop p s) f.best.0 f.best (scan_there (drop p s) (omega (arith, length-drop p s)) n))
      token_head (Tok.fault Fault.Number) xs x f l = absurd (blamed Fault.Number (drop p s) f.best.0 f.best (scan_there (drop p s) (omega (arith, length-drop p s)) n))
      token_head (Tok.fault Fault.Text) xs x f l = absurd (blamed Fault.Text (drop p s) f.best.0 f.best (scan_there (drop p s) (omega (arith, length-drop p s)) n))
      token_head (Tok.fault Fault.Indentation) xs x f l = absurd (true≢false (sym l.0.0))

      first_head : (t : Tok) (xs : List (ℕ × Tok)) → column s p ≡ top_level ls → ((us : List (ℕ × Tok)) → Reads s false (p + size_at s p) us → Leveled s false ls us → us ≡ ts) → Laws true t xs ((p, token_at s p) ∷ ts)
      first_head (Tok.name v) xs w x f l = same_head true (Tok.name v) xs n refl x f refl l.1
      first_head (Tok.str v) xs w x f l = same_head true (Tok.str v) xs n refl x f refl l.1
      first_head (Tok.int v) xs w x f l = same_head true (Tok.int v) xs n refl x f refl l.1
      first_head (Tok.keyword v) xs w x f l = same_head true (Tok.keyword v) xs n refl x f refl l.1
      first_head (Tok.symbol v) xs w x f l = same_head true (Tok.symbol v) xs n refl x f refl l.1
      first_head Tok.newline xs w x f l = absurd (true≢false (sym b ∙ ap starts (f.lies h)))
      first_head Tok.indent xs w x f l = absurd (omega (arith, l.1, w))
      first_head Tok.dedent xs w x f l = absurd (omega (arith, (l.1.3 h).0, ap top_level l.1.2, w))
      first_head Tok.done xs w x f l = absurd (omega (arith, f.lies))
      first_head (Tok.fault Fault.Byte) xs w x f l = absurd (blamed Fault.Byte (drop p s) f.best.0 f.best (scan_there (drop p s) (omega (arith, length-drop p s)) n))
      first_head (Tok.fault Fault.Number) xs w x f l = absurd (blamed Fault.Number (drop p s) f.best.0 f.best (scan_there (drop p s) (omega (arith, length-drop p s)) n))
      first_head (Tok.fault Fault.Text) xs w x f l = absurd (blamed Fault.Text (drop p s) f.best.0 f.best (scan_there (drop p s) (omega (arith, length-drop p s)) n))
      first_head (Tok.fault Fault.Indentation) xs w x f l = absurd (omega (arith, l.0.1, w))

      dedent_head : (l0 : ℕ) (ls0 : List ℕ) (t : Tok) (xs : List (ℕ × Tok)) → ls ≡ l0 ∷ ls0 → column s p < l0 → is_open (column s p) ls ≡ true → ((us : List (ℕ × Tok)) → Reads s true p us → Leveled s true ls0 us → us ≡ ts) → Laws true t xs ((p, Tok.dedent) ∷ ts)
      dedent_head l0 ls0 (Tok.name v) xs g w y x f l = absurd (omega (arith, l.0 refl, ap top_level g, w))
      dedent_head l0 ls0 (Tok.str v) xs g w y x f l = absurd (omega (arith, l.0 refl, ap top_level g, w))
      dedent_head l0 ls0 (Tok.int v) xs g w y x f l = absurd (omega (arith, l.0 refl, ap top_level g, w))
      dedent_head l0 ls0 (Tok.keyword v) xs g w y x f l = absurd (omega (arith, l.0 refl, ap top_level g, w))
      dedent_head l0 ls0 (Tok.symbol v) xs g w y x f l = absurd (omega (arith, l.0 refl, ap top_level g, w))
      dedent_head l0 ls0 Tok.newline xs g w y x f l = absurd (true≢false (sym b ∙ ap starts (f.lies h)))
      dedent_head l0 ls0 Tok.indent xs g w y x f l = absurd (omega (arith, l.1, ap top_level g, w))
      dedent_head l0 ls0 Tok.dedent xs g w y x f l = let same : l.1.1 ≡ ls0 = cc (sym l.1.2 ∙ g) in ap (λ (ys : List (ℕ × Tok)). (p, Tok.dedent) ∷ ys) (x xs (goes_on true p f.size xs f.within f.writes f.then) (subst (λ (k : List ℕ). Leveled s true k xs) same l.1.4))
      dedent_head l0 ls0 Tok.done xs g w y x f l = absurd (omega (arith, f.lies))
      dedent_head l0 ls0 (Tok.fault Fault.Byte) xs g w y x f l = absurd (blamed Fault.Byte (drop p s) f.best.0 f.best (scan_there (drop p s) (omega (arith, length-drop p s)) n))
      dedent_head l0 ls0 (Tok.fault Fault.Number) xs g w y x f l = absurd (blamed Fault.Number (drop p s) f.best.0 f.best (scan_there (drop p s) (omega (arith, length-drop p s)) n))
      dedent_head l0 ls0 (Tok.fault Fault.Text) xs g w y x f l = absurd (blamed Fault.Text (drop p s) f.best.0 f.best (scan_there (drop p s) (omega (arith, length-drop p s)) n))
      dedent_head l0 ls0 (Tok.fault Fault.Indentation) xs g w y x f l = absurd (true≢false (sym y ∙ l.0.2))

      nowhere_head : (t : Tok) (xs : List (ℕ × Tok)) → column s p < top_level ls → is_open (column s p) ls ≡ false → ts ≡ [] → Laws true t xs ((p, Tok.fault Fault.Indentation) ∷ ts)
      nowhere_head (Tok.name v) xs w y x f l = absurd (omega (arith, l.0 refl, w))
      nowhere_head (Tok.str v) xs w y x f l = absurd (omega (arith, l.0 refl, w))
      nowhere_head (Tok.int v) xs w y x f l = absurd (omega (arith, l.0 refl, w))
      nowhere_head (Tok.keyword v) xs w y x f l = absurd (omega (arith, l.0 refl, w))
      nowhere_head (Tok.symbol v) xs w y x f l = absurd (omega (arith, l.0 refl, w))
      nowhere_head Tok.newline xs w y x f l = absurd (true≢false (sym b ∙ ap starts (f.lies h)))
      nowhere_head Tok.indent xs w y x f l = absurd (omega (arith, l.1, w))
      nowhere_head Tok.dedent xs w y x f l = absurd (true≢false (sym (ap (is_open (column s p)) l.1.2 ∙ open_more (column s p) l.1.0 l.1.1 (l.1.3 h).1) ∙ y))
      nowhere_head Tok.done xs w y x f l = absurd (omega (arith, f.lies))
      nowhere_head (Tok.fault Fault.Byte) xs w y x f l = absurd (blamed Fault.Byte (drop p s) f.best.0 f.best (scan_there (drop p s) (omega (arith, length-drop p s)) n))
      nowhere_head (Tok.fault Fault.Number) xs w y x f l = absurd (blamed Fault.Number (drop p s) f.best.0 f.best (scan_there (drop p s) (omega (arith, length-drop p s)) n))
      nowhere_head (Tok.fault Fault.Text) xs w y x f l = absurd (blamed Fault.Text (drop p s) f.best.0 f.best (scan_there (drop p s) (omega (arith, length-drop p s)) n))
      nowhere_head (Tok.fault Fault.Indentation) xs w y x f l = ap (λ (ys : List (ℕ × Tok)). (p, Tok.fault Fault.Indentation) ∷ ys) (l.1 ∙ sym x)

    fault_head : (z : Bool) (t : Tok) (xs : List (ℕ × Tok)) → starts (class_of (get_or s p 0)) ≡ true → is_fault (token_at s p) ≡ true → ts ≡ [] → Laws z t xs ((p, token_at s p) ∷ ts)
    fault_head z (Tok.name v) xs b n x f l = absurd (stuck_at p h (fault_alone (drop p s) (omega (arith, length-drop p s)) n) (Tok.name v) xs (stuck p h (fault_alone (drop p s) (omega (arith, length-drop p s)) n) xs) z ls p (λ a. absurd (true≢false (sym b ∙ ap starts a))) (λ _. refl) f l)
    fault_head z (Tok.str v) xs b n x f l = absurd (stuck_at p h (fault_alone (drop p s) (omega (arith, length-drop p s)) n) (Tok.str v) xs (stuck p h (fault_alone (drop p s) (omega (arith, length-drop p s)) n) xs) z ls p (λ a. absurd (true≢false (sym b ∙ ap starts a))) (λ _. refl) f l)
    fault_head z (Tok.int v) xs b n x f l = absurd (stuck_at p h (fault_alone (drop p s) (omega (arith, length-drop p s)) n) (Tok.int v) xs (stuck p h (fault_alone (drop p s) (omega (arith, length-drop p s)) n) xs) z ls p (λ a. absurd (true≢false (sym b ∙ ap starts a))) (λ _. refl) f l)
    fault_head z (Tok.keyword v) xs b n x f l = absurd (stuck_at p h (fault_alone (drop p s) (omega (arith, length-drop p s)) n) (Tok.keyword v) xs (stuck p h (fault_alone (drop p s) (omega (arith, length-drop p s)) n) xs) z ls p (λ a. absurd (true≢false (sym b ∙ ap starts a))) (λ _. refl) f l)
    fault_head z (Tok.symbol v) xs b n x f l = absurd (stuck_at p h (fault_alone (drop p s) (omega (arith, length-drop p s)) n) (Tok.symbol v) xs (stuck p h (fault_alone (drop p s) (omega (arith, length-drop p s)) n) xs) z ls p (λ a. absurd (true≢false (sym b ∙ ap starts a))) (λ _. refl) f l)
    fault_head z Tok.newline xs b n x f l = absurd (stuck_at p h (fault_alone (drop p s) (omega (arith, length-drop p s)) n) Tok.newline xs (stuck p h (fault_alone (drop p s) (omega (arith, length-drop p s)) n) xs) z ls p (λ a. absurd (true≢false (sym b ∙ ap starts a))) (λ _. refl) f l)
    fault_head z Tok.indent xs b n x f l = absurd (stuck_at p h (fault_alone (drop p s) (omega (arith, length-drop p s)) n) Tok.indent xs (stuck p h (fault_alone (drop p s) (omega (arith, length-drop p s)) n) xs) z ls p (λ a. absurd (true≢false (sym b ∙ ap starts a))) (λ _. refl) f l)
    fault_head z Tok.dedent xs b n x f l = absurd (stuck_at p h (fault_alone (drop p s) (omega (arith, length-drop p s)) n) Tok.dedent xs (stuck p h (fault_alone (drop p s) (omega (arith, length-drop p s)) n) xs) z ls p (λ a. absurd (true≢false (sym b ∙ ap starts a))) (λ _. refl) f l)
    fault_head z Tok.done xs b n x f l = absurd (stuck_at p h (fault_alone (drop p s) (omega (arith, length-drop p s)) n) Tok.done xs (stuck p h (fault_alone (drop p s) (omega (arith, length-drop p s)) n) xs) z ls p (λ a. absurd (true≢false (sym b ∙ ap starts a))) (λ _. refl) f l)
    fault_head z (Tok.fault Fault.Byte) xs b n x f l = λ i. (p, sym (scan_fault (drop p s) n ∙ ap Tok.fault f.best.0) i) ∷ (l.1 ∙ sym x) i
    fault_head z (Tok.fault Fault.Number) xs b n x f l = λ i. (p, sym (scan_fault (drop p s) n ∙ ap Tok.fault f.best.0) i) ∷ (l.1 ∙ sym x) i
    fault_head z (Tok.fault Fault.Text) xs b n x f l = λ i. (p, sym (scan_fault (drop p s) n ∙ ap Tok.fault f.best.0) i) ∷ (l.1 ∙ sym x) i
    fault_head z (Tok.fault Fault.Indentation) xs b n x f l = absurd (fault_alone (drop p s) (omega (arith, length-drop p s)) n f.best)

  indent_head : (ls : List ℕ) (p : ℕ) (ts : List (ℕ × Tok)) (h : p < length s) (b : starts (class_of (get_or s p 0)) ≡ true) (n : is_fault (token_at s p) ≡ false) (t : Tok) (xs : List (ℕ × Tok)) → top_level ls < column s p → ((us : List (ℕ × Tok)) → Reads s false (p + size_at s p) us → Leveled s false (column s p ∷ ls) us → us ≡ ts) → Read true p p t xs → LevelOf true ls p t xs → (p, t) ∷ xs ≡ (p, Tok.indent) ∷ (p, token_at s p) ∷ ts
  indent_head ls p ts h b n (Tok.name v) xs w x f l = absurd (omega (arith, l.0 refl, w))
  indent_head ls p ts h b n (Tok.str v) xs w x f l = absurd (omega (arith, l.0 refl, w))
  indent_head ls p ts h b n (Tok.int v) xs w x f l = absurd (omega (arith, l.0 refl, w))
  indent_head ls p ts h b n (Tok.keyword v) xs w x f l = absurd (omega (arith, l.0 refl, w))
  indent_head ls p ts h b n (Tok.symbol v) xs w x f l = absurd (omega (arith, l.0 refl, w))
  indent_head ls p ts h b n Tok.newline xs w x f l = absurd (true≢false (sym b ∙ ap starts (f.lies h)))
  indent_head ls p ts h b n Tok.indent xs w x f l = ap (λ (ys : List (ℕ × Tok)). (p, Tok.indent) ∷ ys) (at_head true (column s p ∷ ls) p xs ((p, token_at s p) ∷ ts) (λ q g. no_gap s true p q b g) (λ t2 ys f2 l2. first_head (column s p ∷ ls) p ts h b n t2 ys refl x f2 l2) (goes_on true p f.size xs f.within f.writes f.then) l.2)
  indent_head ls p ts h b n Tok.dedent xs w x f l = absurd (omega (arith, (l.1.3 h).0, ap top_level l.1.2, w))
  indent_head ls p ts h b n Tok.done xs w x f l = absurd (omega (arith, f.lies))
  indent_head ls p ts h b n (Tok.fault Fault.Byte) xs w x f l = absurd (blamed Fault.Byte (drop p s) f.best.0 f.best (scan_there (drop p s) (omega (arith, length-drop p s)) n))
  indent_head ls p ts h b n (Tok.fault Fault.Number) xs w x f l = absurd (blamed Fault.Number (drop p s) f.best.0 f.best (scan_there (drop p s) (omega (arith, length-drop p s)) n))
  indent_head ls p ts h b n (Tok.fault Fault.Text) xs w x f l = absurd (blamed Fault.Text (drop p s) f.best.0 f.best (scan_there (drop p s) (omega (arith, length-drop p s)) n))
  indent_head ls p ts h b n (Tok.fault Fault.Indentation) xs w x f l = absurd (omega (arith, l.0.1, w))

  -- at the end of the source
  end_gap : (z : Bool) (q : ℕ) → Gap s z (length s) q → length s ≡ q
  end_gap z q g = no_gap s z (length s) q (ap (λ (x : ℕ). starts (class_of x)) (get_or_past s (length s) 0 (omega arith))) g

  last_newline : (ls : List ℕ) (ts : List (ℕ × Tok)) (t : Tok) (xs : List (ℕ × Tok)) → ((us : List (ℕ × Tok)) → Reads s true (length s) us → Leveled s true ls us → us ≡ ts) → Read false (length s) (length s) t xs → LevelOf false ls (length s) t xs → (length s, t) ∷ xs ≡ (length s, Tok.newline) ∷ ts
  last_newline ls ts (Tok.name v) xs x f l = absurd (omega (arith, f.solid refl, f.within))
  last_newline ls ts (Tok.str v) xs x f l = absurd (omega (arith, f.solid refl, f.within))
  last_newline ls ts (Tok.int v) xs x f l = absurd (omega (arith, f.solid refl, f.within))
  last_newline ls ts (Tok.keyword v) xs x f l = absurd (omega (arith, f.solid refl, f.within))
  last_newline ls ts (Tok.symbol v) xs x f l = absurd (omega (arith, f.solid refl, f.within))
  last_newline ls ts Tok.newline xs x f l = ap (λ (ys : List (ℕ × Tok)). (length s, Tok.newline) ∷ ys) (x xs (goes_on true (length s) f.size xs f.within f.writes f.then) l.1)
  last_newline ls ts Tok.indent xs x f l = absurd (true≢false (sym l.0))
  last_newline ls ts Tok.dedent xs x f l = absurd (true≢false (sym l.0))
  last_newline ls ts Tok.done xs x f l = absurd (true≢false (sym l.0))
  last_newline ls ts (Tok.fault Fault.Byte) xs x f l = absurd (omega (arith, f.lies.0))
  last_newline ls ts (Tok.fault Fault.Number) xs x f l = absurd (omega (arith, f.lies.0))
  last_newline ls ts (Tok.fault Fault.Text) xs x f l = absurd (omega (arith, f.lies.0))
  last_newline ls ts (Tok.fault Fault.Indentation) xs x f l = absurd (omega (arith, f.lies.0))

  last_closing : (l0 : ℕ) (ls0 : List ℕ) (ts : List (ℕ × Tok)) (t : Tok) (xs : List (ℕ × Tok)) → ((us : List (ℕ × Tok)) → Reads s true (length s) us → Leveled s true ls0 us → us ≡ ts) → Read true (length s) (length s) t xs → LevelOf true (l0 ∷ ls0) (length s) t xs → (length s, t) ∷ xs ≡ (length s, Tok.dedent) ∷ ts
  last_closing l0 ls0 ts (Tok.name v) xs x f l = absurd (omega (arith, f.solid refl, f.within))
  last_closing l0 ls0 ts (Tok.str v) xs x f l = absurd (omega (arith, f.solid refl, f.within))
  last_closing l0 ls0 ts (Tok.int v) xs x f l = absurd (omega (arith, f.solid refl, f.within))
  last_closing l0 ls0 ts (Tok.keyword v) xs x f l = absurd (omega (arith, f.solid refl, f.within))
  last_closing l0 ls0 ts (Tok.symbol v) xs x f l = absurd (omega (arith, f.solid refl, f.within))
  last_closing l0 ls0 ts Tok.newline xs x f l = absurd (true≢false l.0)
  last_closing l0 ls0 ts Tok.indent xs x f l = absurd (omega (arith, f.lies.0))
  last_closing l0 ls0 ts Tok.dedent xs x f l = let same : l.1.1 ≡ ls0 = cc l.1.2 in ap (λ (ys : List (ℕ × Tok)). (length s, Tok.dedent) ∷ ys) (x xs (goes_on true (length s) f.size xs f.within f.writes f.then) (subst (λ (k : List ℕ). Leveled s true k xs) same l.1.4))
  last_closing l0 ls0 ts Tok.done xs x f l = let w : ◌≡◌ {A = ℕ} 0 1 = cc l.2 in absurd (omega arith)
  last_closing l0 ls0 ts (Tok.fault Fault.Byte) xs x f l = absurd (omega (arith, f.lies.0))
  last_closing l0 ls0 ts (Tok.fault Fault.Number) xs x f l = absurd (omega (arith, f.lies.0))
  last_closing l0 ls0 ts (Tok.fault Fault.Text) xs x f l = absurd (omega (arith, f.lies.0))
  last_closing l0 ls0 ts (Tok.fault Fault.Indentation) xs x f l = absurd (omega (arith, f.lies.0))

  last_done : (t : Tok) (xs : List (ℕ × Tok)) → Read true (length s) (length s) t xs → LevelOf true [] (length s) t xs → (length s, t) ∷ xs ≡ (length s, Tok.done) ∷ []
  last_done (Tok.name v) xs f l = absurd (omega (arith, f.solid refl, f.within))
  last_done (Tok.str v) xs f l = absurd (omega (arith, f.solid refl, f.within))
  last_done (Tok.int v) xs f l = absurd (omega (arith, f.solid refl, f.within))
  last_done (Tok.keyword v) xs f l = absurd (omega (arith, f.solid refl, f.within))
  last_done (Tok.symbol v) xs f l = absurd (omega (arith, f.solid refl, f.within))
  last_done Tok.newline xs f l = absurd (true≢false l.0)
  last_done Tok.indent xs f l = absurd (omega (arith, f.lies.0))
  last_done Tok.dedent xs f l = let w : ◌≡◌ {A = ℕ} 0 1 = cc l.1.2 in absurd (omega arith)
  last_done Tok.done xs f l = ap (λ (ys : List (ℕ × Tok)). (length s, Tok.done) ∷ ys) l.3
  last_done (Tok.fault Fault.Byte) xs f l = absurd (omega (arith, f.lies.0))
  last_done (Tok.fault Fault.Number) xs f l = absurd (omega (arith, f.lies.0))
  last_done (Tok.fault Fault.Text) xs f l = absurd (omega (arith, f.lies.0))
  last_done (Tok.fault Fault.Indentation) xs f l = absurd (omega (arith, f.lies.0))

  abbrev Q : Mode → List ℕ → ℕ → List (ℕ × Tok) → Type 0
  Q (Mode.Fresh c) ls p ts = Clear s c p → (us : List (ℕ × Tok)) → Reads s true p us → Leveled s true ls us → us ≡ ts
  Q Mode.Inside ls p ts = (us : List (ℕ × Tok)) → Reads s false p us → Leveled s false ls us → us ≡ ts
  Q Mode.Over ls p ts = ts ≡ []

  begins : (p : ℕ) → starts (class_at s p) ≡ true → starts (class_of (get_or s p 0)) ≡ true
  begins p b = ap (λ (x : ℕ). starts (class_of x)) (sym (byte_at s p)) ∙ b

  stays : (z : Bool) (p : ℕ) → starts (class_at s p) ≡ true → (q : ℕ) → Gap s z p q → p ≡ q
  stays z p b q g = no_gap s z p q (begins p b) g

  kept : Kept s Q
  kept = record {
    blank = λ c ls p ts h e x k us f l. x (λ _ _. after_blank s c p h e (k h (ap ends_line e))) us (skip_blank true ls p us h e f l) l;
    blank_inside = λ ls p ts h e x us f l. x us (skip_blank false ls p us h e f l) l;
    empty_line = λ c ls p ts h e x k us f l. x (λ _ _. after_end s p h e) us (skip_end ls p us h e f l) l;
    newline = λ ls p ts h e x us f l. at_head false ls p us ((p, Tok.newline) ∷ ts) (λ q g. end_stuck ls p ts h q e g) (λ t xs f2 l2. newline_head ls p ts h t xs e (x (λ _ _. after_end s p h e)) f2 l2) f l;
    remark = λ c ls p ts h e n x k us f l. x (λ h2 e2. absurd (after_remark s p h h2 e2)) us (skip_remark true ls p us h e f l) l;
    remark_inside = λ ls p ts h e n x us f l. x us (skip_remark false ls p us h e f l) l;
    token = λ ls p ts h b n x us f l. at_head false ls p us ((p, token_at s p) ∷ ts) (stays false p b) (λ t xs f2 l2. token_head ls p ts h (begins p b) n t xs x f2 l2) f l;
    fault = λ ls p ts h b n x us f l. at_head false ls p us ((p, token_at s p) ∷ ts) (stays false p b) (λ t xs f2 l2. fault_head ls p ts h false t xs (begins p b) n x f2 l2) f l;
    fault_first = λ c ls p ts h b n x k us f l. at_head true ls p us ((p, token_at s p) ∷ ts) (stays true p b) (λ t xs f2 l2. fault_head ls p ts h true t xs (begins p b) n x f2 l2) f l;
    same = λ c ls p ts h b n e x k us f l.
        let w : column s p ≡ top_level ls = sym (eqb-true (top_level ls) c (picks_same (ltb (top_level ls) c) (eqb (top_level ls) c) (is_open c ls) e) ∙ at_start s c p h b k) in
        at_head true ls p us ((p, token_at s p) ∷ ts) (stays true p b) (λ t xs f2 l2. first_head ls p ts h (begins p b) n t xs w x f2 l2) f l;
    indent = λ c ls p ts h b n e x k us f l.
        let is : c ≡ column s p = at_start s c p h b k in
        let wide : top_level ls < column s p = subst (λ (j : ℕ). top_level ls < j) is (ltb-true (top_level ls) c (picks_deeper (ltb (top_level ls) c) (eqb (top_level ls) c) (is_open c ls) e)) in
        let more : (vs : List (ℕ × Tok)) → Reads s false (p + size_at s p) vs → Leveled s false (column s p ∷ ls) vs → vs ≡ ts = subst (λ (j : ℕ). (vs : List (ℕ × Tok)) → Reads s false (p + size_at s p) vs → Leveled s false (j ∷ ls) vs → vs ≡ ts) is x in
        at_head true ls p us ((p, Tok.indent) ∷ (p, token_at s p) ∷ ts) (stays true p b) (λ t xs f2 l2. indent_head ls p ts h (begins p b) n t xs wide more f2 l2) f l;
    dedent = λ c l0 ls p ts h b n e x k us f l.
        let is : c ≡ column s p = at_start s c p h b k in
        let narrow : column s p < l0 = subst (λ (j : ℕ). j < l0) is (below c l0 (picks_shallower (ltb l0 c) (eqb l0 c) (is_open c (l0 ∷ ls)) e)) in
        let among_them : is_open (column s p) (l0 ∷ ls) ≡ true = subst (λ (j : ℕ). is_open j (l0 ∷ ls) ≡ true) is (picks_open (ltb l0 c) (eqb l0 c) (is_open c (l0 ∷ ls)) e) in
        at_head true (l0 ∷ ls) p us ((p, Tok.dedent) ∷ ts) (stays true p b) (λ t xs f2 l2. dedent_head (l0 ∷ ls) p ts h (begins p b) n l0 ls t xs refl narrow among_them (x k) f2 l2) f l;
    nowhere = λ c ls p ts h b n e x k us f l.
        let is : c ≡ column s p = at_start s c p h b k in
        let parts = picks_nowhere (ltb (top_level ls) c) (eqb (top_level ls) c) (is_open c ls) e in
        let narrow : column s p < top_level ls = subst (λ (j : ℕ). j < top_level ls) is (below c (top_level ls) parts.0) in
        let shut : is_open (column s p) ls ≡ false = subst (λ (j : ℕ). is_open j ls ≡ false) is parts.1 in
        at_head true ls p us ((p, Tok.fault Fault.Indentation) ∷ ts) (stays true p b) (λ t xs f2 l2. nowhere_head ls p ts h (begins p b) n t xs narrow shut x f2 l2) f l;
    over = λ ls p ts h x. x;
    last_line = λ ls ts x us f l. at_head false ls (length s) us ((length s, Tok.newline) ∷ ts) (end_gap false) (λ t xs f2 l2. last_newline ls ts t xs (x (λ h _. absurd (omega arith))) f2 l2) f l;
    last_dedent = λ c l0 ls ts x k us f l. at_head true (l0 ∷ ls) (length s) us ((length s, Tok.dedent) ∷ ts) (end_gap true) (λ t xs f2 l2. last_closing l0 ls ts t xs (x k) f2 l2) f l;
    done = λ c k us f l. at_head true [] (length s) us ((length s, Tok.done) ∷ []) (end_gap true) (λ t xs f2 l2. last_done t xs f2 l2) f l;
    nothing = λ ls. refl;
  }

pub only_tokens : TokensOnly
only_tokens s ts f l = kept_all s (Q s) (kept s) (λ _ _. refl) ts f l
