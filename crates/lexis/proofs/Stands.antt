-- The laws of tokens, each as what the rules of the automaton keep.
use Rattle.std.proofs.Common.{◌≡◌, ℕ, ◌+◌, ◌<◌, ◌≤◌, Bool, true, false, cond, eqb, ltb, List, [], ◌∷◌, length, get_or, take, drop, sym, refl, ap, ◌∙◌, subst, add-zero, arith, length-drop}
use Rattle.std.proofs.lemmas.Bool.{true≢false}
use Rattle.lexis.specs.Balance.{Opens, Balanced}
use Rattle.lexis.specs.Bytes.{class_of}
use Rattle.lexis.specs.Laws.{TokensStand}
use Rattle.lexis.specs.Lines.{is_fault, is_open, top_level, tokens}
use Rattle.lexis.specs.Reading.{Gap, Lies, first_place, fault_next, begins_line, Reads, Ascends}
use Rattle.lexis.specs.Runs.{starts}
use Rattle.lexis.specs.Scans.{scan_of}
use Rattle.lexis.specs.Tokens.{Tok}
use Rattle.lexis.specs.Written.{Writes, has_bytes, Best}
use Rattle.lexis.specs.declared.bytes.Class.TheVariants.{Blank, LineEnd, Hash}
use Rattle.lexis.specs.declared.faults.Fault.{Fault}
use Rattle.lexis.specs.declared.lines.Mode.{Mode}
use Rattle.lexis.proofs.Longest.{scan_best}
use Rattle.lexis.proofs.Rules.{Kept, kept_all, byte_at, class_at, token_at, size_at, comment_at}
use Rattle.lexis.proofs.Sizes.{Fit, scan_size}
use Rattle.lexis.proofs.Leveling.{leveled, shallower_open, picks_nowhere}
use Rattle.lexis.proofs.Spelling.{scan_writes, scan_bytes}
use Rattle.lexis.proofs.Whole.{scan_there}

fault_writes : (t : Tok) (u : List ℕ) → is_fault t ≡ true → Writes t u
fault_writes (Tok.name w) u e = absurd (true≢false (sym e))
fault_writes (Tok.str w) u e = absurd (true≢false (sym e))
fault_writes (Tok.int n) u e = absurd (true≢false (sym e))
fault_writes (Tok.keyword k) u e = absurd (true≢false (sym e))
fault_writes (Tok.symbol o) u e = absurd (true≢false (sym e))
fault_writes Tok.newline u e = absurd (true≢false (sym e))
fault_writes Tok.indent u e = absurd (true≢false (sym e))
fault_writes Tok.dedent u e = absurd (true≢false (sym e))
fault_writes Tok.done u e = absurd (true≢false (sym e))
fault_writes (Tok.fault f) u e = tt

-- a token with bytes, or a fault, lies where it lies, and a line has begun past the first of these
bytes_begin : (t : Tok) (first : Bool) → has_bytes t ≡ true → begins_line t first ≡ false
bytes_begin (Tok.name w) first e = refl
bytes_begin (Tok.str w) first e = refl
bytes_begin (Tok.int n) first e = refl
bytes_begin (Tok.keyword k) first e = refl
bytes_begin (Tok.symbol o) first e = refl
bytes_begin Tok.newline first e = absurd (true≢false (sym e))
bytes_begin Tok.indent first e = absurd (true≢false (sym e))
bytes_begin Tok.dedent first e = absurd (true≢false (sym e))
bytes_begin Tok.done first e = absurd (true≢false (sym e))
bytes_begin (Tok.fault f) first e = absurd (true≢false (sym e))

module _ (s : List ℕ) where
  bytes_lie : (p : ℕ) (t : Tok) (ts : List (ℕ × Tok)) → has_bytes t ≡ true → Lies s p t ts
  bytes_lie p (Tok.name w) ts e = tt
  bytes_lie p (Tok.str w) ts e = tt
  bytes_lie p (Tok.int n) ts e = tt
  bytes_lie p (Tok.keyword k) ts e = tt
  bytes_lie p (Tok.symbol o) ts e = tt
  bytes_lie p Tok.newline ts e = absurd (true≢false (sym e))
  bytes_lie p Tok.indent ts e = absurd (true≢false (sym e))
  bytes_lie p Tok.dedent ts e = absurd (true≢false (sym e))
  bytes_lie p Tok.done ts e = absurd (true≢false (sym e))
  bytes_lie p (Tok.fault f) ts e = absurd (true≢false (sym e))

  fault_lies : (p : ℕ) (t : Tok) (ts : List (ℕ × Tok)) → (p < length s) × (starts (class_of (get_or s p 0)) ≡ true) → is_fault t ≡ true → Lies s p t ts
  fault_lies p (Tok.name w) ts l e = absurd (true≢false (sym e))
  fault_lies p (Tok.str w) ts l e = absurd (true≢false (sym e))
  fault_lies p (Tok.int n) ts l e = absurd (true≢false (sym e))
  fault_lies p (Tok.keyword k) ts l e = absurd (true≢false (sym e))
  fault_lies p (Tok.symbol o) ts l e = absurd (true≢false (sym e))
  fault_lies p Tok.newline ts l e = absurd (true≢false (sym e))
  fault_lies p Tok.indent ts l e = absurd (true≢false (sym e))
  fault_lies p Tok.dedent ts l e = absurd (true≢false (sym e))
  fault_lies p Tok.done ts l e = absurd (true≢false (sym e))
  fault_lies p (Tok.fault f) ts l e = l

  fit : (p : ℕ) → p < length s → Fit (length (drop p s)) (scan_of (drop p s))
  fit p h = scan_size (drop p s) (omega (arith, length-drop p s))

  widen : (first : Bool) (p r : ℕ) → p ≤ r → ((q : ℕ) → Gap s first r q → Gap s first p q) → (ts : List (ℕ × Tok)) → Reads s first r ts → Reads s first p ts
  widen first p r h g [] x = tt
  widen first p r h g (t ∷ ts) x = record { size = x.size; gap = g t.0 x.gap; past = omega (arith, x.past); writes = x.writes; best = x.best; lies = x.lies; solid = x.solid; within = x.within; then = x.then }

  bare : (first : Bool) (p : ℕ) (t : Tok) (ts : List (ℕ × Tok)) → p ≤ length s → Writes t [] → Best t 0 (drop p s) → Lies s p t ts → has_bytes t ≡ false → Reads s (begins_line t first) p ts → Reads s first p ((p, t) ∷ ts)
  bare first p t ts h w f l b x = record {
    size = 0;
    gap = Gap.none;
    past = omega arith;
    writes = w;
    best = f;
    lies = l;
    solid = λ e. absurd (true≢false (sym e ∙ b));
    within = omega arith;
    then = subst (λ (j : ℕ). Reads s (begins_line t first) j ts) (sym (add-zero p)) x;
  }

  stands : (first : Bool) (p : ℕ) (ts : List (ℕ × Tok)) → p < length s → Writes (token_at s p) (take (size_at s p) (drop p s)) → Lies s p (token_at s p) ts → Reads s (begins_line (token_at s p) first) (p + size_at s p) ts → Reads s first p ((p, token_at s p) ∷ ts)
  stands first p ts h w l x = record {
    size = size_at s p;
    gap = Gap.none;
    past = omega arith;
    writes = w;
    best = scan_best (drop p s) (omega (arith, length-drop p s));
    lies = l;
    solid = λ e. (fit p h).0;
    within = omega (arith, fit p h, length-drop p s);
    then = x;
  }

  lie : (p : ℕ) → p < length s → starts (class_at s p) ≡ true → (p < length s) × (starts (class_of (get_or s p 0)) ≡ true)
  lie p h b = (h, ap (λ (x : ℕ). starts (class_of x)) (sym (byte_at s p)) ∙ b)

  scanned : (first : Bool) (p : ℕ) (ts : List (ℕ × Tok)) → p < length s → is_fault (token_at s p) ≡ false → Reads s false (p + size_at s p) ts → Reads s first p ((p, token_at s p) ∷ ts)
  scanned first p ts h f x =
      let b = scan_bytes (drop p s) f in
      stands first p ts h (scan_writes (drop p s) (omega (arith, length-drop p s)) f) (bytes_lie p (token_at s p) ts b) (subst (λ (z : Bool). Reads s z (p + size_at s p) ts) (sym (bytes_begin (token_at s p) first b)) x)

  faulty : (first : Bool) (p : ℕ) (ts : List (ℕ × Tok)) → p < length s → starts (class_at s p) ≡ true → is_fault (token_at s p) ≡ true → ts ≡ [] → Reads s first p ((p, token_at s p) ∷ ts)
  faulty first p ts h b f x = stands first p ts h (fault_writes (token_at s p) _ f) (fault_lies p (token_at s p) ts (lie p h b) f) (subst (Reads s (begins_line (token_at s p) first) (p + size_at s p)) (sym x) tt)

  blanks : (first : Bool) (p : ℕ) (ts : List (ℕ × Tok)) → class_at s p ≡ Blank → Reads s first (p + 1) ts → Reads s first p ts
  blanks first p ts e x = widen first p (p + 1) (omega arith) (λ q g. Gap.blank (ap class_of (sym (byte_at s p)) ∙ e) g) ts x

  line_ends : (p : ℕ) (ts : List (ℕ × Tok)) → class_at s p ≡ LineEnd → Reads s true (p + 1) ts → Reads s true p ts
  line_ends p ts e x = widen true p (p + 1) (omega arith) (λ q g. Gap.line_end refl (ap class_of (sym (byte_at s p)) ∙ e) g) ts x

  remarks : (first : Bool) (p : ℕ) (ts : List (ℕ × Tok)) → class_at s p ≡ Hash → Reads s first (p + comment_at s p) ts → Reads s first p ts
  remarks first p ts e x = widen first p (p + comment_at s p) (omega arith) (λ q g. Gap.remark (ap class_of (sym (byte_at s p)) ∙ e) g) ts x

  -- where a token begins, or at the end, the first of the tokens lies
  abbrev Starting : ℕ → List ℕ → ℕ → Type 0
  Starting c ls p = (starts (class_at s p) ≡ true) × (is_fault (token_at s p) ≡ false) × (is_open c ls ≡ true)

  abbrev At : ℕ → List ℕ → ℕ → List (ℕ × Tok) → Type 0
  At c ls p ts = (p < length s → Starting c ls p) → (first_place ts p ≡ p) × (fault_next ts ≡ false)

  elsewhere : (c : ℕ) (ls : List ℕ) (p : ℕ) (ts : List (ℕ × Tok)) → p < length s → starts (class_at s p) ≡ false → At c ls p ts
  elsewhere c ls p ts h e k = absurd (true≢false (sym (k h).0 ∙ e))

  abbrev Q : Mode → List ℕ → ℕ → List (ℕ × Tok) → Type 0
  Q (Mode.Fresh c) ls p ts = Reads s true p ts × At c ls p ts
  Q Mode.Inside ls p ts = Reads s false p ts
  Q Mode.Over ls p ts = ts ≡ []

  reads_kept : Kept s Q
  reads_kept = record {
    blank = λ c ls p ts h e x. (blanks true p ts e x.0, elsewhere c ls p ts h (ap starts e));
    blank_inside = λ ls p ts h e x. blanks false p ts e x;
    empty_line = λ c ls p ts h e x. (line_ends p ts e x.0, elsewhere c ls p ts h (ap starts e));
    newline = λ ls p ts h e x. bare false p Tok.newline ts (omega arith) refl tt (λ _. ap class_of (sym (byte_at s p)) ∙ e) refl (line_ends p ts e x.0);
    remark = λ c ls p ts h e f x. (remarks true p ts e x.0, elsewhere c ls p ts h (ap starts e));
    remark_inside = λ ls p ts h e f x. remarks false p ts e x;
    token = λ ls p ts h b f x. scanned false p ts h f x;
    fault = λ ls p ts h b f x. faulty false p ts h b f x;
    fault_first = λ c ls p ts h b f x. (faulty true p ts h b f x, λ k. absurd (true≢false (sym f ∙ (k h).1)));
    same = λ c ls p ts h b f e x. (scanned true p ts h f x, λ _. (refl, f));
    indent = λ c ls p ts h b f e x. (bare true p Tok.indent ((p, token_at s p) ∷ ts) (omega arith) refl tt (h, refl, f) refl (scanned true p ts h f x), λ _. (refl, refl));
    dedent = λ c l ls p ts h b f e x. (bare true p Tok.dedent ts (omega arith) refl tt (x.1 (λ _. (b, f, shallower_open c l ls e))) refl x.0, λ _. (refl, refl));
    nowhere = λ c ls p ts h b f e x. (bare true p (Tok.fault Fault.Indentation) ts (omega arith) tt (scan_there (drop p s) (omega (arith, length-drop p s)) f) (lie p h b) refl (subst (Reads s true p) (sym x) tt), λ k. absurd (true≢false (sym (k h).2 ∙ (picks_nowhere (ltb (top_level ls) c) (eqb (top_level ls) c) (is_open c ls) e).1)));
    over = λ ls p ts h x. x;
    last_line = λ ls ts x. bare false (length s) Tok.newline ts (omega arith) refl tt (λ h. absurd (omega arith)) refl x.0;
    last_dedent = λ c l ls ts x. (bare true (length s) Tok.dedent ts (omega arith) refl tt (x.1 (λ h. absurd (omega arith))) refl x.0, λ _. (refl, refl));
    done = λ c. (bare true (length s) Tok.done [] (omega arith) refl tt refl refl tt, λ _. (refl, refl));
    nothing = λ ls. refl;
  }

  pub reads : Reads s true 0 (tokens s)
  reads = (kept_all s Q reads_kept).0

-- places
lower : (a b : ℕ) (ts : List (ℕ × Tok)) → a ≤ b → Ascends b ts → Ascends a ts
lower a b [] h x = tt
lower a b (t ∷ ts) h x = (omega (arith, x.0), x.1)

weighs : (t : Bool) (n : ℕ) → (t ≡ true → 1 ≤ n) → cond t 1 0 ≤ n
weighs true n h = h refl
weighs false n h = omega arith

pub ascends : (s : List ℕ) (first : Bool) (p : ℕ) (ts : List (ℕ × Tok)) → Reads s first p ts → Ascends p ts
ascends s first p [] x = tt
ascends s first p (t ∷ ts) x =
    let w = weighs (has_bytes t.1) x.size x.solid in
    (x.past, lower (t.0 + cond (has_bytes t.1) 1 0) (t.0 + x.size) ts (omega (arith, w)) (ascends s (begins_line t.1 first) (t.0 + x.size) ts x.then))

-- levels
abbrev OpenLevels : Mode → ℕ → List (ℕ × Tok) → Type 0
OpenLevels (Mode.Fresh c) n ts = Balanced n ts
OpenLevels Mode.Inside n ts = Balanced n ts
OpenLevels Mode.Over n ts = ts ≡ []

opens_none : (t : Tok) (m : ℕ) (ts : List (ℕ × Tok)) → has_bytes t ≡ true → Balanced m ts → Opens t m ts (λ k. Balanced k ts)
opens_none (Tok.name w) m ts e b = b
opens_none (Tok.str w) m ts e b = b
opens_none (Tok.int n) m ts e b = b
opens_none (Tok.keyword k) m ts e b = b
opens_none (Tok.symbol o) m ts e b = b
opens_none Tok.newline m ts e b = absurd (true≢false (sym e))
opens_none Tok.indent m ts e b = absurd (true≢false (sym e))
opens_none Tok.dedent m ts e b = absurd (true≢false (sym e))
opens_none Tok.done m ts e b = absurd (true≢false (sym e))
opens_none (Tok.fault f) m ts e b = absurd (true≢false (sym e))

opens_last : (t : Tok) (m : ℕ) (ts : List (ℕ × Tok)) → is_fault t ≡ true → ts ≡ [] → Opens t m ts (λ k. Balanced k ts)
opens_last (Tok.name w) m ts e b = absurd (true≢false (sym e))
opens_last (Tok.str w) m ts e b = absurd (true≢false (sym e))
opens_last (Tok.int n) m ts e b = absurd (true≢false (sym e))
opens_last (Tok.keyword k) m ts e b = absurd (true≢false (sym e))
opens_last (Tok.symbol o) m ts e b = absurd (true≢false (sym e))
opens_last Tok.newline m ts e b = absurd (true≢false (sym e))
opens_last Tok.indent m ts e b = absurd (true≢false (sym e))
opens_last Tok.dedent m ts e b = absurd (true≢false (sym e))
opens_last Tok.done m ts e b = absurd (true≢false (sym e))
opens_last (Tok.fault f) m ts e b = b

module _ (s : List ℕ) where
  levels_kept : Kept s (λ m ls p ts. OpenLevels m (length ls) ts)
  levels_kept = record {
    blank = λ c ls p ts h e x. x;
    blank_inside = λ ls p ts h e x. x;
    empty_line = λ c ls p ts h e x. x;
    newline = λ ls p ts h e x. x;
    remark = λ c ls p ts h e f x. x;
    remark_inside = λ ls p ts h e f x. x;
    token = λ ls p ts h b f x. opens_none (token_at s p) (length ls) ts (scan_bytes (drop p s) f) x;
    fault = λ ls p ts h b f x. opens_last (token_at s p) (length ls) ts f x;
    fault_first = λ c ls p ts h b f x. opens_last (token_at s p) (length ls) ts f x;
    same = λ c ls p ts h b f e x. opens_none (token_at s p) (length ls) ts (scan_bytes (drop p s) f) x;
    indent = λ c ls p ts h b f e x. opens_none (token_at s p) (length ls + 1) ts (scan_bytes (drop p s) f) (subst (λ (n : ℕ). Balanced n ts) (omega arith) x);
    dedent = λ c l ls p ts h b f e x. (omega arith, subst (λ (n : ℕ). Balanced n ts) (omega arith) x);
    nowhere = λ c ls p ts h b f e x. x;
    over = λ ls p ts h x. x;
    last_line = λ ls ts x. x;
    last_dedent = λ c l ls ts x. (omega arith, subst (λ (n : ℕ). Balanced n ts) (omega arith) x);
    done = λ c. (refl, refl);
    nothing = λ ls. refl;
  }

pub laws : TokensStand
laws s = record {
  reads = reads s;
  ascends = ascends s true 0 (tokens s) (reads s);
  balanced = kept_all s (λ m ls p ts. OpenLevels m (length ls) ts) (levels_kept s);
  leveled = leveled s;
}
