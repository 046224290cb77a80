-- Lines and levels: what the rules of the automaton keep of them.
use Rattle.std.proofs.Common.{◌≡◌, ℕ, suc, ◌+◌, ◌<◌, Bool, true, false, cond, not, ◌||◌, eqb, ltb, List, [], ◌∷◌, length, get_or, drop, Some, None, Option, sym, refl, ap, ◌∙◌, subst, arith, length-drop}
use Rattle.std.specs.List.{prefix_len}
use Rattle.std.proofs.lemmas.List.{get_or-drop}
use Rattle.std.proofs.lemmas.List.Sums.{fold_more}
use Rattle.std.proofs.lemmas.Bool.{true≢false, cond-true, cond-false, ltb-true, ltb-false, eqb-true, eqb-false, ne_eqb, not-false}
use Rattle.lexis.specs.Bytes.{class_of, among}
use Rattle.lexis.specs.Levels.{advanced, column, Settles, Leveled}
use Rattle.lexis.specs.Lines.{is_fault, is_open, top_level, level_of, widened, tokens}
use Rattle.lexis.specs.Runs.{in_run, ends_line, starts}
use Rattle.lexis.specs.Scans.{scan_by, named, numbered, texted, marked}
use Rattle.lexis.specs.Tokens.{Tok}
use Rattle.lexis.specs.Written.{has_bytes}
use Rattle.lexis.specs.declared.bytes.Class.{Class}
use Rattle.lexis.specs.declared.bytes.Class.TheVariants.{Blank, LineEnd, Hash, Letter, Digit, Quote, Mark, Other}
use Rattle.lexis.specs.declared.lines.Level.{Level}
use Rattle.lexis.specs.declared.lines.Mode.{Mode}
use Rattle.lexis.specs.declared.scans.Run.{Run}
use Rattle.lexis.specs.declared.tokens.Keyword.{Keyword}
use Rattle.lexis.specs.declared.tokens.Symbol.{Symbol}
use Rattle.lexis.proofs.Rules.{Kept, kept_all, byte_at, class_at, token_at, comment_at}
use Rattle.lexis.proofs.Spelling.{scan_bytes}

-- a run stops at its end
stop_step : (f : ℕ → Bool) (x : ℕ) (xs : List ℕ) (t : Bool) → f x ≡ t → (prefix_len f xs < length xs → f (get_or xs (prefix_len f xs) 0) ≡ false) → cond t (1 + prefix_len f xs) 0 < suc (length xs) → f (get_or (x ∷ xs) (cond t (1 + prefix_len f xs) 0) 0) ≡ false
stop_step f x xs true e more h =
    let n : suc (prefix_len f xs) ≡ 1 + prefix_len f xs = omega arith in
    subst (λ (j : ℕ). f (get_or (x ∷ xs) j 0) ≡ false) n (more (omega arith))
stop_step f x xs false e more h = e

run_stops : (f : ℕ → Bool) (xs : List ℕ) → prefix_len f xs < length xs → f (get_or xs (prefix_len f xs) 0) ≡ false
run_stops f [] h = absurd (omega arith)
run_stops f (x ∷ xs) h = stop_step f x xs (f x) refl (run_stops f xs) h

no_end : (k : Class) → starts k ≡ true → ends_line k ≡ false
no_end Blank e = refl
no_end LineEnd e = absurd (true≢false (sym e))
no_end Hash e = refl
no_end Letter e = refl
no_end Digit e = refl
no_end Quote e = refl
no_end Mark e = refl
no_end Other e = refl

-- how a column stands to the innermost level
pub picks_same : (a b o : Bool) → Level.Same ≡ cond a Level.Deeper (cond b Level.Same (cond o Level.Shallower Level.Nowhere)) → b ≡ true
picks_same true b o e = cc
picks_same false true o e = refl
picks_same false false true e = cc
picks_same false false false e = cc

pub picks_deeper : (a b o : Bool) → Level.Deeper ≡ cond a Level.Deeper (cond b Level.Same (cond o Level.Shallower Level.Nowhere)) → a ≡ true
picks_deeper true b o e = refl
picks_deeper false true o e = cc
picks_deeper false false true e = cc
picks_deeper false false false e = cc

abbrev pub Under : Bool → Bool → Type 0
Under a b = (a ≡ false) × (b ≡ false)

pub picks_shallower : (a b o : Bool) → Level.Shallower ≡ cond a Level.Deeper (cond b Level.Same (cond o Level.Shallower Level.Nowhere)) → Under a b
picks_shallower true b o e = (cc, cc)
picks_shallower false true o e = (cc, cc)
picks_shallower false false o e = (refl, refl)

pub picks_nowhere : (a b o : Bool) → Level.Nowhere ≡ cond a Level.Deeper (cond b Level.Same (cond o Level.Shallower Level.Nowhere)) → Under a b × (o ≡ false)
picks_nowhere true b o e = ((cc, cc), cc)
picks_nowhere false true o e = ((cc, cc), cc)
picks_nowhere false false true e = ((cc, cc), cc)
picks_nowhere false false false e = ((refl, refl), refl)

pub below : (c t : ℕ) → Under (ltb t c) (eqb t c) → c < t
below c t u =
    let a = ltb-false t c u.0 in
    let b = eqb-false t c u.1 in
    omega (arith, a, b)

pub picks_open : (a b o : Bool) → Level.Shallower ≡ cond a Level.Deeper (cond b Level.Same (cond o Level.Shallower Level.Nowhere)) → o ≡ true
picks_open true b o e = cc
picks_open false true o e = cc
picks_open false false true e = refl
picks_open false false false e = cc

-- the level of a line at another open level is among the others
pub shallower_open : (c l : ℕ) (ls : List ℕ) → Level.Shallower ≡ level_of c (l ∷ ls) → is_open c ls ≡ true
shallower_open c l ls e =
    let here : is_open c (l ∷ ls) ≡ true = picks_open (ltb l c) (eqb l c) (is_open c (l ∷ ls)) e in
    let narrow : c < l = below c l (picks_shallower (ltb l c) (eqb l c) (is_open c (l ∷ ls)) e) in
    let other : eqb c l ≡ false = ne_eqb c l (λ q. omega arith) in
    ap (λ (t : Bool). eqb c 0 || (t || among ls c)) (sym other) ∙ here

module _ (s : List ℕ) where
  -- in the blanks of a line the column is known, up to the line's end
  abbrev pub Clear : ℕ → ℕ → Type 0
  Clear c p = p < length s → ends_line (class_at s p) ≡ false → c ≡ column s p

  abbrev Q : Mode → List ℕ → ℕ → List (ℕ × Tok) → Type 0
  Q (Mode.Fresh c) ls p ts = Clear c p → Leveled s true ls ts
  Q Mode.Inside ls p ts = Leveled s false ls ts
  Q Mode.Over ls p ts = ts ≡ []

  column_more : (p : ℕ) → p < length s → column s (p + 1) ≡ advanced (column s p) (get_or (drop p s) 0 0)
  column_more p h = fold_more advanced 0 s p 0 h ∙ ap (advanced (column s p)) (sym (byte_at s p))

  pub after_blank : (c p : ℕ) → p < length s → class_at s p ≡ Blank → c ≡ column s p → widened (get_or (drop p s) 0 0) c ≡ column s (p + 1)
  after_blank c p h e k = ap (widened (get_or (drop p s) 0 0)) k ∙ sym (column_more p h ∙ cond-false _ _ _ (ap ends_line e))

  pub after_end : (p : ℕ) → p < length s → class_at s p ≡ LineEnd → 0 ≡ column s (p + 1)
  after_end p h e = sym (column_more p h ∙ cond-true _ _ _ (ap ends_line e))

  pub after_remark : (p : ℕ) → p < length s → p + comment_at s p < length s → ends_line (class_at s (p + comment_at s p)) ≡ false → ⊥
  after_remark p h k e =
      let n = comment_at s p in
      let stops : not (ends_line (class_of (get_or (drop p s) n 0))) ≡ false = run_stops (in_run Run.Comment) (drop p s) (omega (arith, k, length-drop p s)) in
      let here : get_or (drop p s) n 0 ≡ get_or (drop (p + n) s) 0 0 = get_or-drop p s n 0 ∙ sym (byte_at s (p + n)) in
      let is : ends_line (class_of (get_or (drop (p + n) s) 0 0)) ≡ true = ap (λ (b : ℕ). ends_line (class_of b)) (sym here) ∙ not-false _ stops in
      true≢false (sym is ∙ e)

  -- the column of a line's first token
  pub at_start : (c p : ℕ) → p < length s → starts (class_at s p) ≡ true → Clear c p → c ≡ column s p
  at_start c p h b k = k h (no_end (class_at s p) b)

  plain : (first : Bool) (ls : List ℕ) (q : ℕ) (t : Tok) (ts : List (ℕ × Tok)) → has_bytes t ≡ true → (first ≡ true → column s q ≡ top_level ls) → Leveled s false ls ts → Settles s first ls q t ts (λ b k. Leveled s b k ts)
  plain first ls q (Tok.name w) ts e c x = (c, x)
  plain first ls q (Tok.str w) ts e c x = (c, x)
  plain first ls q (Tok.int n) ts e c x = (c, x)
  plain first ls q (Tok.keyword k) ts e c x = (c, x)
  plain first ls q (Tok.symbol o) ts e c x = (c, x)
  plain first ls q Tok.newline ts e c x = absurd (true≢false (sym e))
  plain first ls q Tok.indent ts e c x = absurd (true≢false (sym e))
  plain first ls q Tok.dedent ts e c x = absurd (true≢false (sym e))
  plain first ls q Tok.done ts e c x = absurd (true≢false (sym e))
  plain first ls q (Tok.fault f) ts e c x = absurd (true≢false (sym e))

  module _ (first : Bool) (ls : List ℕ) (q : ℕ) (ts : List (ℕ × Tok)) (x : ts ≡ []) where
    abbrev Ends : Tok → Type 0
    Ends t = Settles s first ls q t ts (λ b k. Leveled s b k ts)

    named_ends : (o : Option Keyword) (w : List ℕ) → is_fault (named o w) ≡ true → Ends (named o w)
    named_ends (Some k) w e = absurd (true≢false (sym e))
    named_ends None w e = absurd (true≢false (sym e))

    numbered_ends : (o : Option ℕ) → is_fault (numbered o) ≡ true → Ends (numbered o)
    numbered_ends (Some v) e = absurd (true≢false (sym e))
    numbered_ends None e = (tt, x)

    texted_ends : (r : List ℕ) (o : Option ℕ) → is_fault (texted r o).0 ≡ true → Ends (texted r o).0
    texted_ends r (Some v) e = absurd (true≢false (sym e))
    texted_ends r None e = (tt, x)

    marked_ends : (o : Option (Symbol × ℕ)) → is_fault (marked o).0 ≡ true → Ends (marked o).0
    marked_ends (Some v) e = absurd (true≢false (sym e))
    marked_ends None e = (tt, x)

    class_ends : (k : Class) (r : List ℕ) → is_fault (scan_by k r).0 ≡ true → Ends (scan_by k r).0
    class_ends Blank r e = (tt, x)
    class_ends LineEnd r e = (tt, x)
    class_ends Hash r e = (tt, x)
    class_ends Letter r e = named_ends _ _ e
    class_ends Digit r e = numbered_ends _ e
    class_ends Quote r e = texted_ends r _ e
    class_ends Mark r e = marked_ends _ e
    class_ends Other r e = (tt, x)

  scanned : (first : Bool) (ls : List ℕ) (p : ℕ) (ts : List (ℕ × Tok)) → is_fault (token_at s p) ≡ false → (first ≡ true → column s p ≡ top_level ls) → Leveled s false ls ts → Leveled s first ls ((p, token_at s p) ∷ ts)
  scanned first ls p ts f c x = plain first ls p (token_at s p) ts (scan_bytes (drop p s) f) c x

  kept : Kept s Q
  kept = record {
    blank = λ c ls p ts h e x k. x (λ _ _. after_blank c p h e (k h (ap ends_line e)));
    blank_inside = λ ls p ts h e x. x;
    empty_line = λ c ls p ts h e x k. x (λ _ _. after_end p h e);
    newline = λ ls p ts h e x. (refl, x (λ _ _. after_end p h e));
    remark = λ c ls p ts h e f x k. x (λ h2 e2. absurd (after_remark p h h2 e2));
    remark_inside = λ ls p ts h e f x. x;
    token = λ ls p ts h b f x. scanned false ls p ts f (λ e. absurd (true≢false (sym e))) x;
    fault = λ ls p ts h b f x. class_ends false ls p ts x (class_at s p) (drop p s) f;
    fault_first = λ c ls p ts h b f x k. class_ends true ls p ts x (class_at s p) (drop p s) f;
    same = λ c ls p ts h b f e x k. scanned true ls p ts f (λ _. sym (eqb-true (top_level ls) c (picks_same (ltb (top_level ls) c) (eqb (top_level ls) c) (is_open c ls) e) ∙ at_start c p h b k)) x;
    indent = λ c ls p ts h b f e x k.
        let is : c ≡ column s p = at_start c p h b k in
        let wide : top_level ls < c = ltb-true (top_level ls) c (picks_deeper (ltb (top_level ls) c) (eqb (top_level ls) c) (is_open c ls) e) in
        subst (λ (j : ℕ). (true ≡ true) × (top_level ls < j) × Leveled s true (j ∷ ls) ((p, token_at s p) ∷ ts)) is (refl, wide, scanned true (c ∷ ls) p ts f (λ _. sym is) x);
    dedent = λ c l ls p ts h b f e x k.
        let narrow : c < l = below c l (picks_shallower (ltb l c) (eqb l c) (is_open c (l ∷ ls)) e) in
        (refl, (l, ls, refl, (λ _. subst (λ (j : ℕ). (j < l) × (is_open j ls ≡ true)) (at_start c p h b k) (narrow, shallower_open c l ls e)), x k));
    nowhere = λ c ls p ts h b f e x k.
        let parts = picks_nowhere (ltb (top_level ls) c) (eqb (top_level ls) c) (is_open c ls) e in
        (subst (λ (j : ℕ). (true ≡ true) × (j < top_level ls) × (is_open j ls ≡ false)) (at_start c p h b k) (refl, below c (top_level ls) parts.0, parts.1), x);
    over = λ ls p ts h x. x;
    last_line = λ ls ts x. (refl, x (λ h _. absurd (omega arith)));
    last_dedent = λ c l ls ts x k. (refl, (l, ls, refl, (λ h. absurd (omega arith)), x k));
    done = λ c k. (refl, refl, refl, refl);
    nothing = λ ls. refl;
  }

  pub leveled : Leveled s true [] (tokens s)
  leveled = kept_all s Q kept (λ _ _. refl)
