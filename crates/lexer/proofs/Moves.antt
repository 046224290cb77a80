-- What each move of the lexer gives and leaves.
use Rattle.std.proofs.Common.{◌≡◌, ℕ, zero, suc, ◌+◌, ◌-◌, ◌<◌, ◌≤◌, true, false, ◌||◌, List, [], ◌∷◌, ◌++◌, length, get_or, drop, Option, sym, refl, ap, ◌∙◌, arith, length-drop}
use Rattle.std.specs.Option.{option_to_list}
use Rattle.std.proofs.lemmas.List.{drop_more}
use Rattle.std.proofs.lemmas.Bool.{true≢false, cond-true, cond-false, lt-ltb}
use Rattle.lexis.specs.Bytes.{class_of}
use Rattle.lexis.specs.declared.bytes.Class.{Class}
use Rattle.lexis.specs.declared.bytes.Class.TheVariants.{Blank, LineEnd, Hash, Letter, Digit, Quote, Mark, Other}
use Rattle.stack.specs.Held.{top_of}
use Rattle.lexer.specs.Gaps.{is_space, is_gap}
use Rattle.lexer.specs.Room.{within}
use Rattle.lexer.proofs.Rooms.{is_level, within_plain, within_indent, within_full, scan_plain}
use Rattle.lexis.specs.Lines.{lex, in_line, gives, before, halt, begun, settle, choose, level_of, after, is_fault, inside_by, fresh_by}
use Rattle.lexis.specs.Tokens.{Tok}
use Rattle.lexis.specs.Runs.{ends_line}
use Rattle.lexis.specs.Scans.{scan_of}
use Rattle.lexis.specs.declared.lines.Level.{Level}
use Rattle.lexis.specs.declared.lines.Mode.{Mode}
use Rattle.lexis.specs.declared.faults.Fault.{Fault}
use Rattle.lexis.proofs.Going.{goes, inside_move, fresh_move, passed}
use Rattle.lexis.proofs.Sizes.{scan_size}

inside_token : (k : Class) (p : ℕ) (ls r : List ℕ) → is_space k ≡ false → ends_line k ≡ false → inside_by k p ls r ≡ in_line p ls (scan_of r)
inside_token Blank p ls r e f = absurd (true≢false e)
inside_token LineEnd p ls r e f = absurd (true≢false f)
inside_token Hash p ls r e f = absurd (true≢false e)
inside_token Letter p ls r e f = refl
inside_token Digit p ls r e f = refl
inside_token Quote p ls r e f = refl
inside_token Mark p ls r e f = refl
inside_token Other p ls r e f = refl

inside_end : (k : Class) (p : ℕ) (ls r : List ℕ) → ends_line k ≡ true → inside_by k p ls r ≡ gives p Tok.newline (Mode.Fresh 0) ls 0
inside_end Blank p ls r f = absurd (true≢false (sym f))
inside_end LineEnd p ls r f = refl
inside_end Hash p ls r f = absurd (true≢false (sym f))
inside_end Letter p ls r f = absurd (true≢false (sym f))
inside_end Digit p ls r f = absurd (true≢false (sym f))
inside_end Quote p ls r f = absurd (true≢false (sym f))
inside_end Mark p ls r f = absurd (true≢false (sym f))
inside_end Other p ls r f = absurd (true≢false (sym f))

fresh_token : (k : Class) (p c : ℕ) (ls r : List ℕ) → (is_space k || ends_line k) ≡ false → fresh_by k p c ls r ≡ begun p c ls (scan_of r)
fresh_token Blank p c ls r e = absurd (true≢false e)
fresh_token LineEnd p c ls r e = absurd (true≢false e)
fresh_token Hash p c ls r e = absurd (true≢false e)
fresh_token Letter p c ls r e = refl
fresh_token Digit p c ls r e = refl
fresh_token Quote p c ls r e = refl
fresh_token Mark p c ls r e = refl
fresh_token Other p c ls r e = refl

gap_parts : (k : Class) → (is_space k || ends_line k) ≡ false → (is_space k ≡ false) × (ends_line k ≡ false)
gap_parts Blank e = absurd (true≢false e)
gap_parts LineEnd e = absurd (true≢false e)
gap_parts Hash e = absurd (true≢false e)
gap_parts Letter e = (refl, refl)
gap_parts Digit e = (refl, refl)
gap_parts Quote e = (refl, refl)
gap_parts Mark e = (refl, refl)
gap_parts Other e = (refl, refl)

-- nothing is left once it is over
pub lex_over : (ls : List ℕ) (k p : ℕ) (bs : List ℕ) → lex Mode.Over ls k p bs ≡ []
unfolding lex
lex_over ls zero p [] = refl
lex_over ls (suc k) p [] = refl
lex_over ls (suc k) p (b ∷ bs) = lex_over ls k (p + 1) bs
lex_over ls zero p (b ∷ bs) = lex_over ls 0 (p + 1) bs

never_shallow : (c : ℕ) → Level.Shallower ≡ level_of c [] → ⊥
never_shallow zero e = let z : ◌≡◌ {A = ℕ} 0 1 = cc in omega arith
never_shallow (suc n) e =
    let d : level_of (suc n) [] ≡ Level.Deeper = cond-true _ _ _ (lt-ltb 0 (suc n) (omega arith)) in
    let f : Level.Shallower ≡ Level.Deeper = e ∙ d in
    let z : ◌≡◌ {A = ℕ} 0 1 = cc in
    omega arith

module _ (p c : ℕ) (s : Tok × ℕ) where
  settle_same : (ls : List ℕ) → Level.Same ≡ level_of c ls → settle p c s ls ≡ in_line p ls s
  settle_same [] e = ap (λ (k : Level). choose k p c s [] (in_line p [] s)) (sym e)
  settle_same (l ∷ ls) e = ap (λ (k : Level). choose k p c s (l ∷ ls) (settle p c s ls)) (sym e)

  settle_deeper : (ls : List ℕ) → Level.Deeper ≡ level_of c ls → settle p c s ls ≡ before p Tok.indent (in_line p (c ∷ ls) s)
  settle_deeper [] e = ap (λ (k : Level). choose k p c s [] (in_line p [] s)) (sym e)
  settle_deeper (l ∷ ls) e = ap (λ (k : Level). choose k p c s (l ∷ ls) (settle p c s ls)) (sym e)

  settle_nowhere : (ls : List ℕ) → Level.Nowhere ≡ level_of c ls → settle p c s ls ≡ halt p Fault.Indentation ls
  settle_nowhere [] e = ap (λ (k : Level). choose k p c s [] (in_line p [] s)) (sym e)
  settle_nowhere (l ∷ ls) e = ap (λ (k : Level). choose k p c s (l ∷ ls) (settle p c s ls)) (sym e)

  -- o is what was popped
  settle_shallower : (ls rest : List ℕ) (o : Option ℕ) → ls ≡ option_to_list o ++ rest → o ≡ top_of ls → Level.Shallower ≡ level_of c ls → settle p c s ls ≡ before p Tok.dedent (settle p c s rest)
  settle_shallower [] rest o f g e = absurd (never_shallow c e)
  settle_shallower (l ∷ ls) rest o f g e =
      let popped : l ∷ ls ≡ l ∷ rest = f ∙ ap (λ (x : Option ℕ). option_to_list x ++ rest) g in
      let same : ls ≡ rest = cc in
      ap (λ (k : Level). choose k p c s (l ∷ ls) (settle p c s ls)) (sym e) ∙ ap (λ (x : List ℕ). before p Tok.dedent (settle p c s x)) same

-- the token t of n bytes stands at place p of s
module _ (s : List ℕ) (p : ℕ) (t : Tok) (n : ℕ) (h : p < length s) (q : (t, n) ≡ scan_of (drop p s)) where
  abbrev here : Class
  here = class_of (get_or s p 0)

  found : scan_of (get_or s p 0 ∷ drop (p + 1) s) ≡ (t, n)
  found = sym (q ∙ ap scan_of (drop_more s p 0 h))

  pub size : (1 ≤ n) × (p + n ≤ length s)
  size =
      let long = length-drop p s in
      let fit = scan_size (drop p s) (omega (arith, long)) in
      let e : n ≡ (scan_of (drop p s)).1 = ap (λ (x : Tok × ℕ). x.1) q in
      (omega (arith, fit, e), omega (arith, fit, e, long))

  -- it is given, whatever levels are free
  given : (free : ℕ) (ts : List (ℕ × Tok)) → within free ((p, t) ∷ ts) ≡ (p, t) ∷ within free ts
  given free ts = within_plain free p t ts (ap (λ (x : Tok × ℕ). is_level x.0) q ∙ scan_plain (drop p s))

  line_goes : (ls : List ℕ) → is_space here ≡ false → ends_line here ≡ false → lex Mode.Inside ls 0 p (drop p s) ≡ goes s p (in_line p ls (t, n))
  line_goes ls e f =
      inside_move s p ls here h refl ∙ ap (goes s p) (inside_token here p ls (get_or s p 0 ∷ drop (p + 1) s) e f)
      ∙ ap (λ (x : Tok × ℕ). goes s p (in_line p ls x)) found

  taken : (ls : List ℕ) (m : Mode) → m ≡ after t → goes s p (in_line p ls (t, n)) ≡ (p, t) ∷ lex m ls 0 (p + n) (drop (p + n) s)
  taken ls m e =
      ap (λ l. (p, t) ∷ l) (passed s p n (after t) ls size.0 size.1)
      ∙ ap (λ (x : Mode). (p, t) ∷ lex x ls 0 (p + n) (drop (p + n) s)) (sym e)

  pub token_inside : (free : ℕ) (ls : List ℕ) (m : Mode) → is_space here ≡ false → ends_line here ≡ false → m ≡ after t → within free (lex Mode.Inside ls 0 p (drop p s)) ≡ (p, t) ∷ within free (lex m ls 0 (p + n) (drop (p + n) s))
  token_inside free ls m e f g = ap (within free) (line_goes ls e f ∙ taken ls m g) ∙ given free (lex m ls 0 (p + n) (drop (p + n) s))

  start_goes : (c : ℕ) (ls : List ℕ) → is_gap (Mode.Fresh c) here ≡ false → lex (Mode.Fresh c) ls 0 p (drop p s) ≡ goes s p (begun p c ls (t, n))
  start_goes c ls e =
      fresh_move s p c ls here h refl ∙ ap (goes s p) (fresh_token here p c ls (get_or s p 0 ∷ drop (p + 1) s) e)
      ∙ ap (λ (x : Tok × ℕ). goes s p (begun p c ls x)) found

  pub wrong_first : (free c : ℕ) (ls : List ℕ) → is_gap (Mode.Fresh c) here ≡ false → is_fault t ≡ true → within free (lex (Mode.Fresh c) ls 0 p (drop p s)) ≡ (p, t) ∷ within free (lex Mode.Over ls 0 p (drop p s))
  wrong_first free c ls e w =
      ap (within free) (start_goes c ls e ∙ ap (goes s p) (cond-true _ _ _ w)
      ∙ ap (λ (m : Mode). (p, t) ∷ lex m ls (n - 1) (p + 1) (drop (p + 1) s)) (cond-true _ _ _ w)
      ∙ ap (λ l. (p, t) ∷ l) (lex_over ls (n - 1) (p + 1) (drop (p + 1) s) ∙ sym (lex_over ls 0 p (drop p s))))
      ∙ given free (lex Mode.Over ls 0 p (drop p s))

  module _ (c : ℕ) (e : is_gap (Mode.Fresh c) here ≡ false) (w : is_fault t ≡ false) where
    settles : (ls : List ℕ) → lex (Mode.Fresh c) ls 0 p (drop p s) ≡ goes s p (settle p c (t, n) ls)
    settles ls = start_goes c ls e ∙ ap (goes s p) (cond-false _ _ _ w)

    inner : after t ≡ Mode.Inside
    inner = cond-false _ _ _ w

    pub same_first : (free : ℕ) (ls : List ℕ) → Level.Same ≡ level_of c ls → within free (lex (Mode.Fresh c) ls 0 p (drop p s)) ≡ (p, t) ∷ within free (lex Mode.Inside ls 0 (p + n) (drop (p + n) s))
    same_first free ls l = ap (within free) (settles ls ∙ ap (goes s p) (settle_same p c (t, n) ls l) ∙ taken ls Mode.Inside (sym inner)) ∙ given free (lex Mode.Inside ls 0 (p + n) (drop (p + n) s))

    pub nowhere_first : (free : ℕ) (ls : List ℕ) → Level.Nowhere ≡ level_of c ls → within free (lex (Mode.Fresh c) ls 0 p (drop p s)) ≡ (p, Tok.fault Fault.Indentation) ∷ within free (lex Mode.Over ls 0 p (drop p s))
    nowhere_first free ls l =
        ap (within free) (settles ls ∙ ap (goes s p) (settle_nowhere p c (t, n) ls l)
        ∙ ap (λ x. (p, Tok.fault Fault.Indentation) ∷ x) (lex_over ls 0 (p + 1) (drop (p + 1) s) ∙ sym (lex_over ls 0 p (drop p s))))

    deeper : (ls : List ℕ) → Level.Deeper ≡ level_of c ls → lex (Mode.Fresh c) ls 0 p (drop p s) ≡ (p, Tok.indent) ∷ lex Mode.Inside (c ∷ ls) 0 p (drop p s)
    deeper ls l =
        let parts = gap_parts here e in
        settles ls ∙ ap (goes s p) (settle_deeper p c (t, n) ls l)
        ∙ ap (λ x. (p, Tok.indent) ∷ x) (sym (line_goes (c ∷ ls) parts.0 parts.1))

    pub deeper_first : (free : ℕ) (ls : List ℕ) → Level.Deeper ≡ level_of c ls → 0 < free → within free (lex (Mode.Fresh c) ls 0 p (drop p s)) ≡ (p, Tok.indent) ∷ within (free - 1) (lex Mode.Inside (c ∷ ls) 0 p (drop p s))
    deeper_first free ls l f = ap (within free) (deeper ls l) ∙ within_indent free p (lex Mode.Inside (c ∷ ls) 0 p (drop p s)) f

    pub full_first : (free : ℕ) (ls : List ℕ) → Level.Deeper ≡ level_of c ls → free ≡ 0 → within free (lex (Mode.Fresh c) ls 0 p (drop p s)) ≡ (p, Tok.fault Fault.Indentation) ∷ []
    full_first free ls l f = ap (within free) (deeper ls l) ∙ within_full free p (lex Mode.Inside (c ∷ ls) 0 p (drop p s)) f

    pub shallower_first : (free : ℕ) (ls rest : List ℕ) (o : Option ℕ) → ls ≡ option_to_list o ++ rest → o ≡ top_of ls → Level.Shallower ≡ level_of c ls → within free (lex (Mode.Fresh c) ls 0 p (drop p s)) ≡ (p, Tok.dedent) ∷ within (free + 1) (lex (Mode.Fresh c) rest 0 p (drop p s))
    shallower_first free ls rest o f g l =
        ap (within free) (settles ls ∙ ap (goes s p) (settle_shallower p c (t, n) ls rest o f g l)
        ∙ ap (λ x. (p, Tok.dedent) ∷ x) (sym (settles rest)))

-- a level fewer is open
pub one_fewer : (c : ℕ) (ls rest : List ℕ) (o : Option ℕ) → ls ≡ option_to_list o ++ rest → o ≡ top_of ls → Level.Shallower ≡ level_of c ls → length ls ≡ 1 + length rest
one_fewer c [] rest o f g e = absurd (never_shallow c e)
one_fewer c (l ∷ ls) rest o f g e =
    let popped : l ∷ ls ≡ l ∷ rest = f ∙ ap (λ (x : Option ℕ). option_to_list x ++ rest) g in
    omega (arith, ap length popped)

pub newline_inside : (free : ℕ) (s : List ℕ) (p : ℕ) (ls : List ℕ) → p < length s → ends_line (class_of (get_or s p 0)) ≡ true → within free (lex Mode.Inside ls 0 p (drop p s)) ≡ (p, Tok.newline) ∷ within free (lex (Mode.Fresh 0) ls 0 (p + 1) (drop (p + 1) s))
newline_inside free s p ls h f =
    ap (within free) (inside_move s p ls (class_of (get_or s p 0)) h refl ∙ ap (goes s p) (inside_end (class_of (get_or s p 0)) p ls (get_or s p 0 ∷ drop (p + 1) s) f))
