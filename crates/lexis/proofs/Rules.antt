-- The automaton as a list of rules: what keeps all of them holds of the tokens of a source.
use Rattle.std.proofs.Common.{◌≡◌, ℕ, zero, suc, ◌+◌, ◌-◌, ◌<◌, ◌≤◌, Bool, true, false, cond, not, List, [], ◌∷◌, ◌++◌, length, get_or, drop, sym, refl, ap, ◌∙◌, subst, add-zero, arith, length-drop}
use Rattle.std.specs.List.{prefix_len}
use Rattle.std.proofs.lemmas.List.{drop_more, get_or-drop}
use Rattle.std.proofs.lemmas.List.Sums.{prefix_len-le-length, prefix_len-drop_yes}
use Rattle.std.proofs.lemmas.Bool.{cond-true, cond-false, lt-ltb}
use Rattle.lexis.specs.Bytes.{class_of}
use Rattle.lexis.specs.Lines.{Move, in_line, choose, settle, level_of, is_fault, after, widened, fresh_by, inside_by, move, closing, ending, lex, tokens}
use Rattle.lexis.specs.Runs.{in_run, ends_line, starts}
use Rattle.lexis.specs.Scans.{scan_of}
use Rattle.lexis.specs.Tokens.{Tok}
use Rattle.lexis.specs.declared.bytes.Class.{Class}
use Rattle.lexis.specs.declared.bytes.Class.TheVariants.{Blank, LineEnd, Hash, Letter, Digit, Quote, Mark, Other}
use Rattle.lexis.specs.declared.faults.Fault.{Fault}
use Rattle.lexis.specs.declared.lines.Level.{Level}
use Rattle.lexis.specs.declared.lines.Mode.{Mode}
use Rattle.lexis.specs.declared.scans.Run.{Run}
use Rattle.lexis.proofs.Sizes.{Fit, scan_size}

pub never_shallow : (c : ℕ) → Level.Shallower ≡ level_of c [] → ⊥
never_shallow zero e = let z : ◌≡◌ {A = ℕ} 0 1 = cc in omega arith
never_shallow (suc n) e =
    let d : level_of (suc n) [] ≡ Level.Deeper = cond-true _ _ _ (lt-ltb 0 (suc n) (omega arith)) in
    let f : Level.Shallower ≡ Level.Deeper = e ∙ d in
    let z : ◌≡◌ {A = ℕ} 0 1 = cc in
    omega arith

-- the class of the byte at place p, the token there with its size, and the size of the comment there
abbrev pub class_at : List ℕ → ℕ → Class
class_at s p = class_of (get_or (drop p s) 0 0)

abbrev pub token_at : List ℕ → ℕ → Tok
token_at s p = (scan_of (drop p s)).0

abbrev pub size_at : List ℕ → ℕ → ℕ
size_at s p = (scan_of (drop p s)).1

abbrev pub comment_at : List ℕ → ℕ → ℕ
comment_at s p = prefix_len (in_run Run.Comment) (drop p s)

pub byte_at : (s : List ℕ) (p : ℕ) → get_or (drop p s) 0 0 ≡ get_or s p 0
byte_at s p = get_or-drop p s 0 0 ∙ ap (λ (j : ℕ). get_or s j 0) (add-zero p)

-- Q says of a mode, the open levels and a place what tokens may come
pub record Kept (s : List ℕ) (Q : Mode → List ℕ → ℕ → List (ℕ × Tok) → Type 0) : Type 0 where
  pub blank : (c : ℕ) (ls : List ℕ) (p : ℕ) (ts : List (ℕ × Tok)) → p < length s → class_at s p ≡ Blank → Q (Mode.Fresh (widened (get_or (drop p s) 0 0) c)) ls (p + 1) ts → Q (Mode.Fresh c) ls p ts
  pub blank_inside : (ls : List ℕ) (p : ℕ) (ts : List (ℕ × Tok)) → p < length s → class_at s p ≡ Blank → Q Mode.Inside ls (p + 1) ts → Q Mode.Inside ls p ts
  pub empty_line : (c : ℕ) (ls : List ℕ) (p : ℕ) (ts : List (ℕ × Tok)) → p < length s → class_at s p ≡ LineEnd → Q (Mode.Fresh 0) ls (p + 1) ts → Q (Mode.Fresh c) ls p ts
  pub newline : (ls : List ℕ) (p : ℕ) (ts : List (ℕ × Tok)) → p < length s → class_at s p ≡ LineEnd → Q (Mode.Fresh 0) ls (p + 1) ts → Q Mode.Inside ls p ((p, Tok.newline) ∷ ts)
  pub remark : (c : ℕ) (ls : List ℕ) (p : ℕ) (ts : List (ℕ × Tok)) → p < length s → class_at s p ≡ Hash → p + comment_at s p ≤ length s → Q (Mode.Fresh c) ls (p + comment_at s p) ts → Q (Mode.Fresh c) ls p ts
  pub remark_inside : (ls : List ℕ) (p : ℕ) (ts : List (ℕ × Tok)) → p < length s → class_at s p ≡ Hash → p + comment_at s p ≤ length s → Q Mode.Inside ls (p + comment_at s p) ts → Q Mode.Inside ls p ts
  pub token : (ls : List ℕ) (p : ℕ) (ts : List (ℕ × Tok)) → p < length s → starts (class_at s p) ≡ true → is_fault (token_at s p) ≡ false → Q Mode.Inside ls (p + size_at s p) ts → Q Mode.Inside ls p ((p, token_at s p) ∷ ts)
  pub fault : (ls : List ℕ) (p : ℕ) (ts : List (ℕ × Tok)) → p < length s → starts (class_at s p) ≡ true → is_fault (token_at s p) ≡ true → Q Mode.Over ls (p + size_at s p) ts → Q Mode.Inside ls p ((p, token_at s p) ∷ ts)
  pub fault_first : (c : ℕ) (ls : List ℕ) (p : ℕ) (ts : List (ℕ × Tok)) → p < length s → starts (class_at s p) ≡ true → is_fault (token_at s p) ≡ true → Q Mode.Over ls (p + size_at s p) ts → Q (Mode.Fresh c) ls p ((p, token_at s p) ∷ ts)
  pub same : (c : ℕ) (ls : List ℕ) (p : ℕ) (ts : List (ℕ × Tok)) → p < length s → starts (class_at s p) ≡ true → is_fault (token_at s p) ≡ false → Level.Same ≡ level_of c ls → Q Mode.Inside ls (p + size_at s p) ts → Q (Mode.Fresh c) ls p ((p, token_at s p) ∷ ts)
  pub indent : (c : ℕ) (ls : List ℕ) (p : ℕ) (ts : List (ℕ × Tok)) → p < length s → starts (class_at s p) ≡ true → is_fault (token_at s p) ≡ false → Level.Deeper ≡ level_of c ls → Q Mode.Inside (c ∷ ls) (p + size_at s p) ts → Q (Mode.Fresh c) ls p ((p, Tok.indent) ∷ (p, token_at s p) ∷ ts)
  pub dedent : (c l : ℕ) (ls : List ℕ) (p : ℕ) (ts : List (ℕ × Tok)) → p < length s → starts (class_at s p) ≡ true → is_fault (token_at s p) ≡ false → Level.Shallower ≡ level_of c (l ∷ ls) → Q (Mode.Fresh c) ls p ts → Q (Mode.Fresh c) (l ∷ ls) p ((p, Tok.dedent) ∷ ts)
  pub nowhere : (c : ℕ) (ls : List ℕ) (p : ℕ) (ts : List (ℕ × Tok)) → p < length s → starts (class_at s p) ≡ true → is_fault (token_at s p) ≡ false → Level.Nowhere ≡ level_of c ls → Q Mode.Over ls (p + 1) ts → Q (Mode.Fresh c) ls p ((p, Tok.fault Fault.Indentation) ∷ ts)
  pub over : (ls : List ℕ) (p : ℕ) (ts : List (ℕ × Tok)) → p < length s → Q Mode.Over ls (p + 1) ts → Q Mode.Over ls p ts
  pub last_line : (ls : List ℕ) (ts : List (ℕ × Tok)) → Q (Mode.Fresh 0) ls (length s) ts → Q Mode.Inside ls (length s) ((length s, Tok.newline) ∷ ts)
  pub last_dedent : (c l : ℕ) (ls : List ℕ) (ts : List (ℕ × Tok)) → Q (Mode.Fresh c) ls (length s) ts → Q (Mode.Fresh c) (l ∷ ls) (length s) ((length s, Tok.dedent) ∷ ts)
  pub done : (c : ℕ) → Q (Mode.Fresh c) [] (length s) ((length s, Tok.done) ∷ [])
  pub nothing : (ls : List ℕ) → Q Mode.Over ls (length s) []

module _ (s : List ℕ) (Q : Mode → List ℕ → ℕ → List (ℕ × Tok) → Type 0) (K : Kept s Q) where
  closes : (c : ℕ) (ls : List ℕ) → Q (Mode.Fresh c) ls (length s) (closing (length s) ls)
  closes c [] = K.done c
  closes c (l ∷ ls) = K.last_dedent c l ls (closing (length s) ls) (closes c ls)

  ends : (m : Mode) (ls : List ℕ) → Q m ls (length s) (ending m (length s) ls)
  ends (Mode.Fresh c) ls = closes c ls
  ends Mode.Inside ls = K.last_line ls (closing (length s) ls) (closes 0 ls)
  ends Mode.Over ls = K.nothing ls

  module _ (p : ℕ) (h : p < length s) where
    abbrev r : List ℕ
    r = drop p s

    fit : Fit (length r) (scan_of r)
    fit = scan_size r (omega (arith, length-drop p s))

    -- after a move, Q holds of what comes; so it holds before
    abbrev Back : Mode → List ℕ → Move → Type 0
    Back m ls v = (ts : List (ℕ × Tok)) → Q v.mode v.levels (p + 1 + v.skip) ts → Q m ls p (v.out ++ ts)

    to : (m : Mode) (ls : List ℕ) (ts : List (ℕ × Tok)) (a b : ℕ) → a ≡ b → Q m ls a ts → Q m ls b ts
    to m ls ts a b e q = subst (λ (j : ℕ). Q m ls j ts) e q

    module _ (b : starts (class_at s p) ≡ true) where
      line_back : (f : Bool) (ls : List ℕ) → is_fault (token_at s p) ≡ f → (ts : List (ℕ × Tok)) → Q (cond f Mode.Over Mode.Inside) ls (p + 1 + (size_at s p - 1)) ts → Q Mode.Inside ls p ((p, token_at s p) ∷ ts)
      line_back true ls e ts q = K.fault ls p ts h b e (to Mode.Over ls ts _ _ (omega (arith, fit)) q)
      line_back false ls e ts q = K.token ls p ts h b e (to Mode.Inside ls ts _ _ (omega (arith, fit)) q)

      in_line_back : (ls : List ℕ) → Back Mode.Inside ls (in_line p ls (scan_of r))
      in_line_back ls ts q = line_back (is_fault (token_at s p)) ls refl ts q

      inner : (ls : List ℕ) (ts : List (ℕ × Tok)) → is_fault (token_at s p) ≡ false → Q (after (token_at s p)) ls (p + 1 + (size_at s p - 1)) ts → Q Mode.Inside ls (p + size_at s p) ts
      inner ls ts f q = to Mode.Inside ls ts _ _ (omega (arith, fit)) (subst (λ (m : Mode). Q m ls (p + 1 + (size_at s p - 1)) ts) (cond-false _ _ _ f) q)

      choose_back : (c : ℕ) (k : Level) (ls : List ℕ) (v : Move) → is_fault (token_at s p) ≡ false → k ≡ level_of c ls
          → (Level.Shallower ≡ level_of c ls → (ts : List (ℕ × Tok)) → Q v.mode v.levels (p + 1 + v.skip) ts → Q (Mode.Fresh c) ls p ((p, Tok.dedent) ∷ (v.out ++ ts)))
          → Back (Mode.Fresh c) ls (choose k p c (scan_of r) ls v)
      choose_back c Level.Same ls v f e d ts q = K.same c ls p ts h b f e (inner ls ts f q)
      choose_back c Level.Deeper ls v f e d ts q = K.indent c ls p ts h b f e (inner (c ∷ ls) ts f q)
      choose_back c Level.Shallower ls v f e d ts q = d e ts q
      choose_back c Level.Nowhere ls v f e d ts q = K.nowhere c ls p ts h b f e (to Mode.Over ls ts _ _ (add-zero (p + 1)) q)

      settle_back : (c : ℕ) (ls : List ℕ) → is_fault (token_at s p) ≡ false → Back (Mode.Fresh c) ls (settle p c (scan_of r) ls)
      settle_back c [] f = choose_back c (level_of c []) [] (in_line p [] (scan_of r)) f refl (λ e ts q. absurd (never_shallow c e))
      settle_back c (l ∷ ls) f = choose_back c (level_of c (l ∷ ls)) (l ∷ ls) (settle p c (scan_of r) ls) f refl (λ e ts q. K.dedent c l ls p ((settle p c (scan_of r) ls).out ++ ts) h b f e (settle_back c ls f ts q))

      begun_back : (c : ℕ) (ls : List ℕ) (f : Bool) → is_fault (token_at s p) ≡ f → Back (Mode.Fresh c) ls (cond f (in_line p ls (scan_of r)) (settle p c (scan_of r) ls))
      begun_back c ls true e ts q = K.fault_first c ls p ts h b e (to Mode.Over ls ts _ _ (omega (arith, fit)) (subst (λ (m : Mode). Q m ls (p + 1 + (size_at s p - 1)) ts) (cond-true _ _ _ e) q))
      begun_back c ls false e ts q = settle_back c ls e ts q

    comment_fits : p + comment_at s p ≤ length s
    comment_fits = omega (arith, prefix_len-le-length (in_run Run.Comment) r, length-drop p s)

    -- a hash is part of its comment
    comment_some : class_at s p ≡ Hash → comment_at s p ≡ 1 + prefix_len (in_run Run.Comment) (drop (p + 1) s)
    comment_some e = prefix_len-drop_yes (in_run Run.Comment) s p 0 h (ap (in_run Run.Comment) (sym (byte_at s p)) ∙ ap (λ (k : Class). not (ends_line k)) e)

    fresh_back : (c : ℕ) (ls : List ℕ) (k : Class) → class_at s p ≡ k → Back (Mode.Fresh c) ls (fresh_by k p c ls r)
    fresh_back c ls Blank e ts q = K.blank c ls p ts h e (to _ ls ts _ _ (add-zero (p + 1)) q)
    fresh_back c ls LineEnd e ts q = K.empty_line c ls p ts h e (to _ ls ts _ _ (add-zero (p + 1)) q)
    fresh_back c ls Hash e ts q = K.remark c ls p ts h e comment_fits (to _ ls ts _ _ (omega (arith, comment_some e)) q)
    fresh_back c ls Letter e ts q = begun_back (ap starts e) c ls (is_fault (token_at s p)) refl ts q
    fresh_back c ls Digit e ts q = begun_back (ap starts e) c ls (is_fault (token_at s p)) refl ts q
    fresh_back c ls Quote e ts q = begun_back (ap starts e) c ls (is_fault (token_at s p)) refl ts q
    fresh_back c ls Mark e ts q = begun_back (ap starts e) c ls (is_fault (token_at s p)) refl ts q
    fresh_back c ls Other e ts q = begun_back (ap starts e) c ls (is_fault (token_at s p)) refl ts q

    inside_back : (ls : List ℕ) (k : Class) → class_at s p ≡ k → Back Mode.Inside ls (inside_by k p ls r)
    inside_back ls Blank e ts q = K.blank_inside ls p ts h e (to _ ls ts _ _ (add-zero (p + 1)) q)
    inside_back ls LineEnd e ts q = K.newline ls p ts h e (to _ ls ts _ _ (add-zero (p + 1)) q)
    inside_back ls Hash e ts q = K.remark_inside ls p ts h e comment_fits (to _ ls ts _ _ (omega (arith, comment_some e)) q)
    inside_back ls Letter e ts q = in_line_back (ap starts e) ls ts q
    inside_back ls Digit e ts q = in_line_back (ap starts e) ls ts q
    inside_back ls Quote e ts q = in_line_back (ap starts e) ls ts q
    inside_back ls Mark e ts q = in_line_back (ap starts e) ls ts q
    inside_back ls Other e ts q = in_line_back (ap starts e) ls ts q

    move_back : (m : Mode) (ls : List ℕ) → Back m ls (move m ls p r)
    move_back (Mode.Fresh c) ls ts q = fresh_back c ls (class_at s p) refl ts q
    move_back Mode.Inside ls ts q = inside_back ls (class_at s p) refl ts q
    move_back Mode.Over ls ts q = K.over ls p ts h (to _ ls ts _ _ (add-zero (p + 1)) q)

    -- no move goes past the end
    abbrev Fits : Move → Type 0
    Fits v = p + 1 + v.skip ≤ length s

    in_line_fits : (ls : List ℕ) → Fits (in_line p ls (scan_of r))
    in_line_fits ls = omega (arith, fit, length-drop p s)

    choose_fits : (c : ℕ) (k : Level) (ls : List ℕ) (v : Move) → Fits v → Fits (choose k p c (scan_of r) ls v)
    choose_fits c Level.Same ls v f = in_line_fits ls
    choose_fits c Level.Deeper ls v f = in_line_fits (c ∷ ls)
    choose_fits c Level.Shallower ls v f = f
    choose_fits c Level.Nowhere ls v f = omega arith

    settle_fits : (c : ℕ) (ls : List ℕ) → Fits (settle p c (scan_of r) ls)
    settle_fits c [] = choose_fits c (level_of c []) [] (in_line p [] (scan_of r)) (in_line_fits [])
    settle_fits c (l ∷ ls) = choose_fits c (level_of c (l ∷ ls)) (l ∷ ls) (settle p c (scan_of r) ls) (settle_fits c ls)

    begun_fits : (c : ℕ) (ls : List ℕ) (f : Bool) → Fits (cond f (in_line p ls (scan_of r)) (settle p c (scan_of r) ls))
    begun_fits c ls true = in_line_fits ls
    begun_fits c ls false = settle_fits c ls

    fresh_fits : (c : ℕ) (ls : List ℕ) (k : Class) → class_at s p ≡ k → Fits (fresh_by k p c ls r)
    fresh_fits c ls Blank e = omega arith
    fresh_fits c ls LineEnd e = omega arith
    fresh_fits c ls Hash e = omega (arith, comment_some e, comment_fits)
    fresh_fits c ls Letter e = begun_fits c ls (is_fault (token_at s p))
    fresh_fits c ls Digit e = begun_fits c ls (is_fault (token_at s p))
    fresh_fits c ls Quote e = begun_fits c ls (is_fault (token_at s p))
    fresh_fits c ls Mark e = begun_fits c ls (is_fault (token_at s p))
    fresh_fits c ls Other e = begun_fits c ls (is_fault (token_at s p))

    inside_fits : (ls : List ℕ) (k : Class) → class_at s p ≡ k → Fits (inside_by k p ls r)
    inside_fits ls Blank e = omega arith
    inside_fits ls LineEnd e = omega arith
    inside_fits ls Hash e = omega (arith, comment_some e, comment_fits)
    inside_fits ls Letter e = in_line_fits ls
    inside_fits ls Digit e = in_line_fits ls
    inside_fits ls Quote e = in_line_fits ls
    inside_fits ls Mark e = in_line_fits ls
    inside_fits ls Other e = in_line_fits ls

    move_fits : (m : Mode) (ls : List ℕ) → Fits (move m ls p r)
    move_fits (Mode.Fresh c) ls = fresh_fits c ls (class_at s p) refl
    move_fits Mode.Inside ls = inside_fits ls (class_at s p) refl
    move_fits Mode.Over ls = omega arith

  abbrev after_move : (m : Mode) (ls : List ℕ) (p : ℕ) (bs r : List ℕ) → List (ℕ × Tok)
  after_move m ls p bs r = let v = move m ls p r in lex v.mode v.levels v.skip (p + 1) bs

  holds : (bs : List ℕ) (m : Mode) (ls : List ℕ) (k p : ℕ) → bs ≡ drop p s → p + k ≤ length s → Q m ls (p + k) (lex m ls k p bs)
  unfolding lex
  holds [] m ls zero p e h =
      let end : length s ≡ p = omega (arith, length-drop p s, ap length e) in
      subst (λ (q : ℕ). Q m ls (q + 0) (ending m q ls)) end (subst (λ (q : ℕ). Q m ls q (ending m (length s) ls)) (sym (add-zero (length s))) (ends m ls))
  holds [] m ls (suc k) p e h = absurd (omega (arith, length-drop p s, ap length e))
  holds (b ∷ bs) m ls (suc k) p e h =
      let lt : p < length s = omega (arith, length-drop p s, ap length e) in
      let more : b ∷ bs ≡ get_or s p 0 ∷ drop (p + 1) s = e ∙ drop_more s p 0 lt in
      let next : bs ≡ drop (p + 1) s = cc in
      let q : p + 1 + k ≡ p + suc k = omega arith in
      subst (λ (j : ℕ). Q m ls j (lex m ls k (p + 1) bs)) q (holds bs m ls k (p + 1) next (omega arith))
  holds (b ∷ bs) m ls zero p e h =
      let lt : p < length s = omega (arith, length-drop p s, ap length e) in
      let more : b ∷ bs ≡ get_or s p 0 ∷ drop (p + 1) s = e ∙ drop_more s p 0 lt in
      let next : bs ≡ drop (p + 1) s = cc in
      let v : Move = move m ls p (drop p s) in
      let came = holds bs v.mode v.levels v.skip (p + 1) next (move_fits p lt m ls) in
      subst (λ (j : ℕ). Q m ls j ((move m ls p (b ∷ bs)).out ++ after_move m ls p bs (b ∷ bs))) (sym (add-zero p))
      (subst (λ (r : List ℕ). Q m ls p ((move m ls p r).out ++ after_move m ls p bs r)) (sym e) (move_back p lt m ls (after_move m ls p bs (drop p s)) came))

  pub kept_all : Q (Mode.Fresh 0) [] 0 (tokens s)
  kept_all = holds s (Mode.Fresh 0) [] 0 0 refl (omega arith)
