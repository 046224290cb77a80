-- The bytes of a scanned token are that token's.
use Rattle.std.proofs.Common.{◌≡◌, ℕ, suc, ◌+◌, ◌-◌, ◌<◌, ◌≤◌, Bool, true, false, cond, ◌&&◌, eqb, ltb, leb, List, [], ◌∷◌, ◌++◌, length, get_or, take, is_some, Some, None, fold, Option, sym, refl, ap, ◌∙◌, subst, arith}
use Rattle.std.specs.List.{prefix_len}
use Rattle.std.specs.Str.{bytes_eq}
use Rattle.std.proofs.lemmas.List.{get_or-take, take_more}
use Rattle.std.proofs.lemmas.Bool.{true≢false, and_from, and_parts, eqb-true}
use Rattle.lexis.specs.Bytes.{class_of, is_blank, is_line_end, is_letter, is_digit, is_mark}
use Rattle.lexis.specs.Lines.{is_fault}
use Rattle.lexis.specs.Numbers.{number_of}
use Rattle.lexis.specs.Runs.{in_run}
use Rattle.lexis.specs.Scans.{scan_of, scan_by, named, numbered, texted, marked}
use Rattle.lexis.specs.Texts.{escape_of, text_step, text_end, ends, is_inside}
use Rattle.lexis.specs.Words.{beside, doubles, singles, either, symbol_of, symbol_bytes, spelled, keywords, keyword_of, first_spelled}
use Rattle.lexis.specs.Written.{every, Writes, has_bytes}
use Rattle.lexis.specs.declared.bytes.Class.{Class}
use Rattle.lexis.specs.declared.bytes.Class.TheVariants.{Blank, LineEnd, Hash, Letter, Digit, Quote, Mark, Other}
use Rattle.lexis.specs.declared.scans.Quoted.{Quoted}
use Rattle.lexis.specs.declared.scans.Run.{Run}
use Rattle.lexis.specs.declared.tokens.Keyword.{Keyword}
use Rattle.lexis.specs.declared.tokens.Symbol.{Symbol}
use Rattle.lexis.proofs.Sizes.{scan_size, none_ends}

pub same_bytes : (xs ys : List ℕ) → bytes_eq xs ys ≡ true → xs ≡ ys
same_bytes [] [] e = refl
same_bytes [] (y ∷ ys) e = cc
same_bytes (x ∷ xs) [] e = cc
same_bytes (x ∷ xs) (y ∷ ys) e =
    let both = and_parts (eqb x y) (bytes_eq xs ys) e in
    λ i. eqb-true x y both.0 i ∷ same_bytes xs ys both.1 i

-- a run
module _ (f : ℕ → Bool) where
  run_step : (x : ℕ) (xs : List ℕ) (t : Bool) → f x ≡ t → every f (take (prefix_len f xs) xs) ≡ true → every f (take (cond t (1 + prefix_len f xs) 0) (x ∷ xs)) ≡ true
  run_step x xs true e h =
      let one : suc (prefix_len f xs) ≡ 1 + prefix_len f xs = omega arith in
      subst (λ (n : ℕ). every f (take n (x ∷ xs)) ≡ true) one (and_from (f x) _ e h)
  run_step x xs false e h = refl

  every_leading : (xs : List ℕ) → every f (take (prefix_len f xs) xs) ≡ true
  every_leading [] = refl
  every_leading (x ∷ xs) = run_step x xs (f x) refl (every_leading xs)

-- keywords
spelled_step : (k : Keyword) (ks : List Keyword) (w : List ℕ) (j : Keyword) (t : Bool) → bytes_eq (spelled k) w ≡ t → (first_spelled ks w ≡ Some j → spelled j ≡ w) → cond t (Some k) (first_spelled ks w) ≡ Some j → spelled j ≡ w
spelled_step k ks w j true e more h =
    let is : k ≡ j = cc in
    ap spelled (sym is) ∙ same_bytes (spelled k) w e
spelled_step k ks w j false e more h = more h

first_is : (ks : List Keyword) (w : List ℕ) (j : Keyword) → first_spelled ks w ≡ Some j → spelled j ≡ w
first_is [] w j h = cc
first_is (k ∷ ks) w j h = spelled_step k ks w j (bytes_eq (spelled k) w) refl (first_is ks w j) h

word_writes : (r : List ℕ) (n : ℕ) (o : Option Keyword) → keyword_of (take n r) ≡ o → class_of (get_or (take n r) 0 0) ≡ Letter → every (in_run Run.Word) (take n r) ≡ true → Writes (named o (take n r)) (take n r)
word_writes r n (Some k) e c h = sym (first_is keywords (take n r) k e)
word_writes r n None e c h = (refl, c, h, e)

-- numbers
number_writes : (u : List ℕ) (o : Option ℕ) → number_of u ≡ o → every (in_run Run.Digits) u ≡ true → is_fault (numbered o) ≡ false → Writes (numbered o) u
number_writes u (Some v) e h f = (h, e)
number_writes u None e h f = absurd (true≢false f)

-- strings
abbrev pub Open : Quoted → Type 0
Open (Quoted.Plain v) = Unit {0}
Open (Quoted.Escaped v) = Unit {0}
Open Quoted.Closed = ⊥
Open Quoted.Bad = ⊥

plain_closes : (t u w y : Bool) (v : ℕ) → cond t Quoted.Closed (cond u (Quoted.Escaped v) (cond w (cond y (Quoted.Plain (v + 1)) Quoted.Bad) Quoted.Bad)) ≡ Quoted.Closed → t ≡ true
plain_closes true u w y v e = refl
plain_closes false true w y v e = cc
plain_closes false false true true v e = cc
plain_closes false false true false v e = cc
plain_closes false false false y v e = cc

never_closes : (t y : Bool) (v b : ℕ) → cond t (cond y (Quoted.Plain (v + 1)) Quoted.Bad) Quoted.Bad ≡ Quoted.Closed → b ≡ 34
never_closes true true v b e = cc
never_closes true false v b e = cc
never_closes false y v b e = cc

closes_at : (q : Quoted) (b : ℕ) → Open q → text_step q b ≡ Quoted.Closed → b ≡ 34
closes_at (Quoted.Plain v) b o e = eqb-true b 34 (plain_closes (eqb b 34) (eqb b 92) (leb 32 b && leb b 126) (ltb v 255) v e)
closes_at (Quoted.Escaped v) b o e = never_closes (is_some (escape_of b)) (ltb v 255) v b e
closes_at Quoted.Closed b o e = absurd o
closes_at Quoted.Bad b o e = absurd o

abbrev Lies : ℕ → List ℕ → ℕ → Type 0
Lies p bs e = (p ≤ e) × (e - p < length bs) × (get_or bs (e - p) 0 ≡ 34)

abbrev Held : Quoted → ℕ → List ℕ → ℕ → Type 0
Held q p bs e = is_inside (fold text_step q (take (e - p) bs)) ≡ true

lies_on : (p b : ℕ) (bs : List ℕ) (e : ℕ) → Lies (p + 1) bs e → Lies p (b ∷ bs) e
lies_on p b bs e l =
    let n : e - p ≡ suc (e - (p + 1)) = omega (arith, l.0) in
    (omega (arith, l.0), omega (arith, l.1, n), ap (λ (j : ℕ). get_or (b ∷ bs) j 0) n ∙ l.2)

quoted_step : (q r : Quoted) (p b : ℕ) (bs : List ℕ) (e : ℕ) → Open q → text_step q b ≡ r → (Open r → text_end r (p + 1) bs ≡ Some e → Lies (p + 1) bs e) → ends r p (text_end r (p + 1) bs) ≡ Some e → Lies p (b ∷ bs) e
quoted_step q (Quoted.Plain v) p b bs e o s more h = lies_on p b bs e (more tt h)
quoted_step q (Quoted.Escaped v) p b bs e o s more h = lies_on p b bs e (more tt h)
quoted_step q Quoted.Closed p b bs e o s more h =
    let is : p ≡ e = cc in
    let none : e - p ≡ 0 = omega arith in
    (omega arith, omega arith, ap (λ (j : ℕ). get_or (b ∷ bs) j 0) none ∙ closes_at q b o s)
quoted_step q Quoted.Bad p b bs e o s more h = let z : ◌≡◌ {A = ℕ} 0 1 = cc in absurd (omega arith)

quoted : (q : Quoted) (p : ℕ) (bs : List ℕ) (e : ℕ) → Open q → text_end q p bs ≡ Some e → Lies p bs e
quoted q p [] e o h = let z : ◌≡◌ {A = ℕ} 0 1 = cc in absurd (omega arith)
quoted q p (b ∷ bs) e o h = quoted_step q (text_step q b) p b bs e o refl (quoted (text_step q b) (p + 1) bs e) h

escaped_never : (t y : Bool) (v : ℕ) → cond t (cond y (Quoted.Plain (v + 1)) Quoted.Bad) Quoted.Bad ≡ Quoted.Closed → false ≡ true
escaped_never true true v e = cc
escaped_never true false v e = cc
escaped_never false y v e = cc

closes_inside : (q : Quoted) (b : ℕ) → Open q → text_step q b ≡ Quoted.Closed → is_inside q ≡ true
closes_inside (Quoted.Plain v) b o e = refl
closes_inside (Quoted.Escaped v) b o e = escaped_never (is_some (escape_of b)) (ltb v 255) v e
closes_inside Quoted.Closed b o e = absurd o
closes_inside Quoted.Bad b o e = absurd o

inside_on : (q r : Quoted) (p b : ℕ) (bs : List ℕ) (e : ℕ) → text_step q b ≡ r → p + 1 ≤ e → Held r (p + 1) bs e → Held q p (b ∷ bs) e
inside_on q r p b bs e s h x =
    let n : e - p ≡ suc (e - (p + 1)) = omega arith in
    ap (λ (j : ℕ). is_inside (fold text_step q (take j (b ∷ bs)))) n ∙ ap (λ (k : Quoted). is_inside (fold text_step k (take (e - (p + 1)) bs))) s ∙ x

inside_step : (q r : Quoted) (p b : ℕ) (bs : List ℕ) (e : ℕ) → Open q → text_step q b ≡ r → (Open r → text_end r (p + 1) bs ≡ Some e → Held r (p + 1) bs e) → ends r p (text_end r (p + 1) bs) ≡ Some e → Held q p (b ∷ bs) e
inside_step q (Quoted.Plain v) p b bs e o s more h = inside_on q (Quoted.Plain v) p b bs e s (quoted (Quoted.Plain v) (p + 1) bs e tt h).0 (more tt h)
inside_step q (Quoted.Escaped v) p b bs e o s more h = inside_on q (Quoted.Escaped v) p b bs e s (quoted (Quoted.Escaped v) (p + 1) bs e tt h).0 (more tt h)
inside_step q Quoted.Closed p b bs e o s more h =
    let is : p ≡ e = cc in
    let none : e - p ≡ 0 = omega arith in
    ap (λ (j : ℕ). is_inside (fold text_step q (take j (b ∷ bs)))) none ∙ closes_inside q b o s
inside_step q Quoted.Bad p b bs e o s more h = let z : ◌≡◌ {A = ℕ} 0 1 = cc in absurd (omega arith)

inside : (q : Quoted) (p : ℕ) (bs : List ℕ) (e : ℕ) → Open q → text_end q p bs ≡ Some e → Held q p bs e
inside q p [] e o h = let z : ◌≡◌ {A = ℕ} 0 1 = cc in absurd (omega arith)
inside q p (b ∷ bs) e o h = inside_step q (text_step q b) p b bs e o refl (inside (text_step q b) (p + 1) bs e) h

text_writes : (x : ℕ) (xs : List ℕ) (o : Option ℕ) → x ≡ 34 → text_end (Quoted.Plain 0) 1 xs ≡ o → is_fault (texted (x ∷ xs) o).0 ≡ false → Writes (texted (x ∷ xs) o).0 (take (texted (x ∷ xs) o).1 (x ∷ xs))
text_writes x xs (Some e) is h f =
    let l = quoted (Quoted.Plain 0) 1 xs e tt h in
    let n : e + 1 ≡ suc (e - 1 + 1) = omega (arith, l.0) in (
      ap (λ (j : ℕ). take j (x ∷ xs)) n ∙ ap (λ (u : List ℕ). x ∷ u) (take_more xs (e - 1) 0 l.1)
          ∙ (λ i. is i ∷ (take (e - 1) xs ++ l.2 i ∷ [])),
      inside (Quoted.Plain 0) 1 xs e tt h,
    )
text_writes x xs None is h f = absurd (true≢false f)

-- symbols
abbrev pub Right : List (List ℕ × (Symbol × ℕ)) → Type 0
Right [] = Unit {0}
Right (e ∷ es) = (symbol_bytes e.1.0 ≡ e.0) × (e.1.1 ≡ length e.0) × Right es

abbrev pub Found : List ℕ → Symbol × ℕ → Type 0
Found w k = (symbol_bytes k.0 ≡ w) × (k.1 ≡ length w)

beside_step : (e : List ℕ × (Symbol × ℕ)) (es : List (List ℕ × (Symbol × ℕ))) (w : List ℕ) (k : Symbol × ℕ) (t : Bool) → bytes_eq w e.0 ≡ t → Found e.0 e.1 → (beside es w ≡ Some k → Found w k) → cond t (Some e.1) (beside es w) ≡ Some k → Found w k
beside_step e es w k true s here more h =
    let is : e.1 ≡ k = cc in
    let same : e.0 ≡ w = sym (same_bytes w e.0 s) in
    subst (λ (j : Symbol × ℕ). Found w j) is (here.0 ∙ same, here.1 ∙ ap length same)
beside_step e es w k false s here more h = more h

pub beside_is : (es : List (List ℕ × (Symbol × ℕ))) (w : List ℕ) (k : Symbol × ℕ) → Right es → beside es w ≡ Some k → Found w k
beside_is [] w k g h = let z : ◌≡◌ {A = ℕ} 0 1 = cc in absurd (omega arith)
beside_is (e ∷ es) w k g h = beside_step e es w k (bytes_eq w e.0) refl (g.0, g.1) (beside_is es w k g.2) h

pub right_doubles : Right doubles
right_doubles = (refl, refl, (refl, refl, (refl, refl, (refl, refl, (refl, refl, (refl, refl, tt))))))

pub right_singles : Right singles
right_singles = (refl, refl, (refl, refl, (refl, refl, (refl, refl, (refl, refl, (refl, refl, (refl, refl, (refl, refl, (refl, refl, (refl, refl, (refl, refl, (refl, refl, (refl, refl, (refl, refl, tt))))))))))))))

double_writes : (x : ℕ) (xs : List ℕ) (k : Symbol × ℕ) → beside doubles (x ∷ get_or xs 0 0 ∷ []) ≡ Some k → take k.1 (x ∷ xs) ≡ symbol_bytes k.0
double_writes x [] k h =
    let none = none_ends x doubles (refl, (refl, (refl, (refl, (refl, (refl, tt)))))) in
    let z : ◌≡◌ {A = ℕ} 0 1 = cc in
    absurd (omega arith)
double_writes x (y ∷ ys) k h =
    let is = beside_is doubles (x ∷ y ∷ []) k right_doubles h in
    ap (λ (n : ℕ). take n (x ∷ y ∷ ys)) is.1 ∙ sym is.0

single_writes : (x : ℕ) (xs : List ℕ) (k : Symbol × ℕ) → beside singles (x ∷ []) ≡ Some k → take k.1 (x ∷ xs) ≡ symbol_bytes k.0
single_writes x xs k h =
    let is = beside_is singles (x ∷ []) k right_singles h in
    ap (λ (n : ℕ). take n (x ∷ xs)) is.1 ∙ sym is.0

symbol_writes : (x : ℕ) (xs : List ℕ) (d : Option (Symbol × ℕ)) (k : Symbol × ℕ) → beside doubles (x ∷ get_or xs 0 0 ∷ []) ≡ d → either d (beside singles (x ∷ [])) ≡ Some k → take k.1 (x ∷ xs) ≡ symbol_bytes k.0
symbol_writes x xs (Some j) k e h = double_writes x xs k (e ∙ h)
symbol_writes x xs None k e h = single_writes x xs k h

mark_writes : (x : ℕ) (xs : List ℕ) (o : Option (Symbol × ℕ)) → symbol_of x (get_or xs 0 0) ≡ o → is_fault (marked o).0 ≡ false → Writes (marked o).0 (take (marked o).1 (x ∷ xs))
mark_writes x xs (Some k) h f = symbol_writes x xs (beside doubles (x ∷ get_or xs 0 0 ∷ [])) k refl h
mark_writes x xs None h f = absurd (true≢false f)

-- a byte of class Quote is a quote
picks_quote : (a b c d e f g : Bool) → cond a Blank (cond b LineEnd (cond c Hash (cond d Letter (cond e Digit (cond f Quote (cond g Mark Other)))))) ≡ Quote → f ≡ true
picks_quote true b c d e f g h = cc
picks_quote false true c d e f g h = cc
picks_quote false false true d e f g h = cc
picks_quote false false false true e f g h = cc
picks_quote false false false false true f g h = cc
picks_quote false false false false false true g h = refl
picks_quote false false false false false false true h = cc
picks_quote false false false false false false false h = cc

pub quote_byte : (x : ℕ) → class_of x ≡ Quote → x ≡ 34
quote_byte x e = eqb-true x 34 (picks_quote (is_blank x) (is_line_end x) (eqb x 35) (is_letter x) (is_digit x) (eqb x 34) (is_mark x) e)

class_writes : (x : ℕ) (xs : List ℕ) (k : Class) → class_of x ≡ k → 1 ≤ (scan_by k (x ∷ xs)).1 → is_fault (scan_by k (x ∷ xs)).0 ≡ false → Writes (scan_by k (x ∷ xs)).0 (take (scan_by k (x ∷ xs)).1 (x ∷ xs))
class_writes x xs Blank e n f = absurd (true≢false f)
class_writes x xs LineEnd e n f = absurd (true≢false f)
class_writes x xs Hash e n f = absurd (true≢false f)
class_writes x xs Letter e n f =
    let r = x ∷ xs in
    let m = prefix_len (in_run Run.Word) r in
    word_writes r m (keyword_of (take m r)) refl (ap class_of (get_or-take m r 0 0 n) ∙ e) (every_leading (in_run Run.Word) r)
class_writes x xs Digit e n f =
    let r = x ∷ xs in
    let u = take (prefix_len (in_run Run.Digits) r) r in
    number_writes u (number_of u) refl (every_leading (in_run Run.Digits) r) f
class_writes x xs Quote e n f = text_writes x xs (text_end (Quoted.Plain 0) 1 xs) (quote_byte x e) refl f
class_writes x xs Mark e n f = mark_writes x xs (symbol_of x (get_or xs 0 0)) refl f
class_writes x xs Other e n f = absurd (true≢false f)

pub scan_writes : (r : List ℕ) → 0 < length r → is_fault (scan_of r).0 ≡ false → Writes (scan_of r).0 (take (scan_of r).1 r)
scan_writes [] h f = absurd (omega arith)
scan_writes (x ∷ xs) h f = class_writes x xs (class_of x) refl (scan_size (x ∷ xs) h).0 f

-- a scanned token that is no fault has bytes
named_bytes : (o : Option Keyword) (w : List ℕ) → has_bytes (named o w) ≡ true
named_bytes (Some k) w = refl
named_bytes None w = refl

numbered_bytes : (o : Option ℕ) → is_fault (numbered o) ≡ false → has_bytes (numbered o) ≡ true
numbered_bytes (Some v) f = refl
numbered_bytes None f = absurd (true≢false f)

texted_bytes : (r : List ℕ) (o : Option ℕ) → is_fault (texted r o).0 ≡ false → has_bytes (texted r o).0 ≡ true
texted_bytes r (Some e) f = refl
texted_bytes r None f = absurd (true≢false f)

marked_bytes : (o : Option (Symbol × ℕ)) → is_fault (marked o).0 ≡ false → has_bytes (marked o).0 ≡ true
marked_bytes (Some o) f = refl
marked_bytes None f = absurd (true≢false f)

class_bytes : (k : Class) (r : List ℕ) → is_fault (scan_by k r).0 ≡ false → has_bytes (scan_by k r).0 ≡ true
class_bytes Blank r f = absurd (true≢false f)
class_bytes LineEnd r f = absurd (true≢false f)
class_bytes Hash r f = absurd (true≢false f)
class_bytes Letter r f = named_bytes _ _
class_bytes Digit r f = numbered_bytes _ f
class_bytes Quote r f = texted_bytes r _ f
class_bytes Mark r f = marked_bytes _ f
class_bytes Other r f = absurd (true≢false f)

pub scan_bytes : (r : List ℕ) → is_fault (scan_of r).0 ≡ false → has_bytes (scan_of r).0 ≡ true
scan_bytes r f = class_bytes (class_of (get_or r 0 0)) r f
