-- A token takes at least one byte, and no more than there are.
use Rattle.std.proofs.Common.{◌≡◌, ℕ, suc, ◌+◌, ◌<◌, ◌≤◌, Bool, true, false, cond, eqb, List, [], ◌∷◌, length, get_or, drop, IfSome, Some, None, Option, sym, refl, ap, ◌∙◌, subst, arith}
use Rattle.std.specs.List.{prefix_len}
use Rattle.std.specs.Str.{bytes_eq}
use Rattle.std.proofs.lemmas.List.Sums.{prefix_len-le-length}
use Rattle.std.proofs.lemmas.Bool.{cond-true, cond-false, and_right}
use Rattle.lexis.specs.Bytes.{class_of}
use Rattle.lexis.specs.declared.bytes.Class.{Class}
use Rattle.lexis.specs.declared.bytes.Class.TheVariants.{Blank, LineEnd, Hash, Letter, Digit, Quote, Mark, Other}
use Rattle.lexis.specs.Tokens.{Tok}
use Rattle.lexis.specs.Runs.{in_run, in_word, is_numeral}
use Rattle.lexis.specs.Scans.{scan_by, scan_of, texted, marked}
use Rattle.lexis.specs.Texts.{text_step, text_end, ends}
use Rattle.lexis.specs.Words.{beside, doubles, singles, either, symbol_of}
use Rattle.lexis.specs.declared.scans.Run.{Run}
use Rattle.lexis.specs.declared.scans.Quoted.{Quoted}
use Rattle.lexis.specs.declared.tokens.Symbol.{Symbol}

-- from 1 to n bytes
abbrev pub Fit : ℕ → Tok × ℕ → Type 0
Fit n s = (1 ≤ s.1) × (s.1 ≤ n)

run_size : (run : Run) (x : ℕ) (xs : List ℕ) → in_run run x ≡ true → (1 ≤ prefix_len (in_run run) (x ∷ xs)) × (prefix_len (in_run run) (x ∷ xs) ≤ length (x ∷ xs))
run_size run x xs e =
    let l : prefix_len (in_run run) (x ∷ xs) ≡ 1 + prefix_len (in_run run) xs = cond-true _ _ _ e in
    (omega (arith, l), prefix_len-le-length (in_run run) (x ∷ xs))

abbrev Lies : ℕ → ℕ → Option ℕ → Type 0
Lies p n o = IfSome o (λ e. (p ≤ e) × (e < p + n))

wider : (p n : ℕ) (o : Option ℕ) → Lies (p + 1) n o → Lies p (suc n) o
wider p n None h = tt
wider p n (Some e) h = (omega arith, omega arith)

ends_lie : (q : Quoted) (p n : ℕ) (o : Option ℕ) → Lies (p + 1) n o → Lies p (suc n) (ends q p o)
ends_lie (Quoted.Plain v) p n o h = wider p n o h
ends_lie (Quoted.Escaped v) p n o h = wider p n o h
ends_lie Quoted.Closed p n o h = (omega arith, omega arith)
ends_lie Quoted.Bad p n o h = tt

text_lies : (q : Quoted) (p : ℕ) (bs : List ℕ) → Lies p (length bs) (text_end q p bs)
text_lies q p [] = tt
text_lies q p (b ∷ bs) = ends_lie (text_step q b) p (length bs) (text_end (text_step q b) (p + 1) bs) (text_lies (text_step q b) (p + 1) bs)

text_size : (x : ℕ) (xs : List ℕ) (o : Option ℕ) → Lies 1 (length xs) o → Fit (suc (length xs)) (texted (x ∷ xs) o)
text_size x xs None h = (omega arith, omega arith)
text_size x xs (Some e) h = (omega arith, omega arith)

-- each operator of a list has from 1 to n bytes
abbrev Each : ℕ → List (List ℕ × (Symbol × ℕ)) → Type 0
Each n [] = Unit {0}
Each n (e ∷ es) = (1 ≤ e.1.1) × (e.1.1 ≤ n) × Each n es

abbrev Most : ℕ → Option (Symbol × ℕ) → Type 0
Most n o = IfSome o (λ s. (1 ≤ s.1) × (s.1 ≤ n))

either_way : (n : ℕ) (t : Bool) (s : Symbol × ℕ) (o : Option (Symbol × ℕ)) → (1 ≤ s.1) × (s.1 ≤ n) → Most n o → Most n (cond t (Some s) o)
either_way n true s o h k = h
either_way n false s o h k = k

beside_size : (n : ℕ) (es : List (List ℕ × (Symbol × ℕ))) (w : List ℕ) → Each n es → Most n (beside es w)
beside_size n [] w h = tt
beside_size n (e ∷ es) w h = either_way n (bytes_eq w e.0) e.1 (beside es w) (h.0, h.1) (beside_size n es w h.2)

more : (o : Option (Symbol × ℕ)) → Most 1 o → Most 2 o
more None h = tt
more (Some s) h = (h.0, omega arith)

both : (n : ℕ) (x y : Option (Symbol × ℕ)) → Most n x → Most n y → Most n (either x y)
both n None y h k = k
both n (Some s) y h k = h

-- no operator of a list has the second byte 0
abbrev NoZero : List (List ℕ × (Symbol × ℕ)) → Type 0
NoZero [] = Unit {0}
NoZero (e ∷ es) = (bytes_eq (0 ∷ []) (drop 1 e.0) ≡ false) × NoZero es

tail_differs : (x : ℕ) (ys v : List ℕ) → bytes_eq ys (drop 1 v) ≡ false → bytes_eq (x ∷ ys) v ≡ false
tail_differs x ys [] e = refl
tail_differs x ys (z ∷ zs) e = and_right (eqb x z) (bytes_eq ys zs) e

pub none_ends : (x : ℕ) (es : List (List ℕ × (Symbol × ℕ))) → NoZero es → beside es (x ∷ 0 ∷ []) ≡ None
none_ends x [] h = refl
none_ends x (e ∷ es) h = cond-false _ _ _ (tail_differs x (0 ∷ []) e.0 h.0) ∙ none_ends x es h.1

operator_size : (x : ℕ) (xs : List ℕ) → Most (suc (length xs)) (symbol_of x (get_or xs 0 0))
operator_size x [] =
    let none = none_ends x doubles (refl, (refl, (refl, (refl, (refl, (refl, tt)))))) in
    subst (λ (o : Option (Symbol × ℕ)). Most 1 (either o (beside singles (x ∷ [])))) (sym none) (beside_size 1 singles (x ∷ []) (omega arith))
operator_size x (y ∷ ys) = up (length ys) _ (both 2 (beside doubles (x ∷ y ∷ [])) (beside singles (x ∷ [])) (beside_size 2 doubles (x ∷ y ∷ []) (omega arith)) (more _ (beside_size 1 singles (x ∷ []) (omega arith))))
  where
    up : (k : ℕ) (o : Option (Symbol × ℕ)) → Most 2 o → Most (suc (suc k)) o
    up k None h = tt
    up k (Some s) h = (h.0, omega arith)

mark_size : (n : ℕ) (o : Option (Symbol × ℕ)) → 1 ≤ n → Most n o → Fit n (marked o)
mark_size n None h k = (omega arith, h)
mark_size n (Some s) h k = k

by_class : (x : ℕ) (xs : List ℕ) (k : Class) → class_of x ≡ k → Fit (suc (length xs)) (scan_by k (x ∷ xs))
by_class x xs Blank e = (omega arith, omega arith)
by_class x xs LineEnd e = (omega arith, omega arith)
by_class x xs Hash e = (omega arith, omega arith)
by_class x xs Letter e = run_size Run.Word x xs (ap in_word e)
by_class x xs Digit e = run_size Run.Digits x xs (ap is_numeral e)
by_class x xs Quote e = text_size x xs (text_end (Quoted.Plain 0) 1 xs) (text_lies (Quoted.Plain 0) 1 xs)
by_class x xs Mark e = mark_size (suc (length xs)) (symbol_of x (get_or xs 0 0)) (omega arith) (operator_size x xs)
by_class x xs Other e = (omega arith, omega arith)

pub scan_size : (r : List ℕ) → 0 < length r → Fit (length r) (scan_of r)
scan_size [] h = absurd (omega arith)
scan_size (x ∷ xs) h = by_class x xs (class_of x) refl
