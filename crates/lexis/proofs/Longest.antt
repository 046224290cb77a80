-- A scanned token is the longest one at its place.
use Rattle.std.proofs.Common.{◌≡◌, ℕ, zero, suc, ◌+◌, ◌<◌, ◌≤◌, Bool, true, false, cond, List, [], ◌∷◌, ◌++◌, length, get_or, take, drop, Some, None, fold, Option, sym, refl, ap, ◌∙◌, ⊎_elim, add-zero, arith}
use Rattle.std.specs.List.{prefix_len}
use Rattle.std.proofs.lemmas.List.{take-append-drop, append_assoc, length-append, length-take-le, nil_from_length}
use Rattle.std.proofs.lemmas.Bool.{true≢false, and_parts, cases_lt}
use Rattle.lexis.specs.Bytes.{class_of}
use Rattle.lexis.specs.Numbers.{number_of}
use Rattle.lexis.specs.Runs.{in_run, is_numeral}
use Rattle.lexis.specs.Scans.{scan_of, scan_by, named, numbered, texted, marked}
use Rattle.lexis.specs.Texts.{text_step, text_end, ends, is_inside, is_text}
use Rattle.lexis.specs.Tokens.{Tok}
use Rattle.lexis.specs.Words.{beside, doubles, singles, either, symbol_bytes, spelled}
use Rattle.lexis.specs.Written.{every, Writes, has_bytes, Longest, Best, fault_class}
use Rattle.lexis.specs.declared.bytes.Class.{Class}
use Rattle.lexis.specs.declared.bytes.Class.TheVariants.{Blank, LineEnd, Hash, Letter, Digit, Quote, Mark, Other}
use Rattle.lexis.specs.declared.faults.Fault.{Fault}
use Rattle.lexis.specs.declared.scans.Quoted.{Quoted}
use Rattle.lexis.specs.declared.scans.Run.{Run}
use Rattle.lexis.specs.declared.tokens.Keyword.{Keyword}
use Rattle.lexis.specs.declared.tokens.Symbol.{Symbol}
use Rattle.lexis.proofs.Spelling.{Open, beside_is, right_doubles, right_singles}

-- what class of byte a token begins with, as a number
abbrev pub code : Class → ℕ
code Blank = 0
code LineEnd = 0
code Hash = 0
code Letter = 1
code Digit = 2
code Quote = 3
code Mark = 4
code Other = 0

abbrev pub kind : Tok → ℕ
kind (Tok.name w) = 1
kind (Tok.str w) = 3
kind (Tok.int n) = 2
kind (Tok.keyword k) = 1
kind (Tok.symbol o) = 4
kind Tok.newline = 0
kind Tok.indent = 0
kind Tok.dedent = 0
kind Tok.done = 0
kind (Tok.fault f) = 0

keyword_class : (k : Keyword) → code (class_of (get_or (spelled k) 0 0)) ≡ 1
keyword_class Keyword.False = refl
keyword_class Keyword.None = refl
keyword_class Keyword.True = refl
keyword_class Keyword.And = refl
keyword_class Keyword.As = refl
keyword_class Keyword.Assert = refl
keyword_class Keyword.Async = refl
keyword_class Keyword.Await = refl
keyword_class Keyword.Break = refl
keyword_class Keyword.Class = refl
keyword_class Keyword.Continue = refl
keyword_class Keyword.Def = refl
keyword_class Keyword.Del = refl
keyword_class Keyword.Elif = refl
keyword_class Keyword.Else = refl
keyword_class Keyword.Except = refl
keyword_class Keyword.Finally = refl
keyword_class Keyword.For = refl
keyword_class Keyword.From = refl
keyword_class Keyword.Global = refl
keyword_class Keyword.If = refl
keyword_class Keyword.Import = refl
keyword_class Keyword.In = refl
keyword_class Keyword.Is = refl
keyword_class Keyword.Lambda = refl
keyword_class Keyword.Nonlocal = refl
keyword_class Keyword.Not = refl
keyword_class Keyword.Or = refl
keyword_class Keyword.Pass = refl
keyword_class Keyword.Raise = refl
keyword_class Keyword.Return = refl
keyword_class Keyword.Try = refl
keyword_class Keyword.While = refl
keyword_class Keyword.With = refl
keyword_class Keyword.Yield = refl

keyword_run : (k : Keyword) → every (in_run Run.Word) (spelled k) ≡ true
keyword_run Keyword.False = refl
keyword_run Keyword.None = refl
keyword_run Keyword.True = refl
keyword_run Keyword.And = refl
keyword_run Keyword.As = refl
keyword_run Keyword.Assert = refl
keyword_run Keyword.Async = refl
keyword_run Keyword.Await = refl
keyword_run Keyword.Break = refl
keyword_run Keyword.Class = refl
keyword_run Keyword.Continue = refl
keyword_run Keyword.Def = refl
keyword_run Keyword.Del = refl
keyword_run Keyword.Elif = refl
keyword_run Keyword.Else = refl
keyword_run Keyword.Except = refl
keyword_run Keyword.Finally = refl
keyword_run Keyword.For = refl
keyword_run Keyword.From = refl
keyword_run Keyword.Global = refl
keyword_run Keyword.If = refl
keyword_run Keyword.Import = refl
keyword_run Keyword.In = refl
keyword_run Keyword.Is = refl
keyword_run Keyword.Lambda = refl
keyword_run Keyword.Nonlocal = refl
keyword_run Keyword.Not = refl
keyword_run Keyword.Or = refl
keyword_run Keyword.Pass = refl
keyword_run Keyword.Raise = refl
keyword_run Keyword.Return = refl
keyword_run Keyword.Try = refl
keyword_run Keyword.While = refl
keyword_run Keyword.With = refl
keyword_run Keyword.Yield = refl

symbol_class : (o : Symbol) → code (class_of (get_or (symbol_bytes o) 0 0)) ≡ 4
symbol_class Symbol.Plus = refl
symbol_class Symbol.Minus = refl
symbol_class Symbol.Star = refl
symbol_class Symbol.Percent = refl
symbol_class Symbol.Less = refl
symbol_class Symbol.Greater = refl
symbol_class Symbol.Assign = refl
symbol_class Symbol.LeftRound = refl
symbol_class Symbol.RightRound = refl
symbol_class Symbol.LeftSquare = refl
symbol_class Symbol.RightSquare = refl
symbol_class Symbol.Comma = refl
symbol_class Symbol.Colon = refl
symbol_class Symbol.Dot = refl
symbol_class Symbol.Divide = refl
symbol_class Symbol.AtMost = refl
symbol_class Symbol.AtLeast = refl
symbol_class Symbol.Equal = refl
symbol_class Symbol.Differ = refl
symbol_class Symbol.Arrow = refl

symbol_short : (o : Symbol) → length (symbol_bytes o) ≤ 2
symbol_short Symbol.Plus = omega arith
symbol_short Symbol.Minus = omega arith
symbol_short Symbol.Star = omega arith
symbol_short Symbol.Percent = omega arith
symbol_short Symbol.Less = omega arith
symbol_short Symbol.Greater = omega arith
symbol_short Symbol.Assign = omega arith
symbol_short Symbol.LeftRound = omega arith
symbol_short Symbol.RightRound = omega arith
symbol_short Symbol.LeftSquare = omega arith
symbol_short Symbol.RightSquare = omega arith
symbol_short Symbol.Comma = omega arith
symbol_short Symbol.Colon = omega arith
symbol_short Symbol.Dot = omega arith
symbol_short Symbol.Divide = omega arith
symbol_short Symbol.AtMost = omega arith
symbol_short Symbol.AtLeast = omega arith
symbol_short Symbol.Equal = omega arith
symbol_short Symbol.Differ = omega arith
symbol_short Symbol.Arrow = omega arith

-- the tables have every symbol
single_known : (o : Symbol) → length (symbol_bytes o) ≡ 1 → beside singles (symbol_bytes o) ≡ None → ⊥
single_known Symbol.Plus n e = let z : ◌≡◌ {A = ℕ} 0 1 = cc in omega arith
single_known Symbol.Minus n e = let z : ◌≡◌ {A = ℕ} 0 1 = cc in omega arith
single_known Symbol.Star n e = let z : ◌≡◌ {A = ℕ} 0 1 = cc in omega arith
single_known Symbol.Percent n e = let z : ◌≡◌ {A = ℕ} 0 1 = cc in omega arith
single_known Symbol.Less n e = let z : ◌≡◌ {A = ℕ} 0 1 = cc in omega arith
single_known Symbol.Greater n e = let z : ◌≡◌ {A = ℕ} 0 1 = cc in omega arith
single_known Symbol.Assign n e = let z : ◌≡◌ {A = ℕ} 0 1 = cc in omega arith
single_known Symbol.LeftRound n e = let z : ◌≡◌ {A = ℕ} 0 1 = cc in omega arith
single_known Symbol.RightRound n e = let z : ◌≡◌ {A = ℕ} 0 1 = cc in omega arith
single_known Symbol.LeftSquare n e = let z : ◌≡◌ {A = ℕ} 0 1 = cc in omega arith
single_known Symbol.RightSquare n e = let z : ◌≡◌ {A = ℕ} 0 1 = cc in omega arith
single_known Symbol.Comma n e = let z : ◌≡◌ {A = ℕ} 0 1 = cc in omega arith
single_known Symbol.Colon n e = let z : ◌≡◌ {A = ℕ} 0 1 = cc in omega arith
single_known Symbol.Dot n e = let z : ◌≡◌ {A = ℕ} 0 1 = cc in omega arith
single_known Symbol.Divide n e = omega arith
single_known Symbol.AtMost n e = omega arith
single_known Symbol.AtLeast n e = omega arith
single_known Symbol.Equal n e = omega arith
single_known Symbol.Differ n e = omega arith
single_known Symbol.Arrow n e = omega arith

double_known : (o : Symbol) → length (symbol_bytes o) ≡ 2 → beside doubles (symbol_bytes o) ≡ None → ⊥
double_known Symbol.Plus n e = omega arith
double_known Symbol.Minus n e = omega arith
double_known Symbol.Star n e = omega arith
double_known Symbol.Percent n e = omega arith
double_known Symbol.Less n e = omega arith
double_known Symbol.Greater n e = omega arith
double_known Symbol.Assign n e = omega arith
double_known Symbol.LeftRound n e = omega arith
double_known Symbol.RightRound n e = omega arith
double_known Symbol.LeftSquare n e = omega arith
double_known Symbol.RightSquare n e = omega arith
double_known Symbol.Comma n e = omega arith
double_known Symbol.Colon n e = omega arith
double_known Symbol.Dot n e = omega arith
double_known Symbol.Divide n e = let z : ◌≡◌ {A = ℕ} 0 1 = cc in omega arith
double_known Symbol.AtMost n e = let z : ◌≡◌ {A = ℕ} 0 1 = cc in omega arith
double_known Symbol.AtLeast n e = let z : ◌≡◌ {A = ℕ} 0 1 = cc in omega arith
double_known Symbol.Equal n e = let z : ◌≡◌ {A = ℕ} 0 1 = cc in omega arith
double_known Symbol.Differ n e = let z : ◌≡◌ {A = ℕ} 0 1 = cc in omega arith
double_known Symbol.Arrow n e = let z : ◌≡◌ {A = ℕ} 0 1 = cc in omega arith

numeral_class : (k : Class) → is_numeral k ≡ true → code k ≡ 2
numeral_class Blank e = absurd (true≢false (sym e))
numeral_class LineEnd e = absurd (true≢false (sym e))
numeral_class Hash e = absurd (true≢false (sym e))
numeral_class Letter e = absurd (true≢false (sym e))
numeral_class Digit e = refl
numeral_class Quote e = absurd (true≢false (sym e))
numeral_class Mark e = absurd (true≢false (sym e))
numeral_class Other e = absurd (true≢false (sym e))

-- the first byte of a token tells its kind
pub first_kind : (t : Tok) (x j : ℕ) (xs : List ℕ) → has_bytes t ≡ true → Writes t (take (suc j) (x ∷ xs)) → code (class_of x) ≡ kind t
first_kind (Tok.name w) x j xs b h = ap (λ (u : List ℕ). code (class_of (get_or u 0 0))) h.0 ∙ ap code h.1
first_kind (Tok.str w) x j xs b h = ap (λ (u : List ℕ). code (class_of (get_or u 0 0))) h.0
first_kind (Tok.int n) x j xs b h = numeral_class (class_of x) (and_parts (in_run Run.Digits x) _ h.0).0
first_kind (Tok.keyword k) x j xs b h = ap (λ (u : List ℕ). code (class_of (get_or u 0 0))) h ∙ keyword_class k
first_kind (Tok.symbol o) x j xs b h = ap (λ (u : List ℕ). code (class_of (get_or u 0 0))) h ∙ symbol_class o
first_kind Tok.newline x j xs b h = absurd (true≢false (sym b))
first_kind Tok.indent x j xs b h = absurd (true≢false (sym b))
first_kind Tok.dedent x j xs b h = absurd (true≢false (sym b))
first_kind Tok.done x j xs b h = absurd (true≢false (sym b))
first_kind (Tok.fault f) x j xs b h = absurd (true≢false (sym b))

pub kind_some : (t : Tok) → has_bytes t ≡ true → 1 ≤ kind t
kind_some (Tok.name w) b = omega arith
kind_some (Tok.str w) b = omega arith
kind_some (Tok.int n) b = omega arith
kind_some (Tok.keyword k) b = omega arith
kind_some (Tok.symbol o) b = omega arith
kind_some Tok.newline b = absurd (true≢false (sym b))
kind_some Tok.indent b = absurd (true≢false (sym b))
kind_some Tok.dedent b = absurd (true≢false (sym b))
kind_some Tok.done b = absurd (true≢false (sym b))
kind_some (Tok.fault f) b = absurd (true≢false (sym b))

-- bytes that all pass are no more than the run
bound_step : (f : ℕ → Bool) (x j : ℕ) (xs : List ℕ) (t : Bool) → f x ≡ t → t ≡ true → j ≤ prefix_len f xs → suc j ≤ cond t (1 + prefix_len f xs) 0
bound_step f x j xs true e g h = omega arith
bound_step f x j xs false e g h = absurd (true≢false (sym g))

pub run_bound : (f : ℕ → Bool) (xs : List ℕ) (m : ℕ) → m ≤ length xs → every f (take m xs) ≡ true → m ≤ prefix_len f xs
run_bound f xs zero h e = omega arith
run_bound f [] (suc j) h e = absurd (omega arith)
run_bound f (x ∷ xs) (suc j) h e =
    let both = and_parts (f x) (every f (take j xs)) e in
    bound_step f x j xs (f x) refl both.0 (run_bound f xs j (omega arith) both.1)

-- only tokens of the first byte's kind can stand there
abbrev Never : ℕ → ℕ → List ℕ → Type 0
Never c n r = (t : Tok) (j : ℕ) → kind t ≡ c → n < suc j → suc j ≤ length r → has_bytes t ≡ true → Writes t (take (suc j) r) → ⊥

only : (x : ℕ) (xs : List ℕ) (c n : ℕ) → code (class_of x) ≡ c → Never c n (x ∷ xs) → Longest n (x ∷ xs)
only x xs c n e f t zero h l b u = omega arith
only x xs c n e f t (suc j) h l b u = f t j (sym (first_kind t x j xs b u) ∙ e) h l b u

none_begins : (n : ℕ) (r : List ℕ) → Never 0 n r
none_begins n r t j e h l b u = omega (arith, kind_some t b)

-- words
word_never : (r : List ℕ) → Never 1 (prefix_len (in_run Run.Word) r) r
word_never r (Tok.name v) j e h l b u = omega (arith, run_bound (in_run Run.Word) r (suc j) l (ap (every (in_run Run.Word)) u.0 ∙ u.2))
word_never r (Tok.str v) j e h l b u = omega arith
word_never r (Tok.int v) j e h l b u = omega arith
word_never r (Tok.keyword v) j e h l b u = omega (arith, run_bound (in_run Run.Word) r (suc j) l (ap (every (in_run Run.Word)) u ∙ keyword_run v))
word_never r (Tok.symbol v) j e h l b u = omega arith
word_never r Tok.newline j e h l b u = omega arith
word_never r Tok.indent j e h l b u = omega arith
word_never r Tok.dedent j e h l b u = omega arith
word_never r Tok.done j e h l b u = omega arith
word_never r (Tok.fault v) j e h l b u = omega arith

word_best : (r : List ℕ) (n : ℕ) (o : Option Keyword) (w : List ℕ) → Longest n r → Best (named o w) n r
word_best r n (Some k) w h = h
word_best r n None w h = h

-- numbers
number_never : (r : List ℕ) → Never 2 (prefix_len (in_run Run.Digits) r) r
number_never r (Tok.name v) j e h l b u = omega arith
number_never r (Tok.str v) j e h l b u = omega arith
number_never r (Tok.int v) j e h l b u = omega (arith, run_bound (in_run Run.Digits) r (suc j) l u.0)
number_never r (Tok.keyword v) j e h l b u = omega arith
number_never r (Tok.symbol v) j e h l b u = omega arith
number_never r Tok.newline j e h l b u = omega arith
number_never r Tok.indent j e h l b u = omega arith
number_never r Tok.dedent j e h l b u = omega arith
number_never r Tok.done j e h l b u = omega arith
number_never r (Tok.fault v) j e h l b u = omega arith

number_best : (r : List ℕ) (n : ℕ) (o : Option ℕ) → n ≡ prefix_len (in_run Run.Digits) r → fault_class (class_of (get_or r 0 0)) ≡ Fault.Number → number_of (take (prefix_len (in_run Run.Digits) r) r) ≡ o → Longest n r → Best (numbered o) n r
number_best r n (Some v) a c e h = (h, a)
number_best r n None a c e h = (c, e)

-- strings
pub closed_stays : (w : List ℕ) → is_inside (fold text_step Quoted.Closed w) ≡ false
closed_stays [] = refl
closed_stays (b ∷ w) = closed_stays w

pub bad_stays : (w : List ℕ) → is_inside (fold text_step Quoted.Bad w) ≡ false
bad_stays [] = refl
bad_stays (b ∷ w) = bad_stays w

closes_step : (r : Quoted) (p : ℕ) (w rest : List ℕ) → (Open r → is_inside (fold text_step r w) ≡ true → text_end r (p + 1) (w ++ 34 ∷ rest) ≡ Some (p + 1 + length w)) → is_inside (fold text_step r w) ≡ true → ends r p (text_end r (p + 1) (w ++ 34 ∷ rest)) ≡ Some (p + suc (length w))
closes_step (Quoted.Plain v) p w rest more h = let n : p + 1 + length w ≡ p + suc (length w) = omega arith in more tt h ∙ ap Some n
closes_step (Quoted.Escaped v) p w rest more h = let n : p + 1 + length w ≡ p + suc (length w) = omega arith in more tt h ∙ ap Some n
closes_step Quoted.Closed p w rest more h = absurd (true≢false (sym h ∙ closed_stays w))
closes_step Quoted.Bad p w rest more h = absurd (true≢false (sym h ∙ bad_stays w))

closes_now : (q : Quoted) (p : ℕ) (rest : List ℕ) → Open q → is_inside q ≡ true → text_end q p (34 ∷ rest) ≡ Some (p + 0)
closes_now (Quoted.Plain v) p rest o h = ap Some (sym (add-zero p))
closes_now (Quoted.Escaped v) p rest o h = absurd (true≢false (sym h))
closes_now Quoted.Closed p rest o h = absurd o
closes_now Quoted.Bad p rest o h = absurd o

-- a text is closed by the quote behind it
pub closes : (q : Quoted) (p : ℕ) (w rest : List ℕ) → Open q → is_inside (fold text_step q w) ≡ true → text_end q p (w ++ 34 ∷ rest) ≡ Some (p + length w)
closes q p [] rest o h = closes_now q p rest o h
closes q p (b ∷ w) rest o h = closes_step (text_step q b) p w rest (closes (text_step q b) (p + 1) w rest) h

text_found : (x : ℕ) (xs w : List ℕ) (j : ℕ) → suc j ≤ length (x ∷ xs) → x ∷ take j xs ≡ 34 ∷ (w ++ 34 ∷ []) → is_text w ≡ true → (text_end (Quoted.Plain 0) 1 xs ≡ Some (1 + length w)) × (j ≡ length w + 1)
text_found x xs w j l e h =
    let front : take j xs ≡ w ++ 34 ∷ [] = cc in
    let whole : xs ≡ w ++ (34 ∷ drop j xs) = sym (take-append-drop j xs) ∙ ap (λ (u : List ℕ). u ++ drop j xs) front ∙ append_assoc w (34 ∷ []) (drop j xs) in (
      ap (text_end (Quoted.Plain 0) 1) whole ∙ closes (Quoted.Plain 0) 1 w (drop j xs) tt h,
      omega (arith, length-take-le j xs (omega arith), ap length front, length-append w (34 ∷ [])),
    )

-- n is past the closing quote, if there is one
abbrev Past : Option ℕ → ℕ → Type 0
Past (Some e) n = e + 1 ≤ n
Past None n = Unit {0}

past_closing : (o : Option ℕ) (n k j : ℕ) → Past o n → o ≡ Some (1 + k) → j ≡ k + 1 → n < suc j → ⊥
past_closing (Some e) n k j h is g l = let same : e ≡ 1 + k = cc in omega arith
past_closing None n k j h is g l = let z : ◌≡◌ {A = ℕ} 0 1 = cc in omega arith

text_never : (x : ℕ) (xs : List ℕ) (n : ℕ) → Past (text_end (Quoted.Plain 0) 1 xs) n → Never 3 n (x ∷ xs)
text_never x xs n a (Tok.name v) j e h l b u = omega arith
text_never x xs n a (Tok.str v) j e h l b u = let f = text_found x xs v j l u.0 u.1 in past_closing (text_end (Quoted.Plain 0) 1 xs) n (length v) j a f.0 f.1 h
text_never x xs n a (Tok.int v) j e h l b u = omega arith
text_never x xs n a (Tok.keyword v) j e h l b u = omega arith
text_never x xs n a (Tok.symbol v) j e h l b u = omega arith
text_never x xs n a Tok.newline j e h l b u = omega arith
text_never x xs n a Tok.indent j e h l b u = omega arith
text_never x xs n a Tok.dedent j e h l b u = omega arith
text_never x xs n a Tok.done j e h l b u = omega arith
text_never x xs n a (Tok.fault v) j e h l b u = omega arith

text_best : (x : ℕ) (xs : List ℕ) (o : Option ℕ) → fault_class (class_of x) ≡ Fault.Text → ((n : ℕ) → Past o n → Longest n (x ∷ xs)) → Best (texted (x ∷ xs) o).0 (texted (x ∷ xs) o).1 (x ∷ xs)
text_best x xs (Some e) is h = h (e + 1) (omega arith)
text_best x xs None is h = (is, h 0 tt)

-- symbols
pair_is : (x y i : ℕ) (ys : List ℕ) (o : Symbol) → x ∷ y ∷ take i ys ≡ symbol_bytes o → x ∷ y ∷ [] ≡ symbol_bytes o
pair_is x y i ys o e =
    let none : take i ys ≡ [] = nil_from_length (take i ys) (omega (arith, ap length e, symbol_short o)) in
    ap (λ (u : List ℕ). x ∷ y ∷ u) (sym none) ∙ e

module _ (n : ℕ) where
  symbol_clash : (x j : ℕ) (xs : List ℕ) (o : Symbol) → (n ≡ 0 → beside singles (x ∷ []) ≡ None) → (n < 2 → beside doubles (x ∷ get_or xs 0 0 ∷ []) ≡ None) → n < suc j → suc j ≤ length (x ∷ xs) → take (suc j) (x ∷ xs) ≡ symbol_bytes o → ⊥
  symbol_clash x zero xs o f g h l e = single_known o (sym (ap length e)) (ap (beside singles) (sym e) ∙ f (omega arith))
  symbol_clash x (suc i) [] o f g h l e = omega arith
  symbol_clash x (suc i) (y ∷ ys) o f g h l e =
      let two = pair_is x y i ys o e in
      ⊎_elim
      (λ few. double_known o (sym (ap length two)) (ap (beside doubles) (sym two) ∙ g few))
      (λ many. omega (arith, ap length e, ap length two, length-take-le i ys (omega arith)))
      (cases_lt n 2)

symbol_never : (x : ℕ) (xs : List ℕ) (n : ℕ) → (n ≡ 0 → beside singles (x ∷ []) ≡ None) → (n < 2 → beside doubles (x ∷ get_or xs 0 0 ∷ []) ≡ None) → Never 4 n (x ∷ xs)
symbol_never x xs n f g (Tok.name v) j e h l b u = omega arith
symbol_never x xs n f g (Tok.str v) j e h l b u = omega arith
symbol_never x xs n f g (Tok.int v) j e h l b u = omega arith
symbol_never x xs n f g (Tok.keyword v) j e h l b u = omega arith
symbol_never x xs n f g (Tok.symbol v) j e h l b u = symbol_clash n x j xs v f g h l u
symbol_never x xs n f g Tok.newline j e h l b u = omega arith
symbol_never x xs n f g Tok.indent j e h l b u = omega arith
symbol_never x xs n f g Tok.dedent j e h l b u = omega arith
symbol_never x xs n f g Tok.done j e h l b u = omega arith
symbol_never x xs n f g (Tok.fault v) j e h l b u = omega arith

mark_best : (x : ℕ) (xs : List ℕ) (d g : Option (Symbol × ℕ)) → class_of x ≡ Mark → beside doubles (x ∷ get_or xs 0 0 ∷ []) ≡ d → beside singles (x ∷ []) ≡ g → Best (marked (either d g)).0 (marked (either d g)).1 (x ∷ xs)
mark_best x xs (Some k) g c e f =
    let is = beside_is doubles (x ∷ get_or xs 0 0 ∷ []) k right_doubles e in
    only x xs 4 k.1 (ap code c) (symbol_never x xs k.1 (λ a. absurd (omega (arith, is.1))) (λ a. absurd (omega (arith, is.1))))
mark_best x xs None (Some k) c e f =
    let is = beside_is singles (x ∷ []) k right_singles f in
    only x xs 4 k.1 (ap code c) (symbol_never x xs k.1 (λ a. absurd (omega (arith, is.1))) (λ _. e))
mark_best x xs None None c e f = (ap fault_class c, only x xs 4 0 (ap code c) (symbol_never x xs 0 (λ _. f) (λ _. e)))

class_best : (x : ℕ) (xs : List ℕ) (k : Class) → class_of x ≡ k → Best (scan_by k (x ∷ xs)).0 (scan_by k (x ∷ xs)).1 (x ∷ xs)
class_best x xs Blank e = (ap fault_class e, only x xs 0 0 (ap code e) (none_begins 0 (x ∷ xs)))
class_best x xs LineEnd e = (ap fault_class e, only x xs 0 0 (ap code e) (none_begins 0 (x ∷ xs)))
class_best x xs Hash e = (ap fault_class e, only x xs 0 0 (ap code e) (none_begins 0 (x ∷ xs)))
class_best x xs Letter e = word_best (x ∷ xs) (prefix_len (in_run Run.Word) (x ∷ xs)) _ _ (only x xs 1 (prefix_len (in_run Run.Word) (x ∷ xs)) (ap code e) (word_never (x ∷ xs)))
class_best x xs Digit e = number_best (x ∷ xs) (prefix_len (in_run Run.Digits) (x ∷ xs)) _ refl (ap fault_class e) refl (only x xs 2 (prefix_len (in_run Run.Digits) (x ∷ xs)) (ap code e) (number_never (x ∷ xs)))
class_best x xs Quote e = text_best x xs (text_end (Quoted.Plain 0) 1 xs) (ap fault_class e) (λ n a. only x xs 3 n (ap code e) (text_never x xs n a))
class_best x xs Mark e = mark_best x xs (beside doubles (x ∷ get_or xs 0 0 ∷ [])) (beside singles (x ∷ [])) e refl refl
class_best x xs Other e = (ap fault_class e, only x xs 0 0 (ap code e) (none_begins 0 (x ∷ xs)))

pub scan_best : (r : List ℕ) → 0 < length r → Best (scan_of r).0 (scan_of r).1 r
scan_best [] h = absurd (omega arith)
scan_best (x ∷ xs) h = class_best x xs (class_of x) refl
