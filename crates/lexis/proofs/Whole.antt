-- The bytes of a token are scanned as that token, and where one stands there is no fault.
use Rattle.std.proofs.Common.{◌≡◌, ℕ, suc, ◌+◌, ◌-◌, ◌<◌, ◌≤◌, Bool, true, false, List, [], ◌∷◌, ◌++◌, length, get_or, take, Some, None, Option, sym, refl, ap, ◌∙◌, subst, ⊎_elim, arith}
use Rattle.std.specs.List.{prefix_len}
use Rattle.std.proofs.lemmas.List.{take_all, take_at, length-take-le}
use Rattle.std.proofs.lemmas.Bool.{true≢false, and_parts, cases_order}
use Rattle.lexis.specs.Bytes.{class_of}
use Rattle.lexis.specs.Lines.{is_fault}
use Rattle.lexis.specs.Numbers.{number_of}
use Rattle.lexis.specs.Runs.{in_run, is_numeral}
use Rattle.lexis.specs.Scans.{scan_of, scan_by, named, numbered, texted, marked}
use Rattle.lexis.specs.Texts.{is_text}
use Rattle.lexis.specs.Tokens.{Tok}
use Rattle.lexis.specs.Words.{keyword_of, spelled, symbol_bytes}
use Rattle.lexis.specs.Written.{every, Writes, has_bytes, Longest, Whole, There, Blames, Best, fault_class}
use Rattle.lexis.specs.declared.bytes.Class.{Class}
use Rattle.lexis.specs.declared.bytes.Class.TheVariants.{Blank, LineEnd, Hash, Letter, Digit, Quote, Mark, Other}
use Rattle.lexis.specs.declared.faults.Fault.{Fault}
use Rattle.lexis.specs.declared.scans.Quoted.{Quoted}
use Rattle.lexis.specs.declared.scans.Run.{Run}
use Rattle.lexis.specs.declared.tokens.Keyword.{Keyword}
use Rattle.lexis.specs.declared.tokens.Symbol.{Symbol}
use Rattle.lexis.proofs.Longest.{code, kind, first_kind, run_bound, closes, scan_best}
use Rattle.lexis.proofs.Sizes.{scan_size}
use Rattle.lexis.proofs.Spelling.{scan_bytes, scan_writes}

numeral_is : (k : Class) → is_numeral k ≡ true → k ≡ Digit
numeral_is Blank e = absurd (true≢false (sym e))
numeral_is LineEnd e = absurd (true≢false (sym e))
numeral_is Hash e = absurd (true≢false (sym e))
numeral_is Letter e = absurd (true≢false (sym e))
numeral_is Digit e = refl
numeral_is Quote e = absurd (true≢false (sym e))
numeral_is Mark e = absurd (true≢false (sym e))
numeral_is Other e = absurd (true≢false (sym e))

-- all bytes of a run
whole_run : (f : ℕ → Bool) (u : List ℕ) → every f u ≡ true → take (prefix_len f u) u ≡ u
whole_run f u e = take_all (prefix_len f u) u (run_bound f u (length u) (omega arith) (ap (every f) (take_all (length u) u (omega arith)) ∙ e))

keyword_scan : (k : Keyword) → (scan_of (spelled k)).0 ≡ Tok.keyword k
keyword_scan Keyword.False = refl
keyword_scan Keyword.None = refl
keyword_scan Keyword.True = refl
keyword_scan Keyword.And = refl
keyword_scan Keyword.As = refl
keyword_scan Keyword.Assert = refl
keyword_scan Keyword.Async = refl
keyword_scan Keyword.Await = refl
keyword_scan Keyword.Break = refl
keyword_scan Keyword.Class = refl
keyword_scan Keyword.Continue = refl
keyword_scan Keyword.Def = refl
keyword_scan Keyword.Del = refl
keyword_scan Keyword.Elif = refl
keyword_scan Keyword.Else = refl
keyword_scan Keyword.Except = refl
keyword_scan Keyword.Finally = refl
keyword_scan Keyword.For = refl
keyword_scan Keyword.From = refl
keyword_scan Keyword.Global = refl
keyword_scan Keyword.If = refl
keyword_scan Keyword.Import = refl
keyword_scan Keyword.In = refl
keyword_scan Keyword.Is = refl
keyword_scan Keyword.Lambda = refl
keyword_scan Keyword.Nonlocal = refl
keyword_scan Keyword.Not = refl
keyword_scan Keyword.Or = refl
keyword_scan Keyword.Pass = refl
keyword_scan Keyword.Raise = refl
keyword_scan Keyword.Return = refl
keyword_scan Keyword.Try = refl
keyword_scan Keyword.While = refl
keyword_scan Keyword.With = refl
keyword_scan Keyword.Yield = refl

symbol_scan : (o : Symbol) → (scan_of (symbol_bytes o)).0 ≡ Tok.symbol o
symbol_scan Symbol.Plus = refl
symbol_scan Symbol.Minus = refl
symbol_scan Symbol.Star = refl
symbol_scan Symbol.Percent = refl
symbol_scan Symbol.Less = refl
symbol_scan Symbol.Greater = refl
symbol_scan Symbol.Assign = refl
symbol_scan Symbol.LeftRound = refl
symbol_scan Symbol.RightRound = refl
symbol_scan Symbol.LeftSquare = refl
symbol_scan Symbol.RightSquare = refl
symbol_scan Symbol.Comma = refl
symbol_scan Symbol.Colon = refl
symbol_scan Symbol.Dot = refl
symbol_scan Symbol.Divide = refl
symbol_scan Symbol.AtMost = refl
symbol_scan Symbol.AtLeast = refl
symbol_scan Symbol.Equal = refl
symbol_scan Symbol.Differ = refl
symbol_scan Symbol.Arrow = refl

first_digit : (u : List ℕ) → 1 ≤ length u → every (in_run Run.Digits) u ≡ true → class_of (get_or u 0 0) ≡ Digit
first_digit [] h e = absurd (omega arith)
first_digit (x ∷ xs) h e = numeral_is (class_of x) (and_parts (in_run Run.Digits x) _ e).0

text_scan : (w : List ℕ) → is_text w ≡ true → (scan_of (34 ∷ (w ++ 34 ∷ []))).0 ≡ Tok.str w
text_scan w h =
    let r = 34 ∷ (w ++ 34 ∷ []) in
    let n : 1 + length w - 1 ≡ length w = omega arith in
    ap (λ (o : Option ℕ). (texted r o).0) (closes (Quoted.Plain 0) 1 w [] tt h)
    ∙ ap (λ (m : ℕ). Tok.str (take m (w ++ 34 ∷ []))) n ∙ ap Tok.str (take_at w (34 ∷ []) (length w) refl)

writes_scan : (t : Tok) (u : List ℕ) → has_bytes t ≡ true → 1 ≤ length u → Writes t u → (scan_of u).0 ≡ t
writes_scan (Tok.name w) u b l h =
    ap (λ (v : List ℕ). (scan_of v).0) h.0 ∙ ap (λ (k : Class). (scan_by k w).0) h.1
    ∙ ap (λ (v : List ℕ). named (keyword_of v) v) (whole_run (in_run Run.Word) w h.2) ∙ ap (λ (o : Option Keyword). named o w) h.3
writes_scan (Tok.str w) u b l h = ap (λ (v : List ℕ). (scan_of v).0) h.0 ∙ text_scan w h.1
writes_scan (Tok.int n) u b l h =
    ap (λ (k : Class). (scan_by k u).0) (first_digit u l h.0)
    ∙ ap (λ (v : List ℕ). numbered (number_of v)) (whole_run (in_run Run.Digits) u h.0) ∙ ap numbered h.1
writes_scan (Tok.keyword k) u b l h = ap (λ (v : List ℕ). (scan_of v).0) h ∙ keyword_scan k
writes_scan (Tok.symbol o) u b l h = ap (λ (v : List ℕ). (scan_of v).0) h ∙ symbol_scan o
writes_scan Tok.newline u b l h = absurd (true≢false (sym b))
writes_scan Tok.indent u b l h = absurd (true≢false (sym b))
writes_scan Tok.dedent u b l h = absurd (true≢false (sym b))
writes_scan Tok.done u b l h = absurd (true≢false (sym b))
writes_scan (Tok.fault f) u b l h = absurd (true≢false (sym b))

whole_longest : (t : Tok) (m : ℕ) (r : List ℕ) → Whole t m r → Longest m r
whole_longest (Tok.name w) m r h = h
whole_longest (Tok.str w) m r h = h
whole_longest (Tok.int n) m r h = h.0
whole_longest (Tok.keyword k) m r h = h
whole_longest (Tok.symbol o) m r h = h
whole_longest Tok.newline m r h = h
whole_longest Tok.indent m r h = h
whole_longest Tok.dedent m r h = h
whole_longest Tok.done m r h = h
whole_longest (Tok.fault f) m r h = h

pub best_whole : (t : Tok) (m : ℕ) (r : List ℕ) → has_bytes t ≡ true → Best t m r → Whole t m r
best_whole (Tok.name w) m r b h = h
best_whole (Tok.str w) m r b h = h
best_whole (Tok.int n) m r b h = h
best_whole (Tok.keyword k) m r b h = h
best_whole (Tok.symbol o) m r b h = h
best_whole Tok.newline m r b h = absurd (true≢false (sym b))
best_whole Tok.indent m r b h = absurd (true≢false (sym b))
best_whole Tok.dedent m r b h = absurd (true≢false (sym b))
best_whole Tok.done m r b h = absurd (true≢false (sym b))
best_whole (Tok.fault f) m r b h = absurd (true≢false (sym b))

-- the token that is scanned, if it is no fault
abbrev pub scan_there : (r : List ℕ) → 0 < length r → is_fault (scan_of r).0 ≡ false → There r
scan_there r h f =
    let b = scan_bytes r f in
    let fit = scan_size r h in
    record {
      token = (scan_of r).0;
      size = (scan_of r).1;
      bytes = b;
      some = fit.0;
      within = fit.1;
      writes = scan_writes r h f;
      whole = best_whole (scan_of r).0 (scan_of r).1 r b (scan_best r h);
    }

-- two tokens that stand at one place are the same
pub same_there : (r : List ℕ) (a b : There r) → (a.token ≡ b.token) × (a.size ≡ b.size)
same_there r a b =
    let long_a = whole_longest a.token a.size r a.whole in
    let long_b = whole_longest b.token b.size r b.whole in
    let same : a.size ≡ b.size = ⊎_elim
    (λ e. e)
    (λ o. ⊎_elim (λ lt. absurd (long_a b.token b.size lt b.within b.bytes b.writes)) (λ gt. absurd (long_b a.token a.size gt a.within a.bytes a.writes)) o)
    (cases_order a.size b.size) in
    let u = take a.size r in
    let some : 1 ≤ length u = omega (arith, length-take-le a.size r a.within, a.some) in (
      sym (writes_scan a.token u a.bytes some a.writes)
          ∙ writes_scan b.token u b.bytes some (subst (λ (m : ℕ). Writes b.token (take m r)) (sym same) b.writes),
      same,
    )

-- the kind of the token at a place
pub there_kind : (r : List ℕ) (a : There r) → code (class_of (get_or r 0 0)) ≡ kind a.token
there_kind [] a = absurd (omega (arith, a.some, a.within))
there_kind (x ∷ xs) a =
    let n : suc (a.size - 1) ≡ a.size = omega (arith, a.some) in
    first_kind a.token x (a.size - 1) xs a.bytes (subst (λ (m : ℕ). Writes a.token (take m (x ∷ xs))) (sym n) a.writes)

fault_code : (k : Class) → fault_class k ≡ Fault.Number → code k ≡ 2
fault_code Blank e = cc
fault_code LineEnd e = cc
fault_code Hash e = cc
fault_code Letter e = cc
fault_code Digit e = refl
fault_code Quote e = cc
fault_code Mark e = cc
fault_code Other e = cc

never_indentation : (k : Class) → fault_class k ≡ Fault.Indentation → ◌≡◌ {A = ℕ} 0 1
never_indentation Blank e = cc
never_indentation LineEnd e = cc
never_indentation Hash e = cc
never_indentation Letter e = cc
never_indentation Digit e = cc
never_indentation Quote e = cc
never_indentation Mark e = cc
never_indentation Other e = cc

number_clash : (t : Tok) (r : List ℕ) (m : ℕ) → kind t ≡ 2 → Whole t m r → Writes t (take m r) → number_of (take (prefix_len (in_run Run.Digits) r) r) ≡ None → ⊥
number_clash (Tok.name w) r m e wh u h = omega arith
number_clash (Tok.str w) r m e wh u h = omega arith
number_clash (Tok.int n) r m e wh u h = let s : Some n ≡ None = sym u.1 ∙ ap (λ (j : ℕ). number_of (take j r)) wh.1 ∙ h in let z : ◌≡◌ {A = ℕ} 0 1 = cc in omega arith
number_clash (Tok.keyword k) r m e wh u h = omega arith
number_clash (Tok.symbol o) r m e wh u h = omega arith
number_clash Tok.newline r m e wh u h = omega arith
number_clash Tok.indent r m e wh u h = omega arith
number_clash Tok.dedent r m e wh u h = omega arith
number_clash Tok.done r m e wh u h = omega arith
number_clash (Tok.fault f) r m e wh u h = omega arith

-- no fault of its bytes lies where a token stands
pub blamed : (f : Fault) (r : List ℕ) → fault_class (class_of (get_or r 0 0)) ≡ f → Blames f r → There r → ⊥
blamed Fault.Byte r e b a = b.1 a.token a.size a.some a.within a.bytes a.writes
blamed Fault.Number r e b a = number_clash a.token r a.size (sym (there_kind r a) ∙ fault_code (class_of (get_or r 0 0)) b.0) a.whole a.writes b.1
blamed Fault.Text r e b a = b.1 a.token a.size a.some a.within a.bytes a.writes
blamed Fault.Indentation r e b a = let z = never_indentation (class_of (get_or r 0 0)) e in omega arith

named_fault : (o : Option Keyword) (w : List ℕ) → is_fault (named o w) ≡ true → named o w ≡ Tok.fault Fault.Byte
named_fault (Some k) w e = absurd (true≢false (sym e))
named_fault None w e = absurd (true≢false (sym e))

numbered_fault : (o : Option ℕ) → is_fault (numbered o) ≡ true → numbered o ≡ Tok.fault Fault.Number
numbered_fault (Some k) e = absurd (true≢false (sym e))
numbered_fault None e = refl

texted_fault : (r : List ℕ) (o : Option ℕ) → is_fault (texted r o).0 ≡ true → (texted r o).0 ≡ Tok.fault Fault.Text
texted_fault r (Some k) e = absurd (true≢false (sym e))
texted_fault r None e = refl

marked_fault : (o : Option (Symbol × ℕ)) → is_fault (marked o).0 ≡ true → (marked o).0 ≡ Tok.fault Fault.Byte
marked_fault (Some k) e = absurd (true≢false (sym e))
marked_fault None e = refl

class_fault : (k : Class) (r : List ℕ) → is_fault (scan_by k r).0 ≡ true → (scan_by k r).0 ≡ Tok.fault (fault_class k)
class_fault Blank r e = refl
class_fault LineEnd r e = refl
class_fault Hash r e = refl
class_fault Letter r e = named_fault _ _ e
class_fault Digit r e = numbered_fault _ e
class_fault Quote r e = texted_fault r _ e
class_fault Mark r e = marked_fault _ e
class_fault Other r e = refl

-- a scanned fault is the one of its byte's class
pub scan_fault : (r : List ℕ) → is_fault (scan_of r).0 ≡ true → (scan_of r).0 ≡ Tok.fault (fault_class (class_of (get_or r 0 0)))
scan_fault r e = class_fault (class_of (get_or r 0 0)) r e

-- where a fault is scanned no token stands
pub fault_alone : (r : List ℕ) → 0 < length r → is_fault (scan_of r).0 ≡ true → There r → ⊥
fault_alone r h e a = blamed (fault_class (class_of (get_or r 0 0))) r refl (subst (λ (t : Tok). Best t (scan_of r).1 r) (scan_fault r e) (scan_best r h)) a
