-- How `lex` goes over a source, by places.
use Rattle.std.proofs.Common.{◌≡◌, ℕ, zero, suc, ◌+◌, ◌-◌, ◌<◌, ◌≤◌, true, not, List, [], ◌∷◌, ◌++◌, length, get_or, drop, sym, refl, ap, ◌∙◌, le_of_suc-le-suc, add-zero, arith, length-drop}
use Rattle.std.specs.List.{prefix_len}
use Rattle.std.proofs.lemmas.List.{drop_more, drop-drop, drop_all}
use Rattle.std.proofs.lemmas.List.Sums.{prefix_len-le-length}
use Rattle.std.proofs.lemmas.Bool.{cond-true}
use Rattle.lexis.specs.Bytes.{class_of}
use Rattle.lexis.specs.declared.bytes.Class.{Class}
use Rattle.lexis.specs.declared.bytes.Class.TheVariants.{Hash}
use Rattle.lexis.specs.Lines.{Move, move, lex, ending, fresh_by, inside_by, comment}
use Rattle.lexis.specs.Tokens.{Tok}
use Rattle.lexis.specs.Runs.{in_run, ends_line}
use Rattle.lexis.specs.declared.scans.Run.{Run}
use Rattle.lexis.specs.declared.lines.Mode.{Mode}

pub lex_end : (m : Mode) (ls : List ℕ) (p : ℕ) → lex m ls 0 p [] ≡ ending m p ls
unfolding lex
lex_end m ls p = refl

lex_skip : (m : Mode) (ls : List ℕ) (k p : ℕ) (bs : List ℕ) → k ≤ length bs → lex m ls k p bs ≡ lex m ls 0 (p + k) (drop k bs)
unfolding lex
lex_skip m ls zero p [] h = ap (λ q. lex m ls 0 q []) (sym (add-zero p))
lex_skip m ls zero p (b ∷ bs) h = ap (λ q. lex m ls 0 q (b ∷ bs)) (sym (add-zero p))
lex_skip m ls (suc k) p [] h = absurd (omega arith)
lex_skip m ls (suc k) p (b ∷ bs) h =
    let e : p + 1 + k ≡ p + suc k = omega arith in
    lex_skip m ls k (p + 1) bs (le_of_suc-le-suc h) ∙ ap (λ q. lex m ls 0 q (drop k bs)) e

-- after a move at place p of s
abbrev pub goes : List ℕ → ℕ → Move → List (ℕ × Tok)
goes s p v = v.out ++ lex v.mode v.levels v.skip (p + 1) (drop (p + 1) s)

pub lex_move : (s : List ℕ) (p : ℕ) (m : Mode) (ls : List ℕ) → p < length s → lex m ls 0 p (drop p s) ≡ goes s p (move m ls p (get_or s p 0 ∷ drop (p + 1) s))
unfolding lex
lex_move s p m ls h = ap (lex m ls 0 p) (drop_more s p 0 h)

-- the move by the class of the byte
pub fresh_move : (s : List ℕ) (p c : ℕ) (ls : List ℕ) (k : Class) → p < length s → k ≡ class_of (get_or s p 0) → lex (Mode.Fresh c) ls 0 p (drop p s) ≡ goes s p (fresh_by k p c ls (get_or s p 0 ∷ drop (p + 1) s))
fresh_move s p c ls k h e = lex_move s p (Mode.Fresh c) ls h ∙ ap (λ (j : Class). goes s p (fresh_by j p c ls (get_or s p 0 ∷ drop (p + 1) s))) (sym e)

pub inside_move : (s : List ℕ) (p : ℕ) (ls : List ℕ) (k : Class) → p < length s → k ≡ class_of (get_or s p 0) → lex Mode.Inside ls 0 p (drop p s) ≡ goes s p (inside_by k p ls (get_or s p 0 ∷ drop (p + 1) s))
inside_move s p ls k h e = lex_move s p Mode.Inside ls h ∙ ap (λ (j : Class). goes s p (inside_by j p ls (get_or s p 0 ∷ drop (p + 1) s))) (sym e)

-- n bytes are passed over
pub passed : (s : List ℕ) (p n : ℕ) (m : Mode) (ls : List ℕ) → 1 ≤ n → p + n ≤ length s → lex m ls (n - 1) (p + 1) (drop (p + 1) s) ≡ lex m ls 0 (p + n) (drop (p + n) s)
passed s p n m ls some h =
    let e : p + 1 + (n - 1) ≡ p + n = omega arith in
    lex_skip m ls (n - 1) (p + 1) (drop (p + 1) s) (omega (arith, length-drop (p + 1) s))
    ∙ ap (lex m ls 0 (p + 1 + (n - 1))) (drop-drop (n - 1) (p + 1) s)
    ∙ ap (λ q. lex m ls 0 q (drop q s)) e

-- a hash is part of its comment
pub comment_some : (s : List ℕ) (p n : ℕ) → p < length s → Hash ≡ class_of (get_or s p 0) → n ≡ prefix_len (in_run Run.Comment) (drop p s) → (1 ≤ n) × (p + n ≤ length s) × (comment (get_or s p 0 ∷ drop (p + 1) s) ≡ n - 1)
comment_some s p n h is e =
    let more = drop_more s p 0 h in
    let whole : n ≡ prefix_len (in_run Run.Comment) (get_or s p 0 ∷ drop (p + 1) s) = e ∙ ap (prefix_len (in_run Run.Comment)) more in
    let first : in_run Run.Comment (get_or s p 0) ≡ true = ap (λ (k : Class). not (ends_line k)) (sym is) in
    let long : n ≡ 1 + prefix_len (in_run Run.Comment) (drop (p + 1) s) = whole ∙ cond-true _ _ _ first in
    (omega arith, omega (arith, e, prefix_len-le-length (in_run Run.Comment) (drop p s), length-drop p s), ap (λ m. m - 1) (sym whole))

pub past_comment : (s : List ℕ) (p n : ℕ) (m : Mode) (ls : List ℕ) → (1 ≤ n) × (p + n ≤ length s) × (comment (get_or s p 0 ∷ drop (p + 1) s) ≡ n - 1) → lex m ls (comment (get_or s p 0 ∷ drop (p + 1) s)) (p + 1) (drop (p + 1) s) ≡ lex m ls 0 (p + n) (drop (p + n) s)
past_comment s p n m ls k = ap (λ j. lex m ls j (p + 1) (drop (p + 1) s)) k.2 ∙ passed s p n m ls k.0 k.1

-- at the end of the source
pub ended : (s : List ℕ) (p : ℕ) (m : Mode) (ls : List ℕ) → length s ≤ p → lex m ls 0 p (drop p s) ≡ ending m p ls
ended s p m ls h = ap (lex m ls 0 p) (drop_all p s h) ∙ lex_end m ls p
