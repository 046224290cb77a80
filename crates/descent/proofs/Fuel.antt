-- Three calls for each token are enough: the combinators and the expressions.
use mathlib.Core.List.{List, [], ◌∷◌}
use mathlib.Core.Option.{Option, none, some}
use mathlib.Core.Path.{refl, subst}
use mathlib.Core.Bool.{Bool, true, false}
use Prim.Native.Nat.{ℕ, suc, zero, ◌*◌, ◌+◌, ◌<◌, ◌≤◌}
use native.Mathlib.Omega.{arith}
use lib.Dec.{leb}
use lib.ListN.{length}
use Rattle.grammar.specs.Tree.{Text, Literal, Mark, Token, Id, Exprs, Stmt, rank, level, left, right, reach, tight, callable, mark_discrete, op_discrete}
use Rattle.grammar.specs.Tree.{minus, not, neg, rparen, rbracket, comma, indent}
use Rattle.grammar.specs.Tree.{name, lit, dot, lparen, lbracket, not_word, op, mark, wrong, at, var, con, bin, pre, mem, idx, call, list, nil, snoc}
use Rattle.grammar.specs.Tree.{named, member, indexed, closed, binary, prefix}
use Rattle.grammar.specs.Limits.{Limit}
use Rattle.descent.specs.Answers.{Answer, ok, bar, over, cut, tired, bind, decide, test, refuse, fits, may, need, need_name, need_lit, need_paren, need_indent, may_when}
use Rattle.descent.specs.Expressions.{Term, term, tree, form, begun_at, expr, after, bracketed, items}
use Rattle.descent.specs.Statements.{on_some}
use Rattle.descent.specs.Calls.{Fine, upto, some_read}
use Rattle.descent.specs.Declarations.{Lead, says, defines, on_lead}

pub fine_ok : {A : Type 0} {x : A} {us : List Token} {w : A → ℕ} → length us < w x → Fine w (ok x us) (ok x us)
fine_ok h = record { rests = h; same = refl }

pub fine_bar : {A : Type 0} {t : Token} {ts : List Token} {w : A → ℕ} → Fine w (bar t ts) (bar t ts)
fine_bar = record { rests = tt; same = refl }

pub fine_over : {A : Type 0} {c : Limit} {t : Token} {ts : List Token} {w : A → ℕ} → Fine w (over c t ts) (over c t ts)
fine_over = record { rests = tt; same = refl }

pub fine_cut : {A : Type 0} {w : A → ℕ} → Fine w cut cut
fine_cut = record { rests = tt; same = refl }

pub fine_bind : {A B : Type 0} {r s : Answer A} {k j : A → List Token → Answer B} {w : B → ℕ} (m : ℕ) → Fine (upto m) r s
    → ((x : A) (us : List Token) → length us < m → Fine w (k x us) (j x us)) → Fine w (bind r k) (bind s j)
fine_bind {r = ok x us} {k = k} {j = j} {w = w} m h f = subst (λ a. Fine w (k x us) (bind a j)) h.same (f x us h.rests)
fine_bind {r = bar t ts} {j = j} {w = w} m h f = subst (λ a. Fine w (bar t ts) (bind a j)) h.same fine_bar
fine_bind {r = over c t ts} {j = j} {w = w} m h f = subst (λ a. Fine w (over c t ts) (bind a j)) h.same fine_over
fine_bind {r = cut} {j = j} {w = w} m h f = subst (λ a. Fine w cut (bind a j)) h.same fine_cut
fine_bind {r = tired} m h f = absurd h.rests

pub fine_test : {A : Type 0} {x y u v : Answer A} {w : A → ℕ} (b : Bool) → Fine w x u → Fine w y v → Fine w (test b x y) (test b u v)
fine_test true x y = x
fine_test false x y = y

pub fine_decide : {A X : Type 0} {x y u v : Answer A} {w : A → ℕ} (d : Dec X) → Fine w x u → Fine w y v → Fine w (decide d x y) (decide d u v)
fine_decide (yes a) x y = x
fine_decide (no a) x y = y

pub fine_refuse : {A : Type 0} {w : A → ℕ} (ts : List Token) → Fine w (refuse ts) (refuse ts)
fine_refuse [] = fine_cut
fine_refuse (t ∷ ts) = fine_bar

pub fine_fits : {A : Type 0} {x y : Answer A} {w : A → ℕ} (lim d : ℕ) (t : Token) (ts : List Token) → Fine w x y → Fine w (fits lim d t ts x) (fits lim d t ts y)
fine_fits lim d t ts x = fine_test (leb lim d) fine_over x

pub fine_may : {A : Type 0} {k j : ℕ → List Token → Answer A} {y z : Answer A} {w : A → ℕ} (m : Mark) (ts : List Token)
    → ((p : ℕ) (vs : List Token) → length vs < length ts → Fine w (k p vs) (j p vs)) → Fine w y z → Fine w (may m ts k y) (may m ts j z)
fine_may m [] x y = y
fine_may m (at (name n) p ∷ ts) x y = y
fine_may m (at (lit c) p ∷ ts) x y = y
fine_may m (at dot p ∷ ts) x y = y
fine_may m (at lparen p ∷ ts) x y = y
fine_may m (at lbracket p ∷ ts) x y = y
fine_may m (at not_word p ∷ ts) x y = y
fine_may m (at (op o) p ∷ ts) x y = y
fine_may m (at (mark i) p ∷ ts) x y = fine_decide (mark_discrete m i) (x p ts (omega arith)) y
fine_may m (at (wrong i) p ∷ ts) x y = y

pub fine_need : {A : Type 0} {k j : ℕ → List Token → Answer A} {w : A → ℕ} (m : Mark) (ts : List Token)
    → ((p : ℕ) (vs : List Token) → length vs < length ts → Fine w (k p vs) (j p vs)) → Fine w (need m ts k) (need m ts j)
fine_need m ts x = fine_may m ts x (fine_refuse ts)

pub fine_when : {A : Type 0} {k j : ℕ → List Token → Answer A} {y z : Answer A} {w : A → ℕ} (b : Bool) (m : Mark) (ts : List Token)
    → ((p : ℕ) (vs : List Token) → length vs < length ts → Fine w (k p vs) (j p vs)) → Fine w y z → Fine w (may_when b m ts k y) (may_when b m ts j z)
fine_when b m ts x y = fine_test b (fine_may m ts x y) y

pub fine_name : {A : Type 0} {k j : ℕ → Text → List Token → Answer A} {w : A → ℕ} (ts : List Token)
    → ((p : ℕ) (m : Text) (vs : List Token) → length vs < length ts → Fine w (k p m vs) (j p m vs)) → Fine w (need_name ts k) (need_name ts j)
fine_name [] x = fine_cut
fine_name (at (name n) p ∷ ts) x = x p n ts (omega arith)
fine_name (at (lit c) p ∷ ts) x = fine_bar
fine_name (at dot p ∷ ts) x = fine_bar
fine_name (at lparen p ∷ ts) x = fine_bar
fine_name (at lbracket p ∷ ts) x = fine_bar
fine_name (at not_word p ∷ ts) x = fine_bar
fine_name (at (op o) p ∷ ts) x = fine_bar
fine_name (at (mark i) p ∷ ts) x = fine_bar
fine_name (at (wrong i) p ∷ ts) x = fine_bar

pub fine_lit : {A : Type 0} {k j : ℕ → Literal → List Token → Answer A} {w : A → ℕ} (ts : List Token)
    → ((p : ℕ) (c : Literal) (vs : List Token) → length vs < length ts → Fine w (k p c vs) (j p c vs)) → Fine w (need_lit ts k) (need_lit ts j)
fine_lit [] x = fine_cut
fine_lit (at (name n) p ∷ ts) x = fine_bar
fine_lit (at (lit c) p ∷ ts) x = x p c ts (omega arith)
fine_lit (at dot p ∷ ts) x = fine_bar
fine_lit (at lparen p ∷ ts) x = fine_bar
fine_lit (at lbracket p ∷ ts) x = fine_bar
fine_lit (at not_word p ∷ ts) x = fine_bar
fine_lit (at (op o) p ∷ ts) x = fine_bar
fine_lit (at (mark i) p ∷ ts) x = fine_bar
fine_lit (at (wrong i) p ∷ ts) x = fine_bar

pub fine_paren : {A : Type 0} {k j : List Token → Answer A} {w : A → ℕ} (lim d : ℕ) (ts : List Token)
    → ((vs : List Token) → length vs < length ts → Fine w (k vs) (j vs)) → Fine w (need_paren lim d ts k) (need_paren lim d ts j)
fine_paren lim d [] x = fine_cut
fine_paren lim d (at (name n) p ∷ ts) x = fine_bar
fine_paren lim d (at (lit c) p ∷ ts) x = fine_bar
fine_paren lim d (at dot p ∷ ts) x = fine_bar
fine_paren lim d (at lparen p ∷ ts) x = fine_fits lim d (at lparen p) ts (x ts (omega arith))
fine_paren lim d (at lbracket p ∷ ts) x = fine_bar
fine_paren lim d (at not_word p ∷ ts) x = fine_bar
fine_paren lim d (at (op o) p ∷ ts) x = fine_bar
fine_paren lim d (at (mark i) p ∷ ts) x = fine_bar
fine_paren lim d (at (wrong i) p ∷ ts) x = fine_bar

pub fine_indent : {A : Type 0} {k j : List Token → Answer A} {w : A → ℕ} (lim d : ℕ) (ts : List Token)
    → ((vs : List Token) → length vs < length ts → Fine w (k vs) (j vs)) → Fine w (need_indent lim d ts k) (need_indent lim d ts j)
fine_indent lim d ts x = fine_need indent ts (λ p us h. fine_fits lim d (at (mark indent) p) us (x us h))

begun_on : {B : Type 0} {f g : List Token → Stmt → Answer B} {y z : List Token → Answer B} {w : B → ℕ} (m : ℕ) (x : Option Stmt) (us : List Token) → length us < some_read m x
    → ((us : List Token) (s : Stmt) → length us < m → Fine w (f us s) (g us s)) → ((us : List Token) → length us ≤ m → Fine w (y us) (z us))
    → Fine w (on_some x (f us) (y us)) (on_some x (g us) (z us))
begun_on m (some s) us h f y = f us s h
begun_on m none us h f y = y us (omega arith)

pub fine_begun : {B : Type 0} {r q : Answer (Option Stmt)} {f g : List Token → Stmt → Answer B} {y z : List Token → Answer B} {w : B → ℕ} (m : ℕ) → Fine (some_read m) r q
    → ((us : List Token) (s : Stmt) → length us < m → Fine w (f us s) (g us s)) → ((us : List Token) → length us ≤ m → Fine w (y us) (z us))
    → Fine w (bind r (λ x us. on_some x (f us) (y us))) (bind q (λ x us. on_some x (g us) (z us)))
fine_begun {r = ok x us} {f = f} {g = g} {y = y} {z = z} {w = w} m h a b =
    subst (λ c. Fine w (on_some x (f us) (y us)) (bind c (λ v vs. on_some v (g vs) (z vs)))) h.same (begun_on m x us h.rests a b)
fine_begun {r = bar t ts} {g = g} {z = z} {w = w} m h a b = subst (λ c. Fine w (bar t ts) (bind c (λ v vs. on_some v (g vs) (z vs)))) h.same fine_bar
fine_begun {r = over l t ts} {g = g} {z = z} {w = w} m h a b = subst (λ c. Fine w (over l t ts) (bind c (λ v vs. on_some v (g vs) (z vs)))) h.same fine_over
fine_begun {r = cut} {g = g} {z = z} {w = w} m h a b = subst (λ c. Fine w cut (bind c (λ v vs. on_some v (g vs) (z vs)))) h.same fine_cut
fine_begun {r = tired} m h a b = absurd h.rests

pub fine_lead : {B : Type 0} {f g : Stmt → Answer B} {y z : Id → Answer B} {w : B → ℕ} (x : Lead) → ((s : Stmt) → Fine w (f s) (g s)) → ((v : Id) → Fine w (y v) (z v))
    → Fine w (on_lead x f y) (on_lead x g z)
fine_lead (says s) f g = f s
fine_lead (defines v) f g = g v

mutual
  pub expr_fine : (lim n n₂ a d : ℕ) (ts : List Token) (l : ℕ) → 3 * length ts < n → 3 * length ts < n₂ → length ts ≤ l → Fine (upto l) (expr lim n a d ts) (expr lim n₂ a d ts)
  expr_fine lim zero n₂ a d ts l h h₂ g = absurd (omega arith)
  expr_fine lim (suc n) zero a d ts l h h₂ g = absurd (omega arith)
  expr_fine lim (suc n) (suc n₂) a d [] l h h₂ g = fine_cut
  expr_fine lim (suc n) (suc n₂) a d (at (name m) p ∷ ts) l h h₂ g = after_fine lim n n₂ a d (term p (named m) (var p m)) ts l (omega arith) (omega arith) (omega arith)
  expr_fine lim (suc n) (suc n₂) a d (at (lit c) p ∷ ts) l h h₂ g = after_fine lim n n₂ a d (term p closed (con p c)) ts l (omega arith) (omega arith) (omega arith)
  expr_fine lim (suc n) (suc n₂) a d (at dot p ∷ ts) l h h₂ g = fine_bar
  expr_fine lim (suc n) (suc n₂) a d (at lparen p ∷ ts) l h h₂ g =
      fine_fits lim d (at lparen p) ts
      (fine_bind (length ts) (expr_fine lim n n₂ 0 (suc d) ts (length ts) (omega arith) (omega arith) (omega arith))
      (λ x us u. fine_need rparen us (λ q vs v. after_fine lim n n₂ a d (term p closed (tree x)) vs l (omega arith) (omega arith) (omega arith))))
  expr_fine lim (suc n) (suc n₂) a d (at lbracket p ∷ ts) l h h₂ g =
      fine_fits lim d (at lbracket p) ts
      (fine_bind (length ts) (bracketed_fine lim n n₂ (suc d) rbracket ts (length ts) (omega arith) (omega arith) (omega arith))
      (λ es us u. after_fine lim n n₂ a d (term p closed (list p es)) us l (omega arith) (omega arith) (omega arith)))
  expr_fine lim (suc n) (suc n₂) a d (at not_word p ∷ ts) l h h₂ g =
      fine_test (leb a (reach not))
      (fine_fits lim d (at not_word p) ts
      (fine_bind (length ts) (expr_fine lim n n₂ (reach not) (suc d) ts (length ts) (omega arith) (omega arith) (omega arith))
      (λ x us u. after_fine lim n n₂ a d (term p (prefix not) (pre p not (tree x))) us l (omega arith) (omega arith) (omega arith)))) fine_bar
  expr_fine lim (suc n) (suc n₂) a d (at (op o) p ∷ ts) l h h₂ g =
      fine_test (leb a (reach neg))
      (fine_decide (op_discrete minus o)
      (fine_fits lim d (at (op o) p) ts
      (fine_bind (length ts) (expr_fine lim n n₂ (reach neg) (suc d) ts (length ts) (omega arith) (omega arith) (omega arith))
      (λ x us u. after_fine lim n n₂ a d (term p (prefix neg) (pre p neg (tree x))) us l (omega arith) (omega arith) (omega arith)))) fine_bar) fine_bar
  expr_fine lim (suc n) (suc n₂) a d (at (mark k) p ∷ ts) l h h₂ g = fine_bar
  expr_fine lim (suc n) (suc n₂) a d (at (wrong k) p ∷ ts) l h h₂ g = fine_bar

  pub after_fine : (lim n n₂ a d : ℕ) (x : Term) (ts : List Token) (l : ℕ) → 3 * length ts < n → 3 * length ts < n₂ → length ts < l → Fine (upto l) (after lim n a d x ts) (after lim n₂ a d x ts)
  after_fine lim zero n₂ a d x ts l h h₂ g = absurd (omega arith)
  after_fine lim (suc n) zero a d x ts l h h₂ g = absurd (omega arith)
  after_fine lim (suc n) (suc n₂) a d x [] l h h₂ g = fine_ok g
  after_fine lim (suc n) (suc n₂) a d x (at (name m) p ∷ ts) l h h₂ g = fine_ok g
  after_fine lim (suc n) (suc n₂) a d x (at (lit c) p ∷ ts) l h h₂ g = fine_ok g
  after_fine lim (suc n) (suc n₂) a d x (at dot p ∷ ts) l h h₂ g =
      fine_test (leb 8 (tight (form x)))
      (fine_name ts (λ q m us u. after_fine lim n n₂ a d (term (begun_at x) member (mem (begun_at x) (tree x) m)) us l (omega arith) (omega arith) (omega arith))) (fine_ok g)
  after_fine lim (suc n) (suc n₂) a d x (at lparen p ∷ ts) l h h₂ g =
      fine_test (callable (form x))
      (fine_fits lim d (at lparen p) ts
      (fine_bind (length ts) (bracketed_fine lim n n₂ (suc d) rparen ts (length ts) (omega arith) (omega arith) (omega arith))
      (λ es us u. after_fine lim n n₂ a d (term (begun_at x) closed (call (begun_at x) (tree x) es)) us l (omega arith) (omega arith) (omega arith)))) (fine_ok g)
  after_fine lim (suc n) (suc n₂) a d x (at lbracket p ∷ ts) l h h₂ g =
      fine_test (leb 8 (tight (form x)))
      (fine_fits lim d (at lbracket p) ts
      (fine_bind (length ts) (expr_fine lim n n₂ 0 (suc d) ts (length ts) (omega arith) (omega arith) (omega arith))
      (λ y us u. fine_need rbracket us (λ q vs v. after_fine lim n n₂ a d (term (begun_at x) indexed (idx (begun_at x) (tree x) (tree y))) vs l (omega arith) (omega arith) (omega arith))))) (fine_ok g)
  after_fine lim (suc n) (suc n₂) a d x (at not_word p ∷ ts) l h h₂ g = fine_ok g
  after_fine lim (suc n) (suc n₂) a d x (at (op o) p ∷ ts) l h h₂ g =
      fine_test (leb a (level (rank o)))
      (fine_test (leb (left (rank o)) (tight (form x)))
      (fine_bind (length ts) (expr_fine lim n n₂ (right (rank o)) d ts (length ts) (omega arith) (omega arith) (omega arith))
      (λ y us u. after_fine lim n n₂ a d (term (begun_at x) (binary (rank o)) (bin (begun_at x) o (tree x) (tree y))) us l (omega arith) (omega arith) (omega arith))) (fine_ok g)) (fine_ok g)
  after_fine lim (suc n) (suc n₂) a d x (at (mark k) p ∷ ts) l h h₂ g = fine_ok g
  after_fine lim (suc n) (suc n₂) a d x (at (wrong k) p ∷ ts) l h h₂ g = fine_ok g

  pub bracketed_fine : (lim n n₂ d : ℕ) (m : Mark) (ts : List Token) (l : ℕ) → 3 * length ts + 2 < n → 3 * length ts + 2 < n₂ → length ts ≤ l → Fine (upto l) (bracketed lim n d m ts) (bracketed lim n₂ d m ts)
  bracketed_fine lim zero n₂ d m ts l h h₂ g = absurd (omega arith)
  bracketed_fine lim (suc n) zero d m ts l h h₂ g = absurd (omega arith)
  bracketed_fine lim (suc n) (suc n₂) d m ts l h h₂ g = fine_may m ts (λ q us u. fine_ok (omega arith)) (items_fine lim n n₂ d m nil ts l (omega arith) (omega arith) g)

  pub items_fine : (lim n n₂ d : ℕ) (m : Mark) (es : Exprs) (ts : List Token) (l : ℕ) → 3 * length ts + 1 < n → 3 * length ts + 1 < n₂ → length ts ≤ l → Fine (upto l) (items lim n d m es ts) (items lim n₂ d m es ts)
  items_fine lim zero n₂ d m es ts l h h₂ g = absurd (omega arith)
  items_fine lim (suc n) zero d m es ts l h h₂ g = absurd (omega arith)
  items_fine lim (suc n) (suc n₂) d m es ts l h h₂ g =
      fine_bind (length ts) (expr_fine lim n n₂ 0 d ts (length ts) (omega arith) (omega arith) (omega arith))
      (λ x us u. fine_may comma us (λ q vs v. items_fine lim n n₂ d m (snoc es (tree x)) vs l (omega arith) (omega arith) (omega arith)) (fine_need m us (λ q vs v. fine_ok (omega arith))))
