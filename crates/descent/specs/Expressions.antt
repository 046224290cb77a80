-- The expressions, by functions that call each other: an operand, and a loop that grows it. a: how tight it must be; d: how many levels are open.
use Rattle.std.specs.Prelude.{List, [], ◌∷◌, ◌≡◌, ℕ, suc, zero, leb}
use Rattle.std.proofs.Math.Option.{none}
use Rattle.grammar.specs.Tree.{Mark, Token, Expr, Exprs, Form, rank, level, left, right, reach, tight, callable, op_discrete}
use Rattle.grammar.specs.Tree.{minus, not, neg, rparen, rbracket, comma}
use Rattle.grammar.specs.Tree.{name, lit, dot, lparen, lbracket, not_word, op, mark, wrong, at, var, con, bin, pre, mem, idx, call, list, nil, snoc}
use Rattle.grammar.specs.Tree.{named, member, indexed, closed, binary, prefix}
use Rattle.grammar.specs.Reader.{Hole, State}
use Rattle.grammar.specs.Reader.{have, grows}
use Rattle.grammar.specs.Limits.{Reading, limited}
use Rattle.descent.specs.Answers.{Answer, ok, bar, cut, tired, bind, decide, test, fits, may, need, need_name}

-- an expression, with the place where it begins and its form
pub data Term : Type 0 where
  term : ℕ → Form → Expr → Term

abbrev pub tree : Term → Expr
tree (term i f e) = e

abbrev pub form : Term → Form
form (term i f e) = f

abbrev pub begun_at : Term → ℕ
begun_at (term i f e) = i

abbrev mutual
  pub expr : ℕ → ℕ → ℕ → ℕ → List Token → Answer Term
  expr lim zero a d ts = tired
  expr lim (suc n) a d [] = cut
  expr lim (suc n) a d (at (name m) p ∷ ts) = after lim n a d (term p (named m) (var p m)) ts
  expr lim (suc n) a d (at (lit l) p ∷ ts) = after lim n a d (term p closed (con p l)) ts
  expr lim (suc n) a d (at dot p ∷ ts) = bar (at dot p) ts
  expr lim (suc n) a d (at lparen p ∷ ts) =
      fits lim d (at lparen p) ts (bind (expr lim n 0 (suc d) ts) (λ x us. need rparen us (λ q vs. after lim n a d (term p closed (tree x)) vs)))
  expr lim (suc n) a d (at lbracket p ∷ ts) =
      fits lim d (at lbracket p) ts (bind (bracketed lim n (suc d) rbracket ts) (λ es us. after lim n a d (term p closed (list p es)) us))
  expr lim (suc n) a d (at not_word p ∷ ts) =
      test (leb a (reach not))
      (fits lim d (at not_word p) ts (bind (expr lim n (reach not) (suc d) ts) (λ x us. after lim n a d (term p (prefix not) (pre p not (tree x))) us)))
      (bar (at not_word p) ts)
  expr lim (suc n) a d (at (op o) p ∷ ts) =
      test (leb a (reach neg))
      (decide (op_discrete minus o)
      (fits lim d (at (op o) p) ts (bind (expr lim n (reach neg) (suc d) ts) (λ x us. after lim n a d (term p (prefix neg) (pre p neg (tree x))) us)))
      (bar (at (op o) p) ts))
      (bar (at (op o) p) ts)
  expr lim (suc n) a d (at (mark k) p ∷ ts) = bar (at (mark k) p) ts
  expr lim (suc n) a d (at (wrong k) p ∷ ts) = bar (at (wrong k) p) ts

  -- what goes on with the expression
  pub after : ℕ → ℕ → ℕ → ℕ → Term → List Token → Answer Term
  after lim zero a d x ts = tired
  after lim (suc n) a d x [] = ok x []
  after lim (suc n) a d x (at (name m) p ∷ ts) = ok x (at (name m) p ∷ ts)
  after lim (suc n) a d x (at (lit l) p ∷ ts) = ok x (at (lit l) p ∷ ts)
  after lim (suc n) a d x (at dot p ∷ ts) =
      test (leb 8 (tight (form x)))
      (need_name ts (λ q m us. after lim n a d (term (begun_at x) member (mem (begun_at x) (tree x) m)) us))
      (ok x (at dot p ∷ ts))
  after lim (suc n) a d x (at lparen p ∷ ts) =
      test (callable (form x))
      (fits lim d (at lparen p) ts
      (bind (bracketed lim n (suc d) rparen ts) (λ es us. after lim n a d (term (begun_at x) closed (call (begun_at x) (tree x) es)) us)))
      (ok x (at lparen p ∷ ts))
  after lim (suc n) a d x (at lbracket p ∷ ts) =
      test (leb 8 (tight (form x)))
      (fits lim d (at lbracket p) ts
      (bind (expr lim n 0 (suc d) ts) (λ y us. need rbracket us (λ q vs. after lim n a d (term (begun_at x) indexed (idx (begun_at x) (tree x) (tree y))) vs))))
      (ok x (at lbracket p ∷ ts))
  after lim (suc n) a d x (at not_word p ∷ ts) = ok x (at not_word p ∷ ts)
  after lim (suc n) a d x (at (op o) p ∷ ts) =
      test (leb a (level (rank o)))
      (test (leb (left (rank o)) (tight (form x)))
      (bind (expr lim n (right (rank o)) d ts) (λ y us. after lim n a d (term (begun_at x) (binary (rank o)) (bin (begun_at x) o (tree x) (tree y))) us))
      (ok x (at (op o) p ∷ ts)))
      (ok x (at (op o) p ∷ ts))
  after lim (suc n) a d x (at (mark k) p ∷ ts) = ok x (at (mark k) p ∷ ts)
  after lim (suc n) a d x (at (wrong k) p ∷ ts) = ok x (at (wrong k) p ∷ ts)

  -- the expressions up to this mark
  pub bracketed : ℕ → ℕ → ℕ → Mark → List Token → Answer Exprs
  bracketed lim zero d m ts = tired
  bracketed lim (suc n) d m ts = may m ts (λ q us. ok nil us) (items lim n d m nil ts)

  pub items : ℕ → ℕ → ℕ → Mark → Exprs → List Token → Answer Exprs
  items lim zero d m es ts = tired
  items lim (suc n) d m es ts =
      bind (expr lim n 0 d ts)
      (λ x us. may comma us (λ q vs. items lim n d m (snoc es (tree x)) vs) (need m us (λ q vs. ok (snoc es (tree x)) vs)))

-- the expression stands in the hole
abbrev pub has : Hole → Term → State
has h x = have (begun_at x) (form x) (tree x) h

-- and nothing goes on with it
abbrev pub Halts : Hole → Term → List Token → Type 0
Halts h x [] = Unit {0}
Halts h x (t ∷ ts) = grows (begun_at x) (form x) (tree x) h t ≡ none

abbrev pub Into : ℕ → Hole → Term → List Token → Reading → Type 0
Into lim h x us o = (o ≡ limited lim us (has h x)) × Halts h x us
