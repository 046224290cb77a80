-- The statements, by functions that call each other.
use Rattle.std.specs.Prelude.{List, [], ◌∷◌, ◌≡◌, ℕ, suc, zero}
use Rattle.std.proofs.Math.Option.{Option, none, some}
use Rattle.grammar.specs.Tree.{Mark, Token, Exprs, Stmt, Stmts, Arms, place, target}
use Rattle.grammar.specs.Tree.{assign, colon, newline, dedent, pass, return, if, elif, else, while, for, within}
use Rattle.grammar.specs.Tree.{nil, snoc, skip, ret₀, ret, assigns, choose, loop, each, empty, then, no_arms, arm}
use Rattle.grammar.specs.Reader.{Body, line}
use Rattle.grammar.specs.Reader.{want, start, add}
use Rattle.grammar.specs.Limits.{Reading, limited}
use Rattle.descent.specs.Answers.{Answer, ok, tired, bind, refuse, may, need, need_name, need_indent, may_when}
use Rattle.descent.specs.Expressions.{tree, form, expr}

-- where the next token stands
abbrev pub next_place : List Token → ℕ
next_place [] = 0
next_place (t ∷ ts) = place t

abbrev pub on_some : {A B : Type 0} → Option A → (A → B) → B → B
on_some (some x) f z = f x
on_some none f z = z

-- the value of a line, or one more target: es are the targets so far, i is where the line begins
abbrev pub chain : ℕ → ℕ → ℕ → ℕ → Exprs → List Token → Answer Stmt
chain lim zero d i es ts = tired
chain lim (suc n) d i es ts =
    bind (expr lim n 0 d ts)
    (λ x us. may newline us (λ q vs. ok (assigns i es (tree x)) vs)
    (may_when (target (form x)) assign us (λ q vs. chain lim n d i (snoc es (tree x)) vs) (refuse us)))

-- after `return`
abbrev pub returned : ℕ → ℕ → ℕ → ℕ → List Token → Answer Stmt
returned lim n d p ts =
    may newline ts (λ q us. ok (ret₀ p) us) (bind (expr lim n 0 d ts) (λ x us. need newline us (λ q vs. ok (ret p (tree x)) vs)))

abbrev mutual
  -- a statement that begins with a mark: none, where the token is no such mark
  pub command : ℕ → ℕ → ℕ → List Token → Answer (Option Stmt)
  command lim zero d ts = tired
  command lim (suc n) d ts =
      may pass ts (λ p us. need newline us (λ q vs. ok (some (skip p)) vs))
      (may return ts (λ p us. bind (returned lim n d p us) (λ s vs. ok (some s) vs))
      (may if ts (λ p us. bind (branch lim n d no_arms p us) (λ s vs. ok (some s) vs))
      (may while ts (λ p us. bind (expr lim n 0 d us) (λ x vs. need colon vs (λ q ws. bind (suite lim n d ws) (λ ss xs. ok (some (loop p (tree x) ss)) xs))))
      (may for ts
      (λ p us. need_name us (λ q m vs. need within vs (λ r ws. bind (expr lim n 0 d ws)
      (λ x xs. need colon xs (λ j ys. bind (suite lim n d ys) (λ ss zs. ok (some (each p m (tree x) ss)) zs))))))
      (ok none ts)))))

  pub stmt : ℕ → ℕ → ℕ → List Token → Answer Stmt
  stmt lim zero d ts = tired
  stmt lim (suc n) d ts = bind (command lim n d ts) (λ x us. on_some x (λ s. ok s us) (chain lim n d (next_place us) nil us))

  -- after `if` or `elif`: aa are the arms so far
  pub branch : ℕ → ℕ → ℕ → Arms → ℕ → List Token → Answer Stmt
  branch lim zero d aa p ts = tired
  branch lim (suc n) d aa p ts =
      bind (expr lim n 0 d ts) (λ x us. need colon us (λ q vs. bind (suite lim n d vs) (λ ss ws. ways lim n d (arm aa p (tree x) ss) ws)))

  -- after the block of an arm
  pub ways : ℕ → ℕ → ℕ → Arms → List Token → Answer Stmt
  ways lim zero d aa ts = tired
  ways lim (suc n) d aa ts =
      may elif ts (λ p us. branch lim n d aa p us)
      (may else ts (λ p us. need colon us (λ q vs. bind (suite lim n d vs) (λ ss ws. ok (choose aa ss) ws)))
      (ok (choose aa empty) ts))

  -- a block, after its colon
  pub suite : ℕ → ℕ → ℕ → List Token → Answer Stmts
  suite lim zero d ts = tired
  suite lim (suc n) d ts =
      need newline ts (λ q us. need_indent lim d us (λ vs. bind (stmt lim n (suc d) vs) (λ s ws. lines lim n (suc d) dedent (then empty s) ws)))

  -- more statements, up to this mark
  pub lines : ℕ → ℕ → ℕ → Mark → Stmts → List Token → Answer Stmts
  lines lim zero d m ss ts = tired
  lines lim (suc n) d m ss ts = may m ts (λ q us. ok ss us) (bind (stmt lim n d ts) (λ s us. lines lim n d m (then ss s) us))

-- the statement is read; or the token begins no such statement, and a line must begin
abbrev pub Begun : ℕ → Body → Option Stmt → List Token → Reading → Type 0
Begun lim b (some s) us o = o ≡ limited lim us (start (add s b))
Begun lim b none us o = o ≡ limited lim us (want (line (next_place us) nil b))
