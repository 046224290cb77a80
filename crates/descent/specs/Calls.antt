-- How many calls are enough: three for each token, and a few. More of them change nothing.
use Rattle.std.specs.Prelude.{List, ◌≡◌, ℕ, suc, ◌*◌, ◌+◌, ◌<◌, length}
use Rattle.std.proofs.Math.Option.{Option, none, some}
use Rattle.grammar.specs.Tree.{Mark, Token, Id, Exprs, Params, Stmt, Stmts, Arms, Decls}
use Rattle.descent.specs.Answers.{Answer, ok, bar, over, cut, tired}
use Rattle.descent.specs.Expressions.{Term, expr, after, bracketed, items}
use Rattle.descent.specs.Statements.{chain, returned, command, stmt, branch, ways, suite, lines}
use Rattle.descent.specs.Declarations.{ann, parameter, parameters, variable, headline, lead, func_body, func, class_body, class_of, program}

-- a number that is enough for every function
unfoldable pub calls_for : List Token → ℕ
calls_for ts = 3 * length ts + 4

-- Fewer tokens are left than w says of what was read, and the calls were not too deep.
abbrev pub Rests : {A : Type 0} → (A → ℕ) → Answer A → Type 0
Rests w (ok x us) = length us < w x
Rests w (bar t ts) = Unit {0}
Rests w (over c t ts) = Unit {0}
Rests w cut = Unit {0}
Rests w tired = ⊥

-- two answers, got with two numbers of calls
pub record Fine {A : Type 0} (w : A → ℕ) (a b : Answer A) : Type 0 where
  pub rests : Rests w a
  pub same : a ≡ b

-- the same number for all
abbrev pub upto : {A : Type 0} → ℕ → A → ℕ
upto l x = l

-- fewer than l, or no more where nothing was read
abbrev pub some_read : ℕ → Option Stmt → ℕ
some_read l (some s) = l
some_read l none = suc l

-- Of each function: it does not tire, takes a token where it must, and answers the same with any two numbers that are enough.
pub record Enough : Type 0 where
  pub exprs : (lim n n₂ : ℕ) (a d : ℕ) (ts : List Token) → 3 * length ts < n → 3 * length ts < n₂ → Fine (upto (length ts)) (expr lim n a d ts) (expr lim n₂ a d ts)
  pub grown : (lim n n₂ : ℕ) (a d : ℕ) (x : Term) (ts : List Token) → 3 * length ts < n → 3 * length ts < n₂ → Fine (upto (suc (length ts))) (after lim n a d x ts) (after lim n₂ a d x ts)
  pub lists : (lim n n₂ : ℕ) (d : ℕ) (m : Mark) (ts : List Token) → 3 * length ts + 2 < n → 3 * length ts + 2 < n₂ → Fine (upto (length ts)) (bracketed lim n d m ts) (bracketed lim n₂ d m ts)
  pub listed : (lim n n₂ : ℕ) (d : ℕ) (m : Mark) (es : Exprs) (ts : List Token) → 3 * length ts + 1 < n → 3 * length ts + 1 < n₂ → Fine (upto (length ts)) (items lim n d m es ts) (items lim n₂ d m es ts)
  pub assignments : (lim n n₂ : ℕ) (d i : ℕ) (es : Exprs) (ts : List Token) → 3 * length ts + 1 < n → 3 * length ts + 1 < n₂ → Fine (upto (length ts)) (chain lim n d i es ts) (chain lim n₂ d i es ts)
  pub results : (lim n n₂ : ℕ) (d p : ℕ) (ts : List Token) → 3 * length ts < n → 3 * length ts < n₂ → Fine (upto (length ts)) (returned lim n d p ts) (returned lim n₂ d p ts)
  pub commands : (lim n n₂ : ℕ) (d : ℕ) (ts : List Token) → 3 * length ts < n → 3 * length ts < n₂ → Fine (some_read (length ts)) (command lim n d ts) (command lim n₂ d ts)
  pub statements : (lim n n₂ : ℕ) (d : ℕ) (ts : List Token) → 3 * length ts + 2 < n → 3 * length ts + 2 < n₂ → Fine (upto (length ts)) (stmt lim n d ts) (stmt lim n₂ d ts)
  pub arms : (lim n n₂ : ℕ) (d : ℕ) (aa : Arms) (p : ℕ) (ts : List Token) → 3 * length ts + 1 < n → 3 * length ts + 1 < n₂ → Fine (upto (length ts)) (branch lim n d aa p ts) (branch lim n₂ d aa p ts)
  pub more : (lim n n₂ : ℕ) (d : ℕ) (aa : Arms) (ts : List Token) → 3 * length ts < n → 3 * length ts < n₂ → Fine (upto (suc (length ts))) (ways lim n d aa ts) (ways lim n₂ d aa ts)
  pub blocks : (lim n n₂ : ℕ) (d : ℕ) (ts : List Token) → 3 * length ts < n → 3 * length ts < n₂ → Fine (upto (length ts)) (suite lim n d ts) (suite lim n₂ d ts)
  pub in_block : (lim n n₂ : ℕ) (d : ℕ) (m : Mark) (ss : Stmts) (ts : List Token) → 3 * length ts + 3 < n → 3 * length ts + 3 < n₂ → Fine (upto (length ts)) (lines lim n d m ss ts) (lines lim n₂ d m ss ts)
  pub types : (lim n n₂ : ℕ) (d : ℕ) (ts : List Token) → 3 * length ts < n → 3 * length ts < n₂ → Fine (upto (length ts)) (ann lim n d ts) (ann lim n₂ d ts)
  pub one_param : (lim n n₂ : ℕ) (d : ℕ) (ps : Params) (m : Id) (ts : List Token) → 3 * length ts < n → 3 * length ts < n₂ → Fine (upto (length ts)) (parameter lim n d ps m ts) (parameter lim n₂ d ps m ts)
  pub params : (lim n n₂ : ℕ) (d : ℕ) (ts : List Token) → 3 * length ts < n → 3 * length ts < n₂ → Fine (upto (length ts)) (parameters lim n d ts) (parameters lim n₂ d ts)
  pub definitions : (lim n n₂ : ℕ) (d : ℕ) (v : Id) (ts : List Token) → 3 * length ts < n → 3 * length ts < n₂ → Fine (upto (length ts)) (variable lim n d v ts) (variable lim n₂ d v ts)
  pub headlines : (lim n n₂ : ℕ) (d i : ℕ) (ts : List Token) → 3 * length ts < n → 3 * length ts < n₂ → Fine (upto (length ts)) (headline lim n d i ts) (headline lim n₂ d i ts)
  pub leads : (lim n n₂ : ℕ) (d : ℕ) (ts : List Token) → 3 * length ts < n → 3 * length ts < n₂ → Fine (upto (length ts)) (lead lim n d ts) (lead lim n₂ d ts)
  pub bodies : (lim n n₂ : ℕ) (d : ℕ) (ds : Decls) (ts : List Token) → 3 * length ts + 1 < n → 3 * length ts + 1 < n₂ → Fine (upto (length ts)) (func_body lim n d ds ts) (func_body lim n₂ d ds ts)
  pub functions : (lim n n₂ : ℕ) (d p : ℕ) (ts : List Token) → 3 * length ts < n → 3 * length ts < n₂ → Fine (upto (length ts)) (func lim n d p ts) (func lim n₂ d p ts)
  pub members : (lim n n₂ : ℕ) (d : ℕ) (ds : Decls) (ts : List Token) → 3 * length ts < n → 3 * length ts < n₂ → Fine (upto (length ts)) (class_body lim n d ds ts) (class_body lim n₂ d ds ts)
  pub classes : (lim n n₂ : ℕ) (d p : ℕ) (ts : List Token) → 3 * length ts < n → 3 * length ts < n₂ → Fine (upto (length ts)) (class_of lim n d p ts) (class_of lim n₂ d p ts)
  pub programs : (lim n n₂ : ℕ) (ds : Decls) (ts : List Token) → 3 * length ts + 1 < n → 3 * length ts + 1 < n₂ → Fine (upto (length ts)) (program lim n ds ts) (program lim n₂ ds ts)
