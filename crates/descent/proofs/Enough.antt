-- Three calls for each token are enough: statements, declarations, the program; and so the whole is read as the limited reader reads it.
use mathlib.Core.List.{List, [], ◌∷◌}
use mathlib.Core.Path.{◌≡◌}
use Prim.Native.Nat.{ℕ, suc, zero, ◌*◌, ◌+◌, ◌<◌, ◌≤◌}
use native.Mathlib.Omega.{arith}
use lib.ListN.{length}
use Rattle.grammar.specs.Tree.{Mark, Token, Id, Exprs, Params, Stmts, Arms, Decls, Form, target}
use Rattle.grammar.specs.Tree.{text, rparen, rbracket, comma, assign, colon, arrow, newline, dedent, end, class, def, global, nonlocal, pass, return, if, elif, else, while, for, within}
use Rattle.grammar.specs.Tree.{name, lit, dot, lparen, lbracket, not_word, op, mark, wrong, at, id, nil, snoc, no_params, param, empty, then, no_arms, arm, a_global, no_decls, decl}
use Rattle.grammar.specs.Tree.{lit_none, lit_true, lit_false, int, named, member, indexed, closed, binary, prefix}
use Rattle.grammar.specs.Limits.{Reading, limited}
use Rattle.grammar.specs.Reader.{done, begin}
use Rattle.descent.specs.Answers.{Answer, ok, bar, over, cut, tired, Tells, To}
use Rattle.descent.specs.Expressions.{tree, form, begun_at}
use Rattle.descent.specs.Statements.{next_place, chain, returned, command, stmt, branch, ways, suite, lines}
use Rattle.descent.specs.Declarations.{ann, parameter, parameters, variable, definition, headline, lead, Parts, parts, decls_of, stmts_of, func_body, func, class_body, class_of, program}
use Rattle.descent.specs.Theorems.{finish, DescendsWhole}
use Rattle.descent.specs.Calls.{calls_for, Fine, upto, some_read, Enough}
use Rattle.descent.proofs.Declarations.{program_tells}
use Rattle.descent.proofs.Fuel.{fine_ok, fine_bar, fine_over, fine_cut, fine_bind, fine_refuse, fine_fits, fine_may, fine_need, fine_when, fine_name, fine_lit, fine_paren, fine_indent, fine_begun, fine_lead, expr_fine, after_fine, bracketed_fine, items_fine}

chain_fine : (lim n n₂ d i : ℕ) (es : Exprs) (ts : List Token) (l : ℕ) → 3 * length ts + 1 < n → 3 * length ts + 1 < n₂ → length ts ≤ l → Fine (upto l) (chain lim n d i es ts) (chain lim n₂ d i es ts)
chain_fine lim zero n₂ d i es ts l h h₂ g = absurd (omega arith)
chain_fine lim (suc n) zero d i es ts l h h₂ g = absurd (omega arith)
chain_fine lim (suc n) (suc n₂) d i es ts l h h₂ g =
    fine_bind (length ts) (expr_fine lim n n₂ 0 d ts (length ts) (omega arith) (omega arith) (omega arith))
    (λ x us u. fine_may newline us (λ q vs v. fine_ok (omega arith))
    (fine_when (target (form x)) assign us (λ q vs v. chain_fine lim n n₂ d i (snoc es (tree x)) vs l (omega arith) (omega arith) (omega arith)) (fine_refuse us)))

returned_fine : (lim n n₂ d p : ℕ) (ts : List Token) (l : ℕ) → 3 * length ts < n → 3 * length ts < n₂ → length ts ≤ l → Fine (upto l) (returned lim n d p ts) (returned lim n₂ d p ts)
returned_fine lim n n₂ d p ts l h h₂ g =
    fine_may newline ts (λ q us u. fine_ok (omega arith))
    (fine_bind (length ts) (expr_fine lim n n₂ 0 d ts (length ts) h h₂ (omega arith)) (λ x us u. fine_need newline us (λ q vs v. fine_ok (omega arith))))

mutual
  command_fine : (lim n n₂ d : ℕ) (ts : List Token) (l : ℕ) → 3 * length ts < n → 3 * length ts < n₂ → length ts ≤ l → Fine (some_read l) (command lim n d ts) (command lim n₂ d ts)
  command_fine lim zero n₂ d ts l h h₂ g = absurd (omega arith)
  command_fine lim (suc n) zero d ts l h h₂ g = absurd (omega arith)
  command_fine lim (suc n) (suc n₂) d ts l h h₂ g =
      fine_may pass ts (λ p us u. fine_need newline us (λ q vs v. fine_ok (omega arith)))
      (fine_may return ts (λ p us u. fine_bind (length us) (returned_fine lim n n₂ d p us (length us) (omega arith) (omega arith) (omega arith)) (λ s vs v. fine_ok (omega arith)))
      (fine_may if ts (λ p us u. fine_bind (length us) (branch_fine lim n n₂ d no_arms p us (length us) (omega arith) (omega arith) (omega arith)) (λ s vs v. fine_ok (omega arith)))
      (fine_may while ts
      (λ p us u. fine_bind (length us) (expr_fine lim n n₂ 0 d us (length us) (omega arith) (omega arith) (omega arith))
      (λ x vs v. fine_need colon vs (λ q ws w. fine_bind (length ws) (suite_fine lim n n₂ d ws (length ws) (omega arith) (omega arith) (omega arith)) (λ ss xs y. fine_ok (omega arith)))))
      (fine_may for ts
      (λ p us u. fine_name us (λ q m vs v. fine_need within vs
      (λ r ws w. fine_bind (length ws) (expr_fine lim n n₂ 0 d ws (length ws) (omega arith) (omega arith) (omega arith))
      (λ x xs y. fine_need colon xs (λ j ys z. fine_bind (length ys) (suite_fine lim n n₂ d ys (length ys) (omega arith) (omega arith) (omega arith)) (λ ss zs e. fine_ok (omega arith)))))))
      (fine_ok (omega arith))))))

  stmt_fine : (lim n n₂ d : ℕ) (ts : List Token) (l : ℕ) → 3 * length ts + 2 < n → 3 * length ts + 2 < n₂ → length ts ≤ l → Fine (upto l) (stmt lim n d ts) (stmt lim n₂ d ts)
  stmt_fine lim zero n₂ d ts l h h₂ g = absurd (omega arith)
  stmt_fine lim (suc n) zero d ts l h h₂ g = absurd (omega arith)
  stmt_fine lim (suc n) (suc n₂) d ts l h h₂ g =
      fine_begun (length ts) (command_fine lim n n₂ d ts (length ts) (omega arith) (omega arith) (omega arith)) (λ us s u. fine_ok (omega arith))
      (λ us u. chain_fine lim n n₂ d (next_place us) nil us l (omega arith) (omega arith) (omega arith))

  branch_fine : (lim n n₂ d : ℕ) (aa : Arms) (p : ℕ) (ts : List Token) (l : ℕ) → 3 * length ts + 1 < n → 3 * length ts + 1 < n₂ → length ts ≤ l → Fine (upto l) (branch lim n d aa p ts) (branch lim n₂ d aa p ts)
  branch_fine lim zero n₂ d aa p ts l h h₂ g = absurd (omega arith)
  branch_fine lim (suc n) zero d aa p ts l h h₂ g = absurd (omega arith)
  branch_fine lim (suc n) (suc n₂) d aa p ts l h h₂ g =
      fine_bind (length ts) (expr_fine lim n n₂ 0 d ts (length ts) (omega arith) (omega arith) (omega arith))
      (λ x us u. fine_need colon us
      (λ q vs v. fine_bind (length vs) (suite_fine lim n n₂ d vs (length vs) (omega arith) (omega arith) (omega arith))
      (λ ss ws w. ways_fine lim n n₂ d (arm aa p (tree x) ss) ws l (omega arith) (omega arith) (omega arith))))

  ways_fine : (lim n n₂ d : ℕ) (aa : Arms) (ts : List Token) (l : ℕ) → 3 * length ts < n → 3 * length ts < n₂ → length ts < l → Fine (upto l) (ways lim n d aa ts) (ways lim n₂ d aa ts)
  ways_fine lim zero n₂ d aa ts l h h₂ g = absurd (omega arith)
  ways_fine lim (suc n) zero d aa ts l h h₂ g = absurd (omega arith)
  ways_fine lim (suc n) (suc n₂) d aa ts l h h₂ g =
      fine_may elif ts (λ p us u. branch_fine lim n n₂ d aa p us l (omega arith) (omega arith) (omega arith))
      (fine_may else ts
      (λ p us u. fine_need colon us (λ q vs v. fine_bind (length vs) (suite_fine lim n n₂ d vs (length vs) (omega arith) (omega arith) (omega arith)) (λ ss ws w. fine_ok (omega arith))))
      (fine_ok g))

  suite_fine : (lim n n₂ d : ℕ) (ts : List Token) (l : ℕ) → 3 * length ts < n → 3 * length ts < n₂ → length ts ≤ l → Fine (upto l) (suite lim n d ts) (suite lim n₂ d ts)
  suite_fine lim zero n₂ d ts l h h₂ g = absurd (omega arith)
  suite_fine lim (suc n) zero d ts l h h₂ g = absurd (omega arith)
  suite_fine lim (suc n) (suc n₂) d ts l h h₂ g =
      fine_need newline ts
      (λ q us u. fine_indent lim d us
      (λ vs v. fine_bind (length vs) (stmt_fine lim n n₂ (suc d) vs (length vs) (omega arith) (omega arith) (omega arith))
      (λ s ws w. lines_fine lim n n₂ (suc d) dedent (then empty s) ws l (omega arith) (omega arith) (omega arith))))

  lines_fine : (lim n n₂ d : ℕ) (m : Mark) (ss : Stmts) (ts : List Token) (l : ℕ) → 3 * length ts + 3 < n → 3 * length ts + 3 < n₂ → length ts ≤ l → Fine (upto l) (lines lim n d m ss ts) (lines lim n₂ d m ss ts)
  lines_fine lim zero n₂ d m ss ts l h h₂ g = absurd (omega arith)
  lines_fine lim (suc n) zero d m ss ts l h h₂ g = absurd (omega arith)
  lines_fine lim (suc n) (suc n₂) d m ss ts l h h₂ g =
      fine_may m ts (λ q us u. fine_ok (omega arith))
      (fine_bind (length ts) (stmt_fine lim n n₂ d ts (length ts) (omega arith) (omega arith) (omega arith)) (λ s us u. lines_fine lim n n₂ d m (then ss s) us l (omega arith) (omega arith) (omega arith)))

ann_fine : (lim n n₂ d : ℕ) (ts : List Token) (l : ℕ) → 3 * length ts < n → 3 * length ts < n₂ → length ts ≤ l → Fine (upto l) (ann lim n d ts) (ann lim n₂ d ts)
ann_fine lim zero n₂ d ts l h h₂ g = absurd (omega arith)
ann_fine lim (suc n) zero d ts l h h₂ g = absurd (omega arith)
ann_fine lim (suc n) (suc n₂) d [] l h h₂ g = fine_cut
ann_fine lim (suc n) (suc n₂) d (at (name m) p ∷ ts) l h h₂ g = fine_ok (omega arith)
ann_fine lim (suc n) (suc n₂) d (at (lit lit_none) p ∷ ts) l h h₂ g = fine_bar
ann_fine lim (suc n) (suc n₂) d (at (lit lit_true) p ∷ ts) l h h₂ g = fine_bar
ann_fine lim (suc n) (suc n₂) d (at (lit lit_false) p ∷ ts) l h h₂ g = fine_bar
ann_fine lim (suc n) (suc n₂) d (at (lit (int m)) p ∷ ts) l h h₂ g = fine_bar
ann_fine lim (suc n) (suc n₂) d (at (lit (text m)) p ∷ ts) l h h₂ g = fine_ok (omega arith)
ann_fine lim (suc n) (suc n₂) d (at dot p ∷ ts) l h h₂ g = fine_bar
ann_fine lim (suc n) (suc n₂) d (at lparen p ∷ ts) l h h₂ g = fine_bar
ann_fine lim (suc n) (suc n₂) d (at lbracket p ∷ ts) l h h₂ g =
    fine_fits lim d (at lbracket p) ts
    (fine_bind (length ts) (ann_fine lim n n₂ (suc d) ts (length ts) (omega arith) (omega arith) (omega arith)) (λ a us u. fine_need rbracket us (λ q vs v. fine_ok (omega arith))))
ann_fine lim (suc n) (suc n₂) d (at not_word p ∷ ts) l h h₂ g = fine_bar
ann_fine lim (suc n) (suc n₂) d (at (op o) p ∷ ts) l h h₂ g = fine_bar
ann_fine lim (suc n) (suc n₂) d (at (mark k) p ∷ ts) l h h₂ g = fine_bar
ann_fine lim (suc n) (suc n₂) d (at (wrong k) p ∷ ts) l h h₂ g = fine_bar

parameter_fine : (lim n n₂ d : ℕ) (ps : Params) (m : Id) (ts : List Token) (l : ℕ) → 3 * length ts < n → 3 * length ts < n₂ → length ts ≤ l → Fine (upto l) (parameter lim n d ps m ts) (parameter lim n₂ d ps m ts)
parameter_fine lim zero n₂ d ps m ts l h h₂ g = absurd (omega arith)
parameter_fine lim (suc n) zero d ps m ts l h h₂ g = absurd (omega arith)
parameter_fine lim (suc n) (suc n₂) d ps m ts l h h₂ g =
    fine_need colon ts
    (λ q us u. fine_bind (length us) (ann_fine lim n n₂ d us (length us) (omega arith) (omega arith) (omega arith))
    (λ a vs v. fine_may comma vs (λ r ws w. fine_name ws (λ i x xs y. parameter_fine lim n n₂ d (param ps m a) (id i x) xs l (omega arith) (omega arith) (omega arith)))
    (fine_need rparen vs (λ r ws w. fine_ok (omega arith)))))

parameters_fine : (lim n n₂ d : ℕ) (ts : List Token) (l : ℕ) → 3 * length ts < n → 3 * length ts < n₂ → length ts ≤ l → Fine (upto l) (parameters lim n d ts) (parameters lim n₂ d ts)
parameters_fine lim n n₂ d ts l h h₂ g =
    fine_may rparen ts (λ q us u. fine_ok (omega arith)) (fine_name ts (λ q m us u. parameter_fine lim n n₂ d no_params (id q m) us l (omega arith) (omega arith) (omega arith)))

variable_fine : (lim n n₂ d : ℕ) (v : Id) (ts : List Token) (l : ℕ) → 3 * length ts < n → 3 * length ts < n₂ → length ts ≤ l → Fine (upto l) (variable lim n d v ts) (variable lim n₂ d v ts)
variable_fine lim n n₂ d v ts l h h₂ g =
    fine_bind (length ts) (ann_fine lim n n₂ d ts (length ts) h h₂ (omega arith))
    (λ a us u. fine_need assign us (λ q vs e. fine_lit vs (λ r c ws w. fine_need newline ws (λ i xs y. fine_ok (omega arith)))))

definition_fine : (f : Form) (p : ℕ) (ts : List Token) (l : ℕ) → length ts ≤ l → Fine (upto l) (definition f p ts) (definition f p ts)
definition_fine (named m) p ts l g = fine_need colon ts (λ q us u. fine_ok (omega arith))
definition_fine member p ts l g = fine_refuse ts
definition_fine indexed p ts l g = fine_refuse ts
definition_fine closed p ts l g = fine_refuse ts
definition_fine (binary r) p ts l g = fine_refuse ts
definition_fine (prefix u) p ts l g = fine_refuse ts

headline_fine : (lim n n₂ d i : ℕ) (ts : List Token) (l : ℕ) → 3 * length ts < n → 3 * length ts < n₂ → length ts ≤ l → Fine (upto l) (headline lim n d i ts) (headline lim n₂ d i ts)
headline_fine lim n n₂ d i ts l h h₂ g =
    fine_bind (length ts) (expr_fine lim n n₂ 0 d ts (length ts) h h₂ (omega arith))
    (λ x us u. fine_may newline us (λ q vs v. fine_ok (omega arith))
    (fine_when (target (form x)) assign us
    (λ q vs v. fine_bind (length vs) (chain_fine lim n n₂ d i (snoc nil (tree x)) vs (length vs) (omega arith) (omega arith) (omega arith)) (λ s ws w. fine_ok (omega arith)))
    (definition_fine (form x) (begun_at x) us l (omega arith))))

lead_fine : (lim n n₂ d : ℕ) (ts : List Token) (l : ℕ) → 3 * length ts < n → 3 * length ts < n₂ → length ts ≤ l → Fine (upto l) (lead lim n d ts) (lead lim n₂ d ts)
lead_fine lim n n₂ d ts l h h₂ g =
    fine_begun (length ts) (command_fine lim n n₂ d ts (length ts) h h₂ (omega arith)) (λ us s u. fine_ok (omega arith))
    (λ us u. headline_fine lim n n₂ d (next_place us) us l (omega arith) (omega arith) (omega arith))

func_body_fine : (lim n n₂ d : ℕ) (ds : Decls) (ts : List Token) (l : ℕ) → 3 * length ts + 1 < n → 3 * length ts + 1 < n₂ → length ts ≤ l → Fine (upto l) (func_body lim n d ds ts) (func_body lim n₂ d ds ts)
func_body_fine lim zero n₂ d ds ts l h h₂ g = absurd (omega arith)
func_body_fine lim (suc n) zero d ds ts l h h₂ g = absurd (omega arith)
func_body_fine lim (suc n) (suc n₂) d ds ts l h h₂ g =
    fine_may def ts (λ p us u. fine_over)
    (fine_may nonlocal ts (λ p us u. fine_over)
    (fine_may global ts
    (λ p us u. fine_name us (λ q m vs v. fine_need newline vs (λ i ws w. func_body_fine lim n n₂ d (decl ds (a_global p (id q m))) ws l (omega arith) (omega arith) (omega arith))))
    (fine_bind (length ts) (lead_fine lim n n₂ d ts (length ts) (omega arith) (omega arith) (omega arith))
    (λ x us u. fine_lead x
    (λ s. fine_bind (length us) (lines_fine lim n n₂ d dedent (then empty s) us (length us) (omega arith) (omega arith) (omega arith)) (λ ss vs v. fine_ok (omega arith)))
    (λ v. fine_bind (length us) (variable_fine lim n n₂ d v us (length us) (omega arith) (omega arith) (omega arith))
    (λ c vs w. func_body_fine lim n n₂ d (decl ds c) vs l (omega arith) (omega arith) (omega arith)))))))

func_fine : (lim n n₂ d p : ℕ) (ts : List Token) (l : ℕ) → 3 * length ts < n → 3 * length ts < n₂ → length ts ≤ l → Fine (upto l) (func lim n d p ts) (func lim n₂ d p ts)
func_fine lim n n₂ d p ts l h h₂ g =
    fine_name ts (λ q m us u. fine_paren lim d us
    (λ vs v. fine_bind (length vs) (parameters_fine lim n n₂ (suc d) vs (length vs) (omega arith) (omega arith) (omega arith))
    (λ ps ws w. fine_need arrow ws (λ i xs x. fine_bind (length xs) (ann_fine lim n n₂ d xs (length xs) (omega arith) (omega arith) (omega arith))
    (λ a ys y. fine_need colon ys (λ j zs z. fine_need newline zs (λ k rs r. fine_indent lim d rs
    (λ bs b. fine_bind (length bs) (func_body_fine lim n n₂ (suc d) no_decls bs (length bs) (omega arith) (omega arith) (omega arith)) (λ e cs c. fine_ok (omega arith))))))))))

class_body_fine : (lim n n₂ d : ℕ) (ds : Decls) (ts : List Token) (l : ℕ) → 3 * length ts < n → 3 * length ts < n₂ → length ts ≤ l → Fine (upto l) (class_body lim n d ds ts) (class_body lim n₂ d ds ts)
class_body_fine lim zero n₂ d ds ts l h h₂ g = absurd (omega arith)
class_body_fine lim (suc n) zero d ds ts l h h₂ g = absurd (omega arith)
class_body_fine lim (suc n) (suc n₂) d ds ts l h h₂ g =
    fine_may def ts
    (λ p us u. fine_bind (length us) (func_fine lim n n₂ d p us (length us) (omega arith) (omega arith) (omega arith)) (λ c vs v. class_body_fine lim n n₂ d (decl ds c) vs l (omega arith) (omega arith) (omega arith)))
    (fine_may dedent ts (λ p us u. fine_ok (omega arith))
    (fine_name ts (λ p m us u. fine_need colon us
    (λ q vs v. fine_bind (length vs) (variable_fine lim n n₂ d (id p m) vs (length vs) (omega arith) (omega arith) (omega arith))
    (λ c ws w. class_body_fine lim n n₂ d (decl ds c) ws l (omega arith) (omega arith) (omega arith))))))

class_fine : (lim n n₂ d p : ℕ) (ts : List Token) (l : ℕ) → 3 * length ts < n → 3 * length ts < n₂ → length ts ≤ l → Fine (upto l) (class_of lim n d p ts) (class_of lim n₂ d p ts)
class_fine lim n n₂ d p ts l h h₂ g =
    fine_name ts (λ q m us u. fine_paren lim d us (λ vs v. fine_name vs (λ r s ws w. fine_need rparen ws (λ i xs x. fine_need colon xs (λ j ys y. fine_need newline ys
    (λ k zs z. fine_indent lim d zs
    (λ rs e. fine_bind (length rs) (class_body_fine lim n n₂ (suc d) no_decls rs (length rs) (omega arith) (omega arith) (omega arith)) (λ ds bs b. fine_ok (omega arith)))))))))

program_fine : (lim n n₂ : ℕ) (ds : Decls) (ts : List Token) (l : ℕ) → 3 * length ts + 1 < n → 3 * length ts + 1 < n₂ → length ts ≤ l → Fine (upto l) (program lim n ds ts) (program lim n₂ ds ts)
program_fine lim zero n₂ ds ts l h h₂ g = absurd (omega arith)
program_fine lim (suc n) zero ds ts l h h₂ g = absurd (omega arith)
program_fine lim (suc n) (suc n₂) ds ts l h h₂ g =
    fine_may def ts
    (λ p us u. fine_bind (length us) (func_fine lim n n₂ 0 p us (length us) (omega arith) (omega arith) (omega arith)) (λ c vs v. program_fine lim n n₂ (decl ds c) vs l (omega arith) (omega arith) (omega arith)))
    (fine_may class ts
    (λ p us u. fine_bind (length us) (class_fine lim n n₂ 0 p us (length us) (omega arith) (omega arith) (omega arith)) (λ c vs v. program_fine lim n n₂ (decl ds c) vs l (omega arith) (omega arith) (omega arith)))
    (fine_bind (length ts) (lead_fine lim n n₂ 0 ts (length ts) (omega arith) (omega arith) (omega arith))
    (λ x us u. fine_lead x
    (λ s. fine_bind (length us) (lines_fine lim n n₂ 0 end (then empty s) us (length us) (omega arith) (omega arith) (omega arith)) (λ ss vs v. fine_ok (omega arith)))
    (λ v. fine_bind (length us) (variable_fine lim n n₂ 0 v us (length us) (omega arith) (omega arith) (omega arith)) (λ c vs w. program_fine lim n n₂ (decl ds c) vs l (omega arith) (omega arith) (omega arith))))))

pub enough : Enough
enough =
    record {
      exprs = λ lim n n₂ a d ts h k. expr_fine lim n n₂ a d ts (length ts) h k (omega arith);
      grown = λ lim n n₂ a d x ts h k. after_fine lim n n₂ a d x ts (suc (length ts)) h k (omega arith);
      lists = λ lim n n₂ d m ts h k. bracketed_fine lim n n₂ d m ts (length ts) h k (omega arith);
      listed = λ lim n n₂ d m es ts h k. items_fine lim n n₂ d m es ts (length ts) h k (omega arith);
      assignments = λ lim n n₂ d i es ts h k. chain_fine lim n n₂ d i es ts (length ts) h k (omega arith);
      results = λ lim n n₂ d p ts h k. returned_fine lim n n₂ d p ts (length ts) h k (omega arith);
      commands = λ lim n n₂ d ts h k. command_fine lim n n₂ d ts (length ts) h k (omega arith);
      statements = λ lim n n₂ d ts h k. stmt_fine lim n n₂ d ts (length ts) h k (omega arith);
      arms = λ lim n n₂ d aa p ts h k. branch_fine lim n n₂ d aa p ts (length ts) h k (omega arith);
      more = λ lim n n₂ d aa ts h k. ways_fine lim n n₂ d aa ts (suc (length ts)) h k (omega arith);
      blocks = λ lim n n₂ d ts h k. suite_fine lim n n₂ d ts (length ts) h k (omega arith);
      in_block = λ lim n n₂ d m ss ts h k. lines_fine lim n n₂ d m ss ts (length ts) h k (omega arith);
      types = λ lim n n₂ d ts h k. ann_fine lim n n₂ d ts (length ts) h k (omega arith);
      one_param = λ lim n n₂ d ps m ts h k. parameter_fine lim n n₂ d ps m ts (length ts) h k (omega arith);
      params = λ lim n n₂ d ts h k. parameters_fine lim n n₂ d ts (length ts) h k (omega arith);
      definitions = λ lim n n₂ d v ts h k. variable_fine lim n n₂ d v ts (length ts) h k (omega arith);
      headlines = λ lim n n₂ d i ts h k. headline_fine lim n n₂ d i ts (length ts) h k (omega arith);
      leads = λ lim n n₂ d ts h k. lead_fine lim n n₂ d ts (length ts) h k (omega arith);
      bodies = λ lim n n₂ d ds ts h k. func_body_fine lim n n₂ d ds ts (length ts) h k (omega arith);
      functions = λ lim n n₂ d p ts h k. func_fine lim n n₂ d p ts (length ts) h k (omega arith);
      members = λ lim n n₂ d ds ts h k. class_body_fine lim n n₂ d ds ts (length ts) h k (omega arith);
      classes = λ lim n n₂ d p ts h k. class_fine lim n n₂ d p ts (length ts) h k (omega arith);
      programs = λ lim n n₂ ds ts h k. program_fine lim n n₂ ds ts (length ts) h k (omega arith);
    }

-- an answer that does not tire is the reading
finishes : (lim l : ℕ) (a b : Answer Parts) (o : Reading) → Tells (To lim (λ x. done (decls_of x) (stmts_of x))) a o → Fine (upto l) a b → o ≡ finish a
finishes lim l (ok (parts ds ss) []) b o e r = e.told
finishes lim l (ok (parts ds ss) (t ∷ ts)) b o e r = e.told
finishes lim l (bar t ts) b o e r = e.told
finishes lim l (over c t ts) b o e r = e.told
finishes lim l cut b o e r = e.told
finishes lim l tired b o e r = absurd r.rests

pub descends_whole : DescendsWhole
unfolding calls_for
descends_whole lim ts =
    let n : ℕ = 3 * length ts + 4 in
    finishes lim (length ts) (program lim n no_decls ts) (program lim n no_decls ts) (limited lim ts begin) (program_tells lim n no_decls ts)
    (program_fine lim n n no_decls ts (length ts) (omega arith) (omega arith) (omega arith))
