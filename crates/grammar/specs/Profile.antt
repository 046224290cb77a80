-- What each token does in a derivation: one label for each token that a phrase takes, in their order.
use Rattle.std.specs.Prelude.{ℕ, suc, List, [], ◌∷◌}
use Rattle.grammar.specs.Tree.{Token, Id, Expr, Exprs, Ann, Params, Stmt, Stmts, Arms, Decl, Decls, Form, Where, in_program, in_class, in_function}
use Rattle.grammar.specs.Grammar.{Reads, Items, Targets, Says, Ways, Block, Lines, Types, Takes, Sig, Declares, Defs, Program, r_name, r_lit, r_paren, r_list₀, r_list, r_member, r_index, r_call₀, r_call}
use Rattle.grammar.specs.Grammar.{r_binary, r_not, r_neg, i_one, i_more, t_none, t_more, s_pass, s_return₀, s_return, s_line, s_if, s_else, s_while, s_for, w_if, w_elif, block, l_none, l_more, y_name}
use Rattle.grammar.specs.Grammar.{y_text, y_list, p_one, p_more, g_none, g_some, d_var, d_func, d_class, d_global, d_nonlocal, n_none, n_more, whole}

pub data Label : Type 0 where
  plain : Label
  -- the token opens a level, and this many are open around it
  opening : ℕ → Label
  -- it heads a `def` or `nonlocal` in the body of a function
  nested : Label

-- Of each phrase: n levels are open where it begins, and the labels k come after its own.
abbrev mutual
  pub expr_labels : {i : ℕ} {f : Form} {e : Expr} {ts us : List Token} → Reads i f e ts us → ℕ → List Label → List Label
  expr_labels r_name n k = plain ∷ k
  expr_labels r_lit n k = plain ∷ k
  expr_labels (r_paren d) n k = opening n ∷ expr_labels d (suc n) (plain ∷ k)
  expr_labels r_list₀ n k = opening n ∷ plain ∷ k
  expr_labels (r_list d) n k = opening n ∷ item_labels d (suc n) (plain ∷ k)
  expr_labels (r_member d l) n k = expr_labels d n (plain ∷ plain ∷ k)
  expr_labels (r_index d l e) n k = expr_labels d n (opening n ∷ expr_labels e (suc n) (plain ∷ k))
  expr_labels (r_call₀ d c) n k = expr_labels d n (opening n ∷ plain ∷ k)
  expr_labels (r_call d c i) n k = expr_labels d n (opening n ∷ item_labels i (suc n) (plain ∷ k))
  expr_labels (r_binary d l e r) n k = expr_labels d n (plain ∷ expr_labels e n k)
  expr_labels (r_not d l) n k = opening n ∷ expr_labels d (suc n) k
  expr_labels (r_neg d l) n k = opening n ∷ expr_labels d (suc n) k

  pub item_labels : {es : Exprs} {i : ℕ} {f : Form} {e : Expr} {ts us : List Token} → Items es i f e ts us → ℕ → List Label → List Label
  item_labels (i_one d) n k = expr_labels d n k
  item_labels (i_more i d) n k = item_labels i n (plain ∷ expr_labels d n k)

abbrev pub target_labels : {es : Exprs} {ts us : List Token} → Targets es ts us → ℕ → List Label → List Label
target_labels t_none n k = k
target_labels (t_more t d c) n k = target_labels t n (expr_labels d n (plain ∷ k))

abbrev mutual
  pub stmt_labels : {s : Stmt} {ts us : List Token} → Says s ts us → ℕ → List Label → List Label
  stmt_labels s_pass n k = plain ∷ plain ∷ k
  stmt_labels s_return₀ n k = plain ∷ plain ∷ k
  stmt_labels (s_return d) n k = plain ∷ expr_labels d n (plain ∷ k)
  stmt_labels (s_line t d) n k = target_labels t n (expr_labels d n (plain ∷ k))
  stmt_labels (s_if w) n k = arm_labels w n k
  stmt_labels (s_else w l) n k = arm_labels w n (plain ∷ plain ∷ block_labels l n k)
  stmt_labels (s_while d l) n k = plain ∷ expr_labels d n (plain ∷ block_labels l n k)
  stmt_labels (s_for d l) n k = plain ∷ plain ∷ plain ∷ expr_labels d n (plain ∷ block_labels l n k)

  pub arm_labels : {aa : Arms} {ts us : List Token} → Ways aa ts us → ℕ → List Label → List Label
  arm_labels (w_if d l) n k = plain ∷ expr_labels d n (plain ∷ block_labels l n k)
  arm_labels (w_elif w d l) n k = arm_labels w n (plain ∷ expr_labels d n (plain ∷ block_labels l n k))

  -- the INDENT opens a level, to the DEDENT
  pub block_labels : {ss : Stmts} {ts us : List Token} → Block ss ts us → ℕ → List Label → List Label
  block_labels (block l) n k = plain ∷ opening n ∷ line_labels l (suc n) (plain ∷ k)

  pub line_labels : {ss : Stmts} {ts us : List Token} → Lines ss ts us → ℕ → List Label → List Label
  line_labels l_none n k = k
  line_labels (l_more l d) n k = line_labels l n (stmt_labels d n k)

abbrev pub type_labels : {a : Ann} {ts us : List Token} → Types a ts us → ℕ → List Label → List Label
type_labels y_name n k = plain ∷ k
type_labels y_text n k = plain ∷ k
type_labels (y_list d) n k = opening n ∷ type_labels d (suc n) (plain ∷ k)

abbrev pub param_labels : {ps : Params} {m : Id} {a : Ann} {ts us : List Token} → Takes ps m a ts us → ℕ → List Label → List Label
param_labels (p_one d) n k = plain ∷ plain ∷ type_labels d n k
param_labels (p_more t d) n k = param_labels t n (plain ∷ plain ∷ plain ∷ type_labels d n k)

abbrev pub sig_labels : {ps : Params} {ts us : List Token} → Sig ps ts us → ℕ → List Label → List Label
sig_labels g_none n k = plain ∷ k
sig_labels (g_some t) n k = param_labels t n (plain ∷ k)

-- a `def` where it stands
abbrev pub heading : Where → Label
heading in_program = plain
heading in_class = plain
heading in_function = nested

abbrev mutual
  pub decl_labels : {w : Where} {d : Decl} {ts us : List Token} → Declares w d ts us → ℕ → List Label → List Label
  decl_labels (d_var d) n k = plain ∷ plain ∷ type_labels d n (plain ∷ plain ∷ plain ∷ k)
  decl_labels (d_func {w = w} s d x l) n k =
      heading w ∷ plain ∷ opening n ∷ sig_labels s (suc n) (plain ∷ type_labels d n
      (plain ∷ plain ∷ opening n ∷ def_labels x (suc n) (line_labels l (suc n) (plain ∷ k))))
  decl_labels (d_class c x) n k =
      plain ∷ plain ∷ opening n ∷ plain ∷ plain ∷ plain ∷ plain ∷ opening n ∷ def_labels x (suc n) (plain ∷ k)
  decl_labels (d_global c) n k = plain ∷ plain ∷ plain ∷ k
  decl_labels (d_nonlocal c) n k = nested ∷ plain ∷ plain ∷ k

  pub def_labels : {w : Where} {ds : Decls} {ts us : List Token} → Defs w ds ts us → ℕ → List Label → List Label
  def_labels n_none n k = k
  def_labels (n_more x d) n k = def_labels x n (decl_labels d n k)

abbrev pub profile : {ds : Decls} {ss : Stmts} {ts : List Token} → Program ds ss ts → List Label
profile (whole x l) = def_labels x 0 (line_labels l 0 (plain ∷ []))
