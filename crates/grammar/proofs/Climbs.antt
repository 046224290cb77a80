-- Levels are opened one at a time: the first that is over a limit opens where just that many are open.
use Rattle.std.proofs.Common.{ℕ, suc, ◌<◌, ◌≤◌, List, [], ◌∷◌, ◌++◌, zero-le}
use Rattle.grammar.specs.Tree.{Token, Id, Expr, Exprs, Ann, Params, Stmt, Stmts, Arms, Decl, Decls, Form, Where, in_program, in_class, in_function}
use Rattle.grammar.specs.Grammar.{Reads, Items, Targets, Says, Ways, Block, Lines, Types, Takes, Sig, Declares, Defs, Program, r_name, r_lit, r_paren, r_list₀, r_list, r_member, r_index, r_call₀, r_call}
use Rattle.grammar.specs.Grammar.{r_binary, r_not, r_neg, i_one, i_more, t_none, t_more, s_pass, s_return₀, s_return, s_line, s_if, s_else, s_while, s_for, w_if, w_elif, block, l_none, l_more, y_name}
use Rattle.grammar.specs.Grammar.{y_text, y_list, p_one, p_more, g_none, g_some, d_var, d_func, d_class, d_global, d_nonlocal, n_none, n_more, whole}
use Rattle.grammar.specs.Profile.{Label, plain, opening, nested, expr_labels, item_labels, target_labels, stmt_labels, arm_labels, block_labels, line_labels, type_labels, param_labels, sig_labels, heading}
use Rattle.grammar.specs.Profile.{decl_labels, def_labels, profile}
use Rattle.grammar.specs.Exactly.{Within}

module _ (lim : ℕ) where
  -- up to the first level that is opened with lim or more open, no more than lim are open
  abbrev pub Climbs : List Label → Type 0
  Climbs [] = Unit {0}
  Climbs (plain ∷ ls) = Climbs ls
  Climbs (opening n ∷ ls) = (n ≤ lim) × (n < lim → Climbs ls)
  Climbs (nested ∷ ls) = Climbs ls

  -- labels that may come before any that climb
  abbrev Before : ℕ → (ℕ → List Label → List Label) → Type 0
  Before n f = n ≤ lim → (k : List Label) → Climbs k → Climbs (f n k)

  mutual
    expr_climbs : {i : ℕ} {f : Form} {e : Expr} {ts us : List Token} → (d : Reads i f e ts us) → (n : ℕ) → Before n (expr_labels d)
    expr_climbs r_name n l k c = c
    expr_climbs r_lit n l k c = c
    expr_climbs (r_paren d) n l k c = (l, λ m. expr_climbs d (suc n) m (plain ∷ k) c)
    expr_climbs r_list₀ n l k c = (l, λ m. c)
    expr_climbs (r_list d) n l k c = (l, λ m. item_climbs d (suc n) m (plain ∷ k) c)
    expr_climbs (r_member d t) n l k c = expr_climbs d n l (plain ∷ plain ∷ k) c
    expr_climbs (r_index d t e) n l k c = expr_climbs d n l (opening n ∷ expr_labels e (suc n) (plain ∷ k)) (l, λ m. expr_climbs e (suc n) m (plain ∷ k) c)
    expr_climbs (r_call₀ d t) n l k c = expr_climbs d n l (opening n ∷ plain ∷ k) (l, λ m. c)
    expr_climbs (r_call d t i) n l k c = expr_climbs d n l (opening n ∷ item_labels i (suc n) (plain ∷ k)) (l, λ m. item_climbs i (suc n) m (plain ∷ k) c)
    expr_climbs (r_binary d t e r) n l k c = expr_climbs d n l (plain ∷ expr_labels e n k) (expr_climbs e n l k c)
    expr_climbs (r_not d t) n l k c = (l, λ m. expr_climbs d (suc n) m k c)
    expr_climbs (r_neg d t) n l k c = (l, λ m. expr_climbs d (suc n) m k c)

    item_climbs : {es : Exprs} {i : ℕ} {f : Form} {e : Expr} {ts us : List Token} → (d : Items es i f e ts us) → (n : ℕ) → Before n (item_labels d)
    item_climbs (i_one d) n l k c = expr_climbs d n l k c
    item_climbs (i_more i d) n l k c = item_climbs i n l (plain ∷ expr_labels d n k) (expr_climbs d n l k c)

  target_climbs : {es : Exprs} {ts us : List Token} → (d : Targets es ts us) → (n : ℕ) → Before n (target_labels d)
  target_climbs t_none n l k c = c
  target_climbs (t_more t d x) n l k c = target_climbs t n l (expr_labels d n (plain ∷ k)) (expr_climbs d n l (plain ∷ k) c)

  mutual
    stmt_climbs : {s : Stmt} {ts us : List Token} → (d : Says s ts us) → (n : ℕ) → Before n (stmt_labels d)
    stmt_climbs s_pass n l k c = c
    stmt_climbs s_return₀ n l k c = c
    stmt_climbs (s_return d) n l k c = expr_climbs d n l (plain ∷ k) c
    stmt_climbs (s_line t d) n l k c = target_climbs t n l (expr_labels d n (plain ∷ k)) (expr_climbs d n l (plain ∷ k) c)
    stmt_climbs (s_if w) n l k c = arm_climbs w n l k c
    stmt_climbs (s_else w b) n l k c = arm_climbs w n l (plain ∷ plain ∷ block_labels b n k) (block_climbs b n l k c)
    stmt_climbs (s_while d b) n l k c = expr_climbs d n l (plain ∷ block_labels b n k) (block_climbs b n l k c)
    stmt_climbs (s_for d b) n l k c = expr_climbs d n l (plain ∷ block_labels b n k) (block_climbs b n l k c)

    arm_climbs : {aa : Arms} {ts us : List Token} → (d : Ways aa ts us) → (n : ℕ) → Before n (arm_labels d)
    arm_climbs (w_if d b) n l k c = expr_climbs d n l (plain ∷ block_labels b n k) (block_climbs b n l k c)
    arm_climbs (w_elif w d b) n l k c =
        arm_climbs w n l (plain ∷ expr_labels d n (plain ∷ block_labels b n k)) (expr_climbs d n l (plain ∷ block_labels b n k) (block_climbs b n l k c))

    block_climbs : {ss : Stmts} {ts us : List Token} → (d : Block ss ts us) → (n : ℕ) → Before n (block_labels d)
    block_climbs (block b) n l k c = (l, λ m. line_climbs b (suc n) m (plain ∷ k) c)

    line_climbs : {ss : Stmts} {ts us : List Token} → (d : Lines ss ts us) → (n : ℕ) → Before n (line_labels d)
    line_climbs l_none n l k c = c
    line_climbs (l_more b d) n l k c = line_climbs b n l (stmt_labels d n k) (stmt_climbs d n l k c)

  type_climbs : {a : Ann} {ts us : List Token} → (d : Types a ts us) → (n : ℕ) → Before n (type_labels d)
  type_climbs y_name n l k c = c
  type_climbs y_text n l k c = c
  type_climbs (y_list d) n l k c = (l, λ m. type_climbs d (suc n) m (plain ∷ k) c)

  param_climbs : {ps : Params} {m : Id} {a : Ann} {ts us : List Token} → (d : Takes ps m a ts us) → (n : ℕ) → Before n (param_labels d)
  param_climbs (p_one d) n l k c = type_climbs d n l k c
  param_climbs (p_more t d) n l k c = param_climbs t n l (plain ∷ plain ∷ plain ∷ type_labels d n k) (type_climbs d n l k c)

  sig_climbs : {ps : Params} {ts us : List Token} → (d : Sig ps ts us) → (n : ℕ) → Before n (sig_labels d)
  sig_climbs g_none n l k c = c
  sig_climbs (g_some t) n l k c = param_climbs t n l (plain ∷ k) c

  headed : (w : Where) (k : List Label) → Climbs k → Climbs (heading w ∷ k)
  headed in_program k c = c
  headed in_class k c = c
  headed in_function k c = c

  mutual
    decl_climbs : {w : Where} {d : Decl} {ts us : List Token} → (x : Declares w d ts us) → (n : ℕ) → Before n (decl_labels x)
    decl_climbs (d_var d) n l k c = type_climbs d n l (plain ∷ plain ∷ plain ∷ k) c
    decl_climbs (d_func {w = w} s d x b) n l k c =
        let body : List Label = plain ∷ plain ∷ opening n ∷ def_labels x (suc n) (line_labels b (suc n) (plain ∷ k)) in
        let rest : List Label = plain ∷ type_labels d n body in
        headed w (plain ∷ opening n ∷ sig_labels s (suc n) rest) (
          l,
          λ m. sig_climbs s (suc n) m rest (type_climbs d n l body
              (l, λ m. def_climbs x (suc n) m (line_labels b (suc n) (plain ∷ k)) (line_climbs b (suc n) m (plain ∷ k) c))),
        )
    decl_climbs (d_class t x) n l k c = (l, λ m. (l, λ m. def_climbs x (suc n) m (plain ∷ k) c))
    decl_climbs (d_global t) n l k c = c
    decl_climbs (d_nonlocal t) n l k c = c

    def_climbs : {w : Where} {ds : Decls} {ts us : List Token} → (x : Defs w ds ts us) → (n : ℕ) → Before n (def_labels x)
    def_climbs n_none n l k c = c
    def_climbs (n_more x d) n l k c = def_climbs x n l (decl_labels d n k) (decl_climbs d n l k c)

  pub climbs : {ds : Decls} {ss : Stmts} {ts : List Token} → (d : Program ds ss ts) → Climbs (profile d)
  climbs (whole x l) = def_climbs x 0 zero-le (line_labels l 0 (plain ∷ [])) (line_climbs l 0 zero-le (plain ∷ []) tt)

  -- after labels within the limit
  pub no_higher : (ls : List Label) (n : ℕ) (k : List Label) → Climbs (ls ++ (opening n ∷ k)) → Within lim ls → n ≤ lim
  no_higher [] n k c w = c.0
  no_higher (plain ∷ ls) n k c w = no_higher ls n k c w.1
  no_higher (opening m ∷ ls) n k c w = no_higher ls n k (c.1 w.0) w.1
  no_higher (nested ∷ ls) n k c w = absurd w.0
