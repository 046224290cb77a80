-- Where the first token stands that ends a text or that no rule takes.
use Rattle.std.proofs.Common.{◌≡◌, ℕ, Bool, true, false, T, List, [], ◌∷◌, ◌++◌, length, sym, refl, ap, ◌∙◌, subst, arith, length-append}
use mathlib.Core.List.{head-eq_of_cons-eq, tail-eq_of_cons-eq}
use Rattle.std.proofs.lemmas.List.{append-nil}
use Rattle.grammar.specs.Tree.{Token, Id, Expr, Exprs, Ann, Params, Stmt, Stmts, Arms, Decl, Decls, Form, Where, mark_discrete, end, unused, name, lit, dot, lparen, lbracket, not_word, op, mark, wrong}
use Rattle.grammar.specs.Tree.{at}
use Rattle.grammar.specs.Grammar.{Reads, Items, Targets, Says, Ways, Block, Lines, Types, Takes, Sig, Declares, Defs, Program, r_name, r_lit, r_paren, r_list₀, r_list, r_member, r_index, r_call₀, r_call}
use Rattle.grammar.specs.Grammar.{r_binary, r_not, r_neg, i_one, i_more, t_none, t_more, s_pass, s_return₀, s_return, s_line, s_if, s_else, s_while, s_for, w_if, w_elif, block, l_none, l_more, y_name}
use Rattle.grammar.specs.Grammar.{y_text, y_list, p_one, p_more, g_none, g_some, d_var, d_func, d_class, d_global, d_nonlocal, n_none, n_more, whole}
use Rattle.grammar.specs.Profile.{Label}
use Rattle.grammar.specs.Theorems.{Begins}
use Rattle.grammar.specs.Exactly.{Labelled, Within}
use Rattle.grammar.specs.Last.{holds, foreign, last, Foreign, Decided}
use Rattle.grammar.proofs.Steps.{append}
use Rattle.grammar.proofs.Limited.{unfinished_exactly}

abbrev from_here : Bool → List Token → List Token → List Token
from_here true ts us = ts
from_here false ts us = us

-- the tokens from the first of these on
abbrev past : List Token → List Token
past [] = []
past (t ∷ ts) = from_here (last t) (t ∷ ts) (past ts)

-- A phrase has none of them.
mutual
  expr_passed : {i : ℕ} {f : Form} {e : Expr} {ts us : List Token} → Reads i f e ts us → past ts ≡ past us
  expr_passed r_name = refl
  expr_passed r_lit = refl
  expr_passed (r_paren d) = expr_passed d
  expr_passed r_list₀ = refl
  expr_passed (r_list d) = items_passed d
  expr_passed (r_member d l) = expr_passed d
  expr_passed (r_index d l e) = expr_passed d ∙ expr_passed e
  expr_passed (r_call₀ d c) = expr_passed d
  expr_passed (r_call d c i) = expr_passed d ∙ items_passed i
  expr_passed (r_binary d l e r) = expr_passed d ∙ expr_passed e
  expr_passed (r_not d l) = expr_passed d
  expr_passed (r_neg d l) = expr_passed d

  items_passed : {es : Exprs} {i : ℕ} {f : Form} {e : Expr} {ts us : List Token} → Items es i f e ts us → past ts ≡ past us
  items_passed (i_one d) = expr_passed d
  items_passed (i_more i d) = items_passed i ∙ expr_passed d

targets_passed : {es : Exprs} {ts us : List Token} → Targets es ts us → past ts ≡ past us
targets_passed t_none = refl
targets_passed (t_more t d c) = targets_passed t ∙ expr_passed d

mutual
  stmt_passed : {s : Stmt} {ts us : List Token} → Says s ts us → past ts ≡ past us
  stmt_passed s_pass = refl
  stmt_passed s_return₀ = refl
  stmt_passed (s_return d) = expr_passed d
  stmt_passed (s_line t d) = targets_passed t ∙ expr_passed d
  stmt_passed (s_if w) = arms_passed w
  stmt_passed (s_else w l) = arms_passed w ∙ block_passed l
  stmt_passed (s_while d l) = expr_passed d ∙ block_passed l
  stmt_passed (s_for d l) = expr_passed d ∙ block_passed l

  arms_passed : {aa : Arms} {ts us : List Token} → Ways aa ts us → past ts ≡ past us
  arms_passed (w_if d l) = expr_passed d ∙ block_passed l
  arms_passed (w_elif w d l) = arms_passed w ∙ expr_passed d ∙ block_passed l

  block_passed : {ss : Stmts} {ts us : List Token} → Block ss ts us → past ts ≡ past us
  block_passed (block l) = lines_passed l

  lines_passed : {ss : Stmts} {ts us : List Token} → Lines ss ts us → past ts ≡ past us
  lines_passed l_none = refl
  lines_passed (l_more l d) = lines_passed l ∙ stmt_passed d

type_passed : {a : Ann} {ts us : List Token} → Types a ts us → past ts ≡ past us
type_passed y_name = refl
type_passed y_text = refl
type_passed (y_list d) = type_passed d

params_passed : {ps : Params} {m : Id} {a : Ann} {ts us : List Token} → Takes ps m a ts us → past ts ≡ past us
params_passed (p_one d) = type_passed d
params_passed (p_more t d) = params_passed t ∙ type_passed d

sig_passed : {ps : Params} {ts us : List Token} → Sig ps ts us → past ts ≡ past us
sig_passed g_none = refl
sig_passed (g_some t) = params_passed t

mutual
  decl_passed : {w : Where} {d : Decl} {ts us : List Token} → Declares w d ts us → past ts ≡ past us
  decl_passed (d_var d) = type_passed d
  decl_passed (d_func s d x l) = sig_passed s ∙ type_passed d ∙ defs_passed x ∙ lines_passed l
  decl_passed (d_class c x) = defs_passed x
  decl_passed (d_global c) = refl
  decl_passed (d_nonlocal c) = refl

  defs_passed : {w : Where} {ds : Decls} {ts us : List Token} → Defs w ds ts us → past ts ≡ past us
  defs_passed n_none = refl
  defs_passed (n_more x d) = defs_passed x ∙ decl_passed d

-- a program has one, at its end
program_passed : {ds : Decls} {ss : Stmts} {ts : List Token} → Program ds ss ts → (p : ℕ) × (past ts ≡ at (mark end) p ∷ [])
program_passed (whole {p = p} x l) = (p, defs_passed x ∙ lines_passed l)

no_room : (xs : List Token) (t : Token) (us : List Token) → xs ++ (t ∷ us) ≡ [] → ⊥
no_room xs t us e = omega (arith, ap length e, length-append xs (t ∷ us))

at_last : (t : Token) (us : List Token) (p : ℕ) (b : Bool) → T b → from_here b (t ∷ us) (past us) ≡ at (mark end) p ∷ [] → (t ≡ at (mark end) p) × (us ≡ [])
at_last t us p true l e = (head-eq_of_cons-eq e, tail-eq_of_cons-eq e)
at_last t us p false l e = absurd l

or_later : (x : Token) (xs : List Token) (t : Token) (us : List Token) (p : ℕ) (b : Bool)
    → from_here b (x ∷ (xs ++ (t ∷ us))) (past (xs ++ (t ∷ us))) ≡ at (mark end) p ∷ [] → past (xs ++ (t ∷ us)) ≡ at (mark end) p ∷ []
or_later x xs t us p true e = absurd (no_room xs t us (tail-eq_of_cons-eq e))
or_later x xs t us p false e = e

the_last : (xs : List Token) (t : Token) (us : List Token) (p : ℕ) → T (last t) → past (xs ++ (t ∷ us)) ≡ at (mark end) p ∷ [] → (t ≡ at (mark end) p) × (us ≡ [])
the_last [] t us p l e = at_last t us p (last t) l e
the_last (x ∷ xs) t us p l e = the_last xs t us p l (or_later x xs t us p (last x) e)

ends_there : (before : List Token) (t : Token) → T (last t) → (us : List Token) (ds : Decls) (ss : Stmts) → Program ds ss ((before ++ (t ∷ [])) ++ us)
    → (p : ℕ) × (t ≡ at (mark end) p) × (us ≡ [])
ends_there before t l us ds ss d =
    let q : (p : ℕ) × (past ((before ++ (t ∷ [])) ++ us) ≡ at (mark end) p ∷ []) = program_passed d in
    let r : (t ≡ at (mark end) q.0) × (us ≡ []) = the_last before t us q.0 l (ap past (sym (append before t us)) ∙ q.1) in
    (q.0, r.0, r.1)

held : {A : Type 0} (d : Dec A) (b : Bool) → T b → T (holds d b)
held (yes a) b t = tt
held (no a) b t = t

foreign_last : (t : Token) → T (foreign t) → T (last t)
foreign_last (at (name x) p) f = f
foreign_last (at (lit x) p) f = f
foreign_last (at dot p) f = f
foreign_last (at lparen p) f = f
foreign_last (at lbracket p) f = f
foreign_last (at not_word p) f = f
foreign_last (at (op o) p) f = f
foreign_last (at (mark m) p) f = held (mark_discrete end m) (holds (mark_discrete unused m) false) f
foreign_last (at (wrong k) p) f = tt

pub none_foreign : Foreign
none_foreign before t f b = subst (λ t. T (foreign t)) (ends_there before t (foreign_last t f) b.0 b.1 b.2 b.3).1 f

pub decided : Decided
decided lim before t l e =
    let ts : List Token = before ++ (t ∷ []) in
    let c : (ls : List Label) × Labelled ts ls × Within lim ls × ((ds : Decls) (ss : Stmts) → Program ds ss ts → ⊥) = (unfinished_exactly lim ts).0 e in
    let b : Begins ts = c.1.0 in
    c.3 b.1 b.2 (subst (Program b.1 b.2) (ap (λ us. ts ++ us) (ends_there before t l b.0 b.1 b.2 b.3).2 ∙ append-nil ts) b.3)
