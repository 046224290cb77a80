-- The grammar. `Reads p f e ts us`: the tokens ts begin at the place p with the expression e, of the form f, and us is the rest.
use Rattle.std.specs.Prelude.{ℕ, ◌≤◌, T, List, [], ◌∷◌}
use Rattle.grammar.specs.Tree.{Text, Op, Literal, Kind, Token, Id, Expr, Exprs, Ann, Params, Stmt, Stmts, Arms, Decl, Decls, Form, Where, rank, left, right, reach, tight, callable, target, program?}
use Rattle.grammar.specs.Tree.{function?, minus, not, neg, text, rparen, rbracket, comma, assign, colon, arrow, newline, indent, dedent, end, class, def, global, nonlocal, pass, return, if, elif, else}
use Rattle.grammar.specs.Tree.{while, for, within, name, lit, dot, lparen, lbracket, not_word, op, mark, at, id, var, con, bin, pre, mem, idx, call, list, nil, snoc, cls, quoted, list_of, no_params}
use Rattle.grammar.specs.Tree.{param, skip, ret₀, ret, assigns, choose, loop, each, empty, then, no_arms, arm, a_var, a_func, a_class, a_global, a_nonlocal, no_decls, decl, named, member, indexed}
use Rattle.grammar.specs.Tree.{closed, binary, prefix, in_program, in_class, in_function}

mutual
  pub data Reads : ℕ → Form → Expr → List Token → List Token → Type 0 where
    r_name : {n : Text} {p : ℕ} {ts : List Token} → Reads p (named n) (var p n) (at (name n) p ∷ ts) ts
    r_lit : {l : Literal} {p : ℕ} {ts : List Token} → Reads p closed (con p l) (at (lit l) p ∷ ts) ts
    r_paren : {f : Form} {e : Expr} {p q i : ℕ} {ts us : List Token}
        → Reads i f e ts (at (mark rparen) q ∷ us) → Reads p closed e (at lparen p ∷ ts) us
    r_list₀ : {p q : ℕ} {ts : List Token} → Reads p closed (list p nil) (at lbracket p ∷ at (mark rbracket) q ∷ ts) ts
    r_list : {f : Form} {es : Exprs} {e : Expr} {p q i : ℕ} {ts us : List Token}
        → Items es i f e ts (at (mark rbracket) q ∷ us) → Reads p closed (list p (snoc es e)) (at lbracket p ∷ ts) us
    r_member : {f : Form} {e : Expr} {n : Text} {p q i : ℕ} {ts us : List Token}
        → Reads p f e ts (at dot q ∷ at (name n) i ∷ us) → 8 ≤ tight f → Reads p member (mem p e n) ts us
    r_index : {f g : Form} {a b : Expr} {p q i j : ℕ} {ts us vs : List Token}
        → Reads p f a ts (at lbracket q ∷ us) → 8 ≤ tight f → Reads i g b us (at (mark rbracket) j ∷ vs)
        → Reads p indexed (idx p a b) ts vs
    r_call₀ : {f : Form} {a : Expr} {p q i : ℕ} {ts us : List Token}
        → Reads p f a ts (at lparen q ∷ at (mark rparen) i ∷ us) → T (callable f) → Reads p closed (call p a nil) ts us
    r_call : {f g : Form} {a e : Expr} {es : Exprs} {p q i j : ℕ} {ts us vs : List Token}
        → Reads p f a ts (at lparen q ∷ us) → T (callable f) → Items es i g e us (at (mark rparen) j ∷ vs)
        → Reads p closed (call p a (snoc es e)) ts vs
    r_binary : {f g : Form} {o : Op} {a b : Expr} {p q i : ℕ} {ts us vs : List Token}
        → Reads p f a ts (at (op o) q ∷ us) → left (rank o) ≤ tight f → Reads i g b us vs → right (rank o) ≤ tight g
        → Reads p (binary (rank o)) (bin p o a b) ts vs
    r_not : {f : Form} {e : Expr} {p i : ℕ} {ts us : List Token}
        → Reads i f e ts us → reach not ≤ tight f → Reads p (prefix not) (pre p not e) (at not_word p ∷ ts) us
    r_neg : {f : Form} {e : Expr} {p i : ℕ} {ts us : List Token}
        → Reads i f e ts us → reach neg ≤ tight f → Reads p (prefix neg) (pre p neg e) (at (op minus) p ∷ ts) us

  -- one expression and more, with commas between: all but the last, and the last with its place and form
  pub data Items : Exprs → ℕ → Form → Expr → List Token → List Token → Type 0 where
    i_one : {f : Form} {e : Expr} {i : ℕ} {ts us : List Token} → Reads i f e ts us → Items nil i f e ts us
    i_more : {f g : Form} {es : Exprs} {d e : Expr} {p i j : ℕ} {ts us vs : List Token}
        → Items es i f d ts (at (mark comma) p ∷ us) → Reads j g e us vs → Items (snoc es d) j g e ts vs

-- targets, each with its `=`
pub data Targets : Exprs → List Token → List Token → Type 0 where
  t_none : {ts : List Token} → Targets nil ts ts
  t_more : {f : Form} {es : Exprs} {e : Expr} {p i : ℕ} {ts us vs : List Token}
      → Targets es ts us → Reads i f e us (at (mark assign) p ∷ vs) → T (target f) → Targets (snoc es e) ts vs

mutual
  pub data Says : Stmt → List Token → List Token → Type 0 where
    s_pass : {p q : ℕ} {ts : List Token} → Says (skip p) (at (mark pass) p ∷ at (mark newline) q ∷ ts) ts
    s_return₀ : {p q : ℕ} {ts : List Token} → Says (ret₀ p) (at (mark return) p ∷ at (mark newline) q ∷ ts) ts
    s_return : {f : Form} {e : Expr} {p q i : ℕ} {ts us : List Token}
        → Reads i f e ts (at (mark newline) q ∷ us) → Says (ret p e) (at (mark return) p ∷ ts) us
    s_line : {k : Kind} {f : Form} {es : Exprs} {e : Expr} {p q i : ℕ} {ts us vs : List Token}
        → Targets es (at k p ∷ ts) us → Reads i f e us (at (mark newline) q ∷ vs) → Says (assigns p es e) (at k p ∷ ts) vs
    s_if : {aa : Arms} {ts us : List Token} → Ways aa ts us → Says (choose aa empty) ts us
    s_else : {aa : Arms} {ss : Stmts} {p q : ℕ} {ts us vs : List Token}
        → Ways aa ts (at (mark else) p ∷ at (mark colon) q ∷ us) → Block ss us vs → Says (choose aa ss) ts vs
    s_while : {f : Form} {e : Expr} {ss : Stmts} {p i j : ℕ} {ts us vs : List Token}
        → Reads i f e ts (at (mark colon) j ∷ us) → Block ss us vs → Says (loop p e ss) (at (mark while) p ∷ ts) vs
    s_for : {f : Form} {e : Expr} {ss : Stmts} {n : Text} {p i j k l : ℕ} {ts us vs : List Token}
        → Reads i f e ts (at (mark colon) j ∷ us) → Block ss us vs
        → Says (each p n e ss) (at (mark for) p ∷ at (name n) k ∷ at (mark within) l ∷ ts) vs

  -- `if` with its block, and more with `elif`
  pub data Ways : Arms → List Token → List Token → Type 0 where
    w_if : {f : Form} {e : Expr} {ss : Stmts} {p i j : ℕ} {ts us vs : List Token}
        → Reads i f e ts (at (mark colon) j ∷ us) → Block ss us vs → Ways (arm no_arms p e ss) (at (mark if) p ∷ ts) vs
    w_elif : {aa : Arms} {f : Form} {e : Expr} {ss : Stmts} {p i j : ℕ} {ts us vs ws : List Token}
        → Ways aa ts (at (mark elif) p ∷ us) → Reads i f e us (at (mark colon) j ∷ vs) → Block ss vs ws → Ways (arm aa p e ss) ts ws

  pub data Block : Stmts → List Token → List Token → Type 0 where
    block : {ss : Stmts} {s : Stmt} {i j k : ℕ} {ts us : List Token}
        → Lines (then ss s) ts (at (mark dedent) k ∷ us) → Block (then ss s) (at (mark newline) i ∷ at (mark indent) j ∷ ts) us

  -- any number of statements
  pub data Lines : Stmts → List Token → List Token → Type 0 where
    l_none : {ts : List Token} → Lines empty ts ts
    l_more : {ss : Stmts} {s : Stmt} {ts us vs : List Token} → Lines ss ts us → Says s us vs → Lines (then ss s) ts vs

pub data Types : Ann → List Token → List Token → Type 0 where
  y_name : {n : Text} {p : ℕ} {ts : List Token} → Types (cls p n) (at (name n) p ∷ ts) ts
  y_text : {n : Text} {p : ℕ} {ts : List Token} → Types (quoted p n) (at (lit (text n)) p ∷ ts) ts
  y_list : {a : Ann} {p q : ℕ} {ts us : List Token} → Types a ts (at (mark rbracket) q ∷ us) → Types (list_of p a) (at lbracket p ∷ ts) us

-- one parameter and more: all but the last, and the last
pub data Takes : Params → Id → Ann → List Token → List Token → Type 0 where
  p_one : {a : Ann} {n : Text} {p q : ℕ} {ts us : List Token} → Types a ts us → Takes no_params (id p n) a (at (name n) p ∷ at (mark colon) q ∷ ts) us
  p_more : {ps : Params} {a b : Ann} {n : Id} {m : Text} {q i j : ℕ} {ts us vs : List Token}
      → Takes ps n a ts (at (mark comma) i ∷ at (name m) q ∷ at (mark colon) j ∷ us) → Types b us vs → Takes (param ps n a) (id q m) b ts vs

-- what stands after the `(` of a `def`, with the `)`
pub data Sig : Params → List Token → List Token → Type 0 where
  g_none : {q : ℕ} {ts : List Token} → Sig no_params (at (mark rparen) q ∷ ts) ts
  g_some : {ps : Params} {a : Ann} {n : Id} {q : ℕ} {ts us : List Token} → Takes ps n a ts (at (mark rparen) q ∷ us) → Sig (param ps n a) ts us

mutual
  pub data Declares : Where → Decl → List Token → List Token → Type 0 where
    d_var : {w : Where} {a : Ann} {l : Literal} {n : Text} {p q i j k : ℕ} {ts us : List Token}
        → Types a ts (at (mark assign) i ∷ at (lit l) q ∷ at (mark newline) j ∷ us)
        → Declares w (a_var (id p n) a q l) (at (name n) p ∷ at (mark colon) k ∷ ts) us
    d_func : {w : Where} {ps : Params} {a : Ann} {ds : Decls} {ss : Stmts} {s : Stmt} {n : Text} {p q r i j k l m : ℕ} {ts us vs ws xs : List Token}
        → Sig ps ts (at (mark arrow) i ∷ us)
        → Types a us (at (mark colon) j ∷ at (mark newline) k ∷ at (mark indent) l ∷ vs)
        → Defs in_function ds vs ws → Lines (then ss s) ws (at (mark dedent) m ∷ xs)
        → Declares w (a_func p (id q n) ps a ds (then ss s)) (at (mark def) p ∷ at (name n) q ∷ at lparen r ∷ ts) xs
    d_class : {w : Where} {ds : Decls} {n m : Text} {p q r i j k l h t : ℕ} {ts us : List Token}
        → T (program? w) → Defs in_class ds ts (at (mark dedent) t ∷ us)
        → Declares w (a_class p (id r n) (id q m) ds)
        (at (mark class) p ∷ at (name n) r ∷ at lparen i ∷ at (name m) q ∷ at (mark rparen) j ∷ at (mark colon) k ∷ at (mark newline) l ∷ at (mark indent) h ∷ ts) us
    d_global : {w : Where} {n : Text} {p q i : ℕ} {ts : List Token} → T (function? w)
        → Declares w (a_global p (id q n)) (at (mark global) p ∷ at (name n) q ∷ at (mark newline) i ∷ ts) ts
    d_nonlocal : {w : Where} {n : Text} {p q i : ℕ} {ts : List Token} → T (function? w)
        → Declares w (a_nonlocal p (id q n)) (at (mark nonlocal) p ∷ at (name n) q ∷ at (mark newline) i ∷ ts) ts

  pub data Defs : Where → Decls → List Token → List Token → Type 0 where
    n_none : {w : Where} {ts : List Token} → Defs w no_decls ts ts
    n_more : {w : Where} {ds : Decls} {d : Decl} {ts us vs : List Token} → Defs w ds ts us → Declares w d us vs → Defs w (decl ds d) ts vs

pub data Program : Decls → Stmts → List Token → Type 0 where
  whole : {ds : Decls} {ss : Stmts} {s : Stmt} {p : ℕ} {ts us : List Token}
      → Defs in_program ds ts us → Lines (then ss s) us (at (mark end) p ∷ []) → Program ds (then ss s) ts
