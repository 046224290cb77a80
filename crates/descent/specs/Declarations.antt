-- Types, parameters, definitions, functions, classes and the program, by functions that call each other.
use Rattle.std.specs.Prelude.{List, [], ◌∷◌, ◌≡◌, ℕ, suc, zero}
use Rattle.grammar.specs.Tree.{Literal, Token, Id, Ann, Params, Stmt, Stmts, Decl, Decls, Form, target}
use Rattle.grammar.specs.Tree.{text, rparen, rbracket, comma, assign, colon, arrow, newline, dedent, end, class, def, global, nonlocal}
use Rattle.grammar.specs.Tree.{name, lit, dot, lparen, lbracket, not_word, op, mark, wrong, at, id, nil, snoc, cls, quoted, list_of, no_params, param, assigns, empty, then, a_var, a_func, a_class, a_global, no_decls, decl}
use Rattle.grammar.specs.Tree.{lit_none, lit_true, lit_false, int, named, member, indexed, closed, binary, prefix}
use Rattle.grammar.specs.Reader.{Frame, inside, base, of_var}
use Rattle.grammar.specs.Reader.{typing, start}
use Rattle.grammar.specs.Limits.{nests, Reading, limited}
use Rattle.descent.specs.Answers.{Answer, ok, bar, over, cut, tired, bind, refuse, fits, may, need, need_name, need_lit, need_paren, need_indent, may_when}
use Rattle.descent.specs.Expressions.{tree, form, begun_at, expr}
use Rattle.descent.specs.Statements.{next_place, on_some, chain, command, lines}

abbrev pub quote_of : Literal → ℕ → List Token → Answer Ann
quote_of lit_none p ts = bar (at (lit lit_none) p) ts
quote_of lit_true p ts = bar (at (lit lit_true) p) ts
quote_of lit_false p ts = bar (at (lit lit_false) p) ts
quote_of (int n) p ts = bar (at (lit (int n)) p) ts
quote_of (text n) p ts = ok (quoted p n) ts

-- a type
abbrev pub ann : ℕ → ℕ → ℕ → List Token → Answer Ann
ann lim zero d ts = tired
ann lim (suc n) d [] = cut
ann lim (suc n) d (at (name m) p ∷ ts) = ok (cls p m) ts
ann lim (suc n) d (at (lit l) p ∷ ts) = quote_of l p ts
ann lim (suc n) d (at dot p ∷ ts) = bar (at dot p) ts
ann lim (suc n) d (at lparen p ∷ ts) = bar (at lparen p) ts
ann lim (suc n) d (at lbracket p ∷ ts) = fits lim d (at lbracket p) ts (bind (ann lim n (suc d) ts) (λ a us. need rbracket us (λ q vs. ok (list_of p a) vs)))
ann lim (suc n) d (at not_word p ∷ ts) = bar (at not_word p) ts
ann lim (suc n) d (at (op o) p ∷ ts) = bar (at (op o) p) ts
ann lim (suc n) d (at (mark k) p ∷ ts) = bar (at (mark k) p) ts
ann lim (suc n) d (at (wrong k) p ∷ ts) = bar (at (wrong k) p) ts

-- after a parameter's name, up to the `)`: ps are the parameters before it
abbrev pub parameter : ℕ → ℕ → ℕ → Params → Id → List Token → Answer Params
parameter lim zero d ps m ts = tired
parameter lim (suc n) d ps m ts =
    need colon ts (λ q us. bind (ann lim n d us)
    (λ a vs. may comma vs (λ r ws. need_name ws (λ i x xs. parameter lim n d (param ps m a) (id i x) xs)) (need rparen vs (λ r ws. ok (param ps m a) ws))))

-- after the `(` of a function, up to its `)`
abbrev pub parameters : ℕ → ℕ → ℕ → List Token → Answer Params
parameters lim n d ts = may rparen ts (λ q us. ok no_params us) (need_name ts (λ q m us. parameter lim n d no_params (id q m) us))

-- after the colon of a definition
abbrev pub variable : ℕ → ℕ → ℕ → Id → List Token → Answer Decl
variable lim n d v ts =
    bind (ann lim n d ts) (λ a us. need assign us (λ q vs. need_lit vs (λ r l ws. need newline ws (λ i xs. ok (a_var v a r l) xs))))

-- what a line turns out to be, where both are allowed
pub data Lead : Type 0 where
  says : Stmt → Lead
  -- the name that is defined; its colon is read
  defines : Id → Lead

abbrev pub on_lead : {B : Type 0} → Lead → (Stmt → B) → (Id → B) → B
on_lead (says s) f g = f s
on_lead (defines v) f g = g v

-- a colon after a bare name
abbrev pub definition : Form → ℕ → List Token → Answer Lead
definition (named m) p ts = need colon ts (λ q us. ok (defines (id p m)) us)
definition member p ts = refuse ts
definition indexed p ts = refuse ts
definition closed p ts = refuse ts
definition (binary r) p ts = refuse ts
definition (prefix u) p ts = refuse ts

-- a line that begins with no mark
abbrev pub headline : ℕ → ℕ → ℕ → ℕ → List Token → Answer Lead
headline lim n d i ts =
    bind (expr lim n 0 d ts)
    (λ x us. may newline us (λ q vs. ok (says (assigns i nil (tree x))) vs)
    (may_when (target (form x)) assign us (λ q vs. bind (chain lim n d i (snoc nil (tree x)) vs) (λ s ws. ok (says s) ws))
    (definition (form x) (begun_at x) us)))

abbrev pub lead : ℕ → ℕ → ℕ → List Token → Answer Lead
lead lim n d ts = bind (command lim n d ts) (λ x us. on_some x (λ s. ok (says s) us) (headline lim n d (next_place us) us))

-- the declarations and the statements of a body
pub data Parts : Type 0 where
  parts : Decls → Stmts → Parts

abbrev pub decls_of : Parts → Decls
decls_of (parts ds ss) = ds

abbrev pub stmts_of : Parts → Stmts
stmts_of (parts ds ss) = ss

-- the body of a function, to its DEDENT: ds are the declarations so far
abbrev pub func_body : ℕ → ℕ → ℕ → Decls → List Token → Answer Parts
func_body lim zero d ds ts = tired
func_body lim (suc n) d ds ts =
    may def ts (λ p us. over nests (at (mark def) p) us)
    (may nonlocal ts (λ p us. over nests (at (mark nonlocal) p) us)
    (may global ts (λ p us. need_name us (λ q m vs. need newline vs (λ i ws. func_body lim n d (decl ds (a_global p (id q m))) ws)))
    (bind (lead lim n d ts)
    (λ x us. on_lead x
    (λ s. bind (lines lim n d dedent (then empty s) us) (λ ss vs. ok (parts ds ss) vs))
    (λ v. bind (variable lim n d v us) (λ c vs. func_body lim n d (decl ds c) vs))))))

-- after `def`, which stands at p
abbrev pub func : ℕ → ℕ → ℕ → ℕ → List Token → Answer Decl
func lim n d p ts =
    need_name ts (λ q m us. need_paren lim d us (λ vs. bind (parameters lim n (suc d) vs) (λ ps ws. need arrow ws (λ i xs. bind (ann lim n d xs)
    (λ a ys. need colon ys (λ j zs. need newline zs (λ k rs. need_indent lim d rs (λ bs. bind (func_body lim n (suc d) no_decls bs)
    (λ b cs. ok (a_func p (id q m) ps a (decls_of b) (stmts_of b)) cs)))))))))

-- the members of a class, to its DEDENT
abbrev pub class_body : ℕ → ℕ → ℕ → Decls → List Token → Answer Decls
class_body lim zero d ds ts = tired
class_body lim (suc n) d ds ts =
    may def ts (λ p us. bind (func lim n d p us) (λ c vs. class_body lim n d (decl ds c) vs))
    (may dedent ts (λ p us. ok ds us)
    (need_name ts (λ p m us. need colon us (λ q vs. bind (variable lim n d (id p m) vs) (λ c ws. class_body lim n d (decl ds c) ws)))))

-- after `class`, which stands at p
abbrev pub class_of : ℕ → ℕ → ℕ → ℕ → List Token → Answer Decl
class_of lim n d p ts =
    need_name ts (λ q m us. need_paren lim d us (λ vs. need_name vs (λ r s ws. need rparen ws (λ i xs. need colon xs (λ j ys. need newline ys
    (λ k zs. need_indent lim d zs (λ rs. bind (class_body lim n (suc d) no_decls rs) (λ ds bs. ok (a_class p (id q m) (id r s) ds) bs))))))))

abbrev pub program : ℕ → ℕ → Decls → List Token → Answer Parts
program lim zero ds ts = tired
program lim (suc n) ds ts =
    may def ts (λ p us. bind (func lim n 0 p us) (λ c vs. program lim n (decl ds c) vs))
    (may class ts (λ p us. bind (class_of lim n 0 p us) (λ c vs. program lim n (decl ds c) vs))
    (bind (lead lim n 0 ts)
    (λ x us. on_lead x
    (λ s. bind (lines lim n 0 end (then empty s) us) (λ ss vs. ok (parts ds ss) vs))
    (λ v. bind (variable lim n 0 v us) (λ c vs. program lim n (decl ds c) vs)))))

-- the line is read, or its name and colon
abbrev pub LeadTo : ℕ → Frame → Lead → List Token → Reading → Type 0
LeadTo lim fr (says s) us o = o ≡ limited lim us (start (base fr (then empty s)))
LeadTo lim fr (defines v) us o = o ≡ limited lim us (typing (of_var v (inside fr)))
