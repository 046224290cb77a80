-- A few token lists, read by computing: each name is one letter's number, and a token's place is its number.
use mathlib.Core.List.{[], ◌∷◌}
use mathlib.Core.Path.{◌≡◌, refl}
use Rattle.grammar.specs.Tree.{rparen, assign, colon, arrow, newline, indent, dedent, end, class, def, pass, if, else}
use Rattle.grammar.specs.Tree.{name, lit, lparen, op, mark, at, id, var, bin, nil, snoc, cls, skip, assigns, choose, empty, then, no_arms, arm, a_var, a_class, no_decls, decl}
use Rattle.grammar.specs.Tree.{int}
use Rattle.grammar.specs.Tree.{plus, times, lt}
use Rattle.grammar.specs.Limits.{levels, nests, complete, barred, beyond, unfinished}
use Rattle.descent.specs.Calls.{calls_for}
use Rattle.descent.specs.Theorems.{whole}

-- x = (a) + b * c
sums : whole 64
    (at (name (1 ∷ [])) 0 ∷ at (mark assign) 1 ∷ at lparen 2 ∷ at (name (2 ∷ [])) 3 ∷ at (mark rparen) 4 ∷ at (op plus) 5 ∷ at (name (3 ∷ [])) 6 ∷ at (op times) 7
    ∷ at (name (4 ∷ [])) 8 ∷ at (mark newline) 9 ∷ at (mark end) 10 ∷ [])
    ≡ complete no_decls (then empty (assigns 0 (snoc nil (var 0 (1 ∷ []))) (bin 2 plus (var 3 (2 ∷ [])) (bin 6 times (var 6 (3 ∷ [])) (var 8 (4 ∷ []))))))
unfolding calls_for
sums = refl

-- a < b < c is refused at the second <
compared : whole 64 (at (name (1 ∷ [])) 0 ∷ at (op lt) 1 ∷ at (name (2 ∷ [])) 2 ∷ at (op lt) 3 ∷ at (name (3 ∷ [])) 4 ∷ []) ≡ barred (at (op lt) 3) (at (name (3 ∷ [])) 4 ∷ [])
unfolding calls_for
compared = refl

-- ((a: one level is allowed, so the second ( is over the limit
deep : whole 1 (at lparen 0 ∷ at lparen 1 ∷ at (name (1 ∷ [])) 2 ∷ []) ≡ beyond levels (at lparen 1) (at (name (1 ∷ [])) 2 ∷ [])
unfolding calls_for
deep = refl

-- a token that no program has there is refused for that, over the limit or not: 1 (
called : whole 0 (at (lit (int 1)) 0 ∷ at lparen 1 ∷ []) ≡ barred (at lparen 1) []
unfolding calls_for
called = refl

-- x : int = 1, and then a statement must come
defined : whole 64 (at (name (1 ∷ [])) 0 ∷ at (mark colon) 1 ∷ at (name (9 ∷ [])) 2 ∷ at (mark assign) 3 ∷ at (lit (int 1)) 4 ∷ at (mark newline) 5 ∷ []) ≡ unfinished
unfolding calls_for
defined = refl

-- if a: pass / else: pass
chosen : whole 64
    (at (mark if) 0 ∷ at (name (1 ∷ [])) 1 ∷ at (mark colon) 2 ∷ at (mark newline) 3 ∷ at (mark indent) 4 ∷ at (mark pass) 5 ∷ at (mark newline) 6 ∷ at (mark dedent) 7
    ∷ at (mark else) 8 ∷ at (mark colon) 9 ∷ at (mark newline) 10 ∷ at (mark indent) 11 ∷ at (mark pass) 12 ∷ at (mark newline) 13 ∷ at (mark dedent) 14 ∷ at (mark end) 15 ∷ [])
    ≡ complete no_decls (then empty (choose (arm no_arms 0 (var 1 (1 ∷ [])) (then empty (skip 5))) (then empty (skip 12))))
unfolding calls_for
chosen = refl

-- a `def` in the body of a function is over the other limit
nested_def : whole 64
    (at (mark def) 0 ∷ at (name (1 ∷ [])) 1 ∷ at lparen 2 ∷ at (mark rparen) 3 ∷ at (mark arrow) 4 ∷ at (name (9 ∷ [])) 5 ∷ at (mark colon) 6 ∷ at (mark newline) 7
    ∷ at (mark indent) 8 ∷ at (mark def) 9 ∷ [])
    ≡ beyond nests (at (mark def) 9) []
unfolding calls_for
nested_def = refl

-- class c(o): x : int = 1 / pass
in_class_body : whole 64
    (at (mark class) 0 ∷ at (name (1 ∷ [])) 1 ∷ at lparen 2 ∷ at (name (2 ∷ [])) 3 ∷ at (mark rparen) 4 ∷ at (mark colon) 5 ∷ at (mark newline) 6 ∷ at (mark indent) 7
    ∷ at (name (3 ∷ [])) 8 ∷ at (mark colon) 9 ∷ at (name (9 ∷ [])) 10 ∷ at (mark assign) 11 ∷ at (lit (int 1)) 12 ∷ at (mark newline) 13 ∷ at (mark dedent) 14
    ∷ at (mark pass) 15 ∷ at (mark newline) 16 ∷ at (mark end) 17 ∷ [])
    ≡ complete (decl no_decls (a_class 0 (id 1 (1 ∷ [])) (id 3 (2 ∷ [])) (decl no_decls (a_var (id 8 (3 ∷ [])) (cls 10 (9 ∷ [])) 12 (int 1))))) (then empty (skip 15))
unfolding calls_for
in_class_body = refl
