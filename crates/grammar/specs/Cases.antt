-- Worked cases: lists of tokens and their verdicts. The place of a token is its number in the list.
use Rattle.std.specs.Prelude.{◌≡◌, ℕ, suc, List, [], ◌∷◌, ◌++◌, map, replicate}
use Rattle.grammar.specs.Tree.{Kind, Token, minus, rparen, rbracket, assign, colon, arrow, newline, indent, dedent, end, class, def, nonlocal, pass, unused, name, lit, lparen, lbracket, not_word, op}
use Rattle.grammar.specs.Tree.{mark, wrong, at, id, var, bin, nil, snoc, cls, no_params, skip, assigns, empty, then, a_var, a_func, a_class, no_decls, decl, int, and, lt, plus, times}
use Rattle.grammar.specs.Verdict.{Verdict, accepted, refused, reads}

abbrev pub placed : ℕ → List Kind → List Token
placed n [] = []
placed n (k ∷ ks) = at k n ∷ placed (suc n) ks

pub data Case : Type 0 where
  case : List Kind → Verdict → Case

abbrev pub found : Case → Verdict
found (case ks v) = reads (placed 0 ks)

abbrev pub told : Case → Verdict
told (case ks v) = v

abbrev pub Right : List Case → Type 0
Right cs = map found cs ≡ map told cs

-- names of one byte
abbrev pub a : Kind
a = name (97 ∷ [])

abbrev pub b : Kind
b = name (98 ∷ [])

abbrev pub c : Kind
c = name (99 ∷ [])

-- a line of these tokens, and the end of the text
abbrev pub one_line : List Kind → List Kind
one_line ks = ks ++ (mark newline ∷ mark end ∷ [])

-- the first line of `def a() -> b:` and its INDENT
abbrev pub def_line : List Kind
def_line = mark def ∷ a ∷ lparen ∷ mark rparen ∷ mark arrow ∷ b ∷ mark colon ∷ mark newline ∷ mark indent ∷ []

abbrev pub expressions : List Case
expressions =
    -- a = (b) + c * a: the sum begins at its parenthesis
    case (one_line (a ∷ mark assign ∷ lparen ∷ b ∷ mark rparen ∷ op plus ∷ c ∷ op times ∷ a ∷ []))
    (accepted no_decls (then empty (assigns 0 (snoc nil (var 0 (97 ∷ []))) (bin 2 plus (var 3 (98 ∷ [])) (bin 6 times (var 6 (99 ∷ [])) (var 8 (97 ∷ [])))))))
    -- (a + b): the line begins at its parenthesis, the sum within
    ∷ case (one_line (lparen ∷ a ∷ op plus ∷ b ∷ mark rparen ∷ []))
    (accepted no_decls (then empty (assigns 0 nil (bin 1 plus (var 1 (97 ∷ [])) (var 3 (98 ∷ []))))))
    -- a < b < c, (a)(b), a[b](c)
    ∷ case (one_line (a ∷ op lt ∷ b ∷ op lt ∷ c ∷ [])) (refused 6 3)
    ∷ case (one_line (lparen ∷ a ∷ mark rparen ∷ lparen ∷ b ∷ mark rparen ∷ [])) (refused 6 3)
    ∷ case (one_line (a ∷ lbracket ∷ b ∷ mark rbracket ∷ lparen ∷ c ∷ mark rparen ∷ [])) (refused 6 4)
    -- - not a, a * not b
    ∷ case (one_line (op minus ∷ not_word ∷ a ∷ [])) (refused 6 1)
    ∷ case (one_line (a ∷ op times ∷ not_word ∷ b ∷ [])) (refused 6 2)
    -- (a) = b, a + b = c
    ∷ case (one_line (lparen ∷ a ∷ mark rparen ∷ mark assign ∷ b ∷ [])) (refused 6 3)
    ∷ case (one_line (a ∷ op plus ∷ b ∷ mark assign ∷ c ∷ [])) (refused 6 3)
    -- a keyword without a use, and a string that is not closed
    ∷ case (one_line (mark unused ∷ a ∷ [])) (refused 6 0)
    ∷ case (a ∷ mark assign ∷ wrong 4 ∷ []) (refused 4 2)
    ∷ case (a ∷ a ∷ wrong 4 ∷ []) (refused 6 1)
    ∷ []

abbrev pub declarations : List Case
declarations =
    -- global variable, then no second one after a statement
    case (a ∷ mark colon ∷ b ∷ mark assign ∷ lit (int 1) ∷ mark newline ∷ mark pass ∷ mark newline ∷ mark end ∷ [])
    (accepted (decl no_decls (a_var (id 0 (97 ∷ [])) (cls 2 (98 ∷ [])) 4 (int 1))) (then empty (skip 6)))
    ∷ case (mark pass ∷ mark newline ∷ a ∷ mark colon ∷ b ∷ []) (refused 6 3)
    -- a program has a statement
    ∷ case (mark end ∷ []) (refused 6 0)
    ∷ case (def_line ++ (mark pass ∷ mark newline ∷ mark dedent ∷ mark end ∷ [])) (refused 6 12)
    -- a class with a method
    ∷ case (mark class ∷ c ∷ lparen ∷ b ∷ mark rparen ∷ mark colon ∷ mark newline ∷ mark indent ∷ (def_line
    ++ (mark pass ∷ mark newline ∷ mark dedent ∷ mark dedent ∷ mark pass ∷ mark newline ∷ mark end ∷ [])))
    (accepted (decl no_decls (a_class 0 (id 1 (99 ∷ [])) (id 3 (98 ∷ []))
    (decl no_decls (a_func 8 (id 9 (97 ∷ [])) no_params (cls 13 (98 ∷ [])) no_decls (then empty (skip 17)))))) (then empty (skip 21)))
    -- `def` and `nonlocal` within a function, before and after its first statement, and at the top
    ∷ case (def_line ++ def_line) (refused 8 9)
    ∷ case (def_line ++ (mark nonlocal ∷ a ∷ mark newline ∷ [])) (refused 8 9)
    ∷ case (def_line ++ (mark pass ∷ mark newline ∷ def_line)) (refused 6 11)
    ∷ case (mark nonlocal ∷ []) (refused 6 0)
    ∷ []

abbrev pub levels_of_nesting : List Case
levels_of_nesting =
    case (replicate 64 lparen ++ (wrong 2 ∷ [])) (refused 2 64)
    ∷ case (replicate 65 lparen) (refused 7 64)
    ∷ case (replicate 64 lbracket ++ (a ∷ lparen ∷ [])) (refused 7 65)
    ∷ case (replicate 64 (op minus) ++ (a ∷ lbracket ∷ [])) (refused 7 65)
    -- the levels of `not` end with its operand
    ∷ case (replicate 64 not_word ++ (a ∷ op and ∷ (replicate 64 not_word ++ (a ∷ lparen ∷ [])))) (refused 7 131)
    -- the body of a function is a level, its list of parameters is closed by then
    ∷ case (def_line ++ (replicate 63 lparen ++ (a ∷ lparen ∷ []))) (refused 7 73)
    -- 6 comes before 7
    ∷ case (replicate 64 lparen ++ (a ∷ a ∷ lparen ∷ [])) (refused 6 65)
    ∷ []

abbrev pub Worked : Type 0
Worked = Right expressions × Right declarations × Right levels_of_nesting
