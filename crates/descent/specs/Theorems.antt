-- The statements: functions that call each other read what the limited reader reads, whatever is open around.
use Rattle.std.specs.Prelude.{List, [], ◌∷◌, ◌≡◌, ℕ, suc}
use Rattle.std.proofs.Math.Option.{none}
use Rattle.grammar.specs.Tree.{Token, Mark, Id, Expr, Exprs, Ann, Params, Form, Stmt, Stmts, Arms, Decls, at, mark, arrow, dedent, empty, then, no_decls, decl, a_func, a_class}
use Rattle.grammar.specs.Reader.{State, Group, Hole, Body, Frame, Outer, Slot, base, main, locals, first, group, line, arm_test, of_result, of_var, for_def, for_class, want, have, naming, seq, params, typing, typed, returns, more, start, inner, done, add, join, awaits, asks, on, pick, closer, from, build, vars, decls, ends, stmts, block_of, begin}
use Rattle.grammar.specs.Tree.{nil, closed}
use Rattle.grammar.specs.Profile.{plain}
use Rattle.grammar.specs.Limits.{frame_depth, hole_depth, body_depth, slot_depth, outer_depth, declaring, operand, sees, limited, Reading, complete, barred, beyond, unfinished}
use Rattle.descent.specs.Answers.{Answer, ok, bar, over, cut, tired, Tells, To}
use Rattle.descent.specs.Expressions.{term, expr, after, bracketed, items, Into}
use Rattle.descent.specs.Statements.{chain, returned, command, stmt, branch, ways, suite, lines, Begun}
use Rattle.descent.specs.Declarations.{Parts, parts, decls_of, stmts_of, ann, parameters, variable, headline, lead, LeadTo, func_body, func, class_body, class_of, program}
use Rattle.descent.specs.Calls.{calls_for}

-- an expression: it stands in the hole, and nothing goes on with it
abbrev pub DescendsExpr : Type 0
DescendsExpr = (lim n : ℕ) (h : Hole) (ts : List Token) → Tells (Into lim h) (expr lim n (asks h) (hole_depth h) ts) (limited lim ts (want h))

-- what goes on with it
abbrev pub DescendsAfter : Type 0
DescendsAfter = (lim n : ℕ) (h : Hole) (i : ℕ) (f : Form) (e : Expr) (ts : List Token)
    → Tells (Into lim h) (after lim n (asks h) (hole_depth h) (term i f e) ts) (limited lim ts (have i f e h))

-- one expression and more, after es
abbrev pub DescendsItems : Type 0
DescendsItems = (lim n : ℕ) (g : Group) (h : Hole) (es : Exprs) (ts : List Token)
    → Tells (To lim (λ x. have (from g) closed (build g x) h)) (items lim n (suc (hole_depth h)) (closer g) es ts) (limited lim ts (want (group g es h)))

-- the expressions in brackets, after the opening one
abbrev pub DescendsList : Type 0
DescendsList = (lim n : ℕ) (g : Group) (h : Hole) (ts : List Token)
    → Tells (To lim (λ es. have (from g) closed (build g es) h)) (bracketed lim n (suc (hole_depth h)) (closer g) ts) (limited lim ts (first g h))

abbrev pub DescendsType : Type 0
DescendsType = (lim n : ℕ) (s : Slot) (ts : List Token) → Tells (To lim (λ a. typed a s)) (ann lim n (slot_depth s) ts) (limited lim ts (typing s))

-- a definition, after its colon
abbrev pub DescendsVar : Type 0
DescendsVar = (lim n : ℕ) (v : Id) (o : Outer) (ts : List Token)
    → Tells (To lim (λ c. awaits (join c o))) (variable lim n (outer_depth o) v ts) (limited lim ts (typing (of_var v o)))

-- the parameters of a function, after the `(`
abbrev pub DescendsParams : Type 0
DescendsParams = (lim n p : ℕ) (m : Id) (o : Outer) (ts : List Token)
    → Tells (To lim (λ ps. seq arrow [] (typing (of_result p m ps o)))) (parameters lim n (suc (outer_depth o)) ts) (limited lim ts (params p m o))

-- the body of a function: the declarations ds are read
abbrev pub DescendsBody : Type 0
DescendsBody = (lim n p : ℕ) (m : Id) (ps : Params) (a : Ann) (o : Outer) (ds : Decls) (ts : List Token)
    → Tells (To lim (λ x. awaits (join (a_func p m ps a (decls_of x) (stmts_of x)) o))) (func_body lim n (suc (outer_depth o)) ds ts)
    (limited lim ts (start (base (locals p m ps a ds o) empty)))

-- a function, after `def`
abbrev pub DescendsFunc : Type 0
DescendsFunc = (lim n p : ℕ) (o : Outer) (ts : List Token)
    → Tells (To lim (λ c. awaits (join c o))) (func lim n (outer_depth o) p ts) (limited lim ts (naming (for_def p o)))

-- the members of a class: ds are read
abbrev pub DescendsMembers : Type 0
DescendsMembers = (lim n p : ℕ) (m s : Id) (os ds : Decls) (ts : List Token)
    → Tells (To lim (λ x. start (base (main (decl os (a_class p m s x))) empty))) (class_body lim n 1 ds ts) (limited lim ts (inner p m s ds os))

-- a class, after `class`
abbrev pub DescendsClass : Type 0
DescendsClass = (lim n p : ℕ) (ds : Decls) (ts : List Token)
    → Tells (To lim (λ c. start (base (main (decl ds c)) empty))) (class_of lim n 0 p ts) (limited lim ts (naming (for_class p ds)))

-- a line that is an assignment or an expression, after the targets es
abbrev pub DescendsLine : Type 0
DescendsLine = (lim n i : ℕ) (es : Exprs) (b : Body) (ts : List Token) → ((p : ℕ) (f : Form) → vars es b p f ≡ [])
    → Tells (To lim (λ s. start (add s b))) (chain lim n (body_depth b) i es ts) (limited lim ts (want (line i es b)))

-- an `if`, after the word, and what comes after the block of an arm
abbrev pub DescendsIf : Type 0
DescendsIf = (lim n : ℕ) (aa : Arms) (p : ℕ) (b : Body) (ts : List Token)
    → Tells (To lim (λ s. start (add s b))) (branch lim n (body_depth b) aa p ts) (limited lim ts (want (arm_test aa p b)))

abbrev pub DescendsMore : Type 0
DescendsMore = (lim n : ℕ) (aa : Arms) (b : Body) (ts : List Token)
    → Tells (To lim (λ s. start (add s b))) (ways lim n (body_depth b) aa ts) (limited lim ts (more aa b))

-- A body that takes no declaration.
pub record Quiet (b : Body) : Type 0 where
  pub undeclared : decls b ≡ []
  pub unlabelled : declaring b ≡ plain
  pub no_vars : (p : ℕ) (f : Form) → vars nil b p f ≡ []

-- the next token does not end the block
abbrev pub Stays : Body → List Token → Type 0
Stays b [] = Unit {0}
Stays b (t ∷ ts) = pick (ends b) t ≡ none

abbrev pub DescendsStmt : Type 0
DescendsStmt = (lim n : ℕ) (b : Body) (ts : List Token) → Quiet b → Stays b ts
    → Tells (To lim (λ s. start (add s b))) (stmt lim n (body_depth b) ts) (limited lim ts (start b))

-- the next token neither declares nor ends the block
abbrev pub Ordinary : Body → List Token → Type 0
Ordinary b [] = Unit {0}
Ordinary b (t ∷ ts) = (sees (start b) t ≡ operand (body_depth b) t) × (pick (decls b) t ≡ none) × (pick (ends b) t ≡ none)

-- a statement that begins with a mark, or none
abbrev pub DescendsCommand : Type 0
DescendsCommand = (lim n : ℕ) (b : Body) (ts : List Token) → Ordinary b ts → Tells (Begun lim b) (command lim n (body_depth b) ts) (limited lim ts (start b))

-- after `return`
abbrev pub DescendsReturn : Type 0
DescendsReturn = (lim n p : ℕ) (b : Body) (ts : List Token) → Tells (To lim (λ s. start (add s b))) (returned lim n (body_depth b) p ts) (limited lim ts (returns p b))

-- a line where definitions are allowed, which begins with no mark
abbrev pub DescendsHeadline : Type 0
DescendsHeadline = (lim n i : ℕ) (fr : Frame) (ts : List Token)
    → Tells (LeadTo lim fr) (headline lim n (frame_depth fr) i ts) (limited lim ts (want (line i nil (base fr empty))))

-- a statement or a definition
abbrev pub DescendsLead : Type 0
DescendsLead = (lim n : ℕ) (fr : Frame) (ts : List Token) → Ordinary (base fr empty) ts
    → Tells (LeadTo lim fr) (lead lim n (frame_depth fr) ts) (limited lim ts (start (base fr empty)))

-- A block k while its statements come: it grows, and ends at the mark m, where z goes on.
pub record Closes (k : Stmts → Body) (d : ℕ) (m : Mark) (z : Stmts → State) : Type 0 where
  pub grown : (ss : Stmts) (s : Stmt) → add s (k ss) ≡ k (then ss s)
  pub deep : (ss : Stmts) → body_depth (k ss) ≡ d
  pub quiet : (ss : Stmts) (s : Stmt) → Quiet (k (then ss s))
  pub closing : (ss : Stmts) (s : Stmt) → ends (k (then ss s)) ≡ on m (λ q. z (then ss s)) ∷ []
  pub apart : (b : Body) (p : ℕ) → pick (stmts b) (at (mark m) p) ≡ none

-- more statements, after one
abbrev pub DescendsLines : Type 0
DescendsLines = (lim n d : ℕ) (k : Stmts → Body) (m : Mark) (z : Stmts → State) (ss : Stmts) (s : Stmt) (ts : List Token) → Closes k d m z
    → Tells (To lim z) (lines lim n d m (then ss s) ts) (limited lim ts (start (k (then ss s))))

-- a block, after its colon
abbrev pub DescendsBlock : Type 0
DescendsBlock = (lim n d : ℕ) (k : Stmts → Body) (z : Stmts → State) (ts : List Token) → Closes k (suc d) dedent z → Quiet (k empty) → ends (k empty) ≡ []
    → Tells (To lim z) (suite lim n d ts) (limited lim ts (block_of (k empty)))

abbrev pub DescendsProgram : Type 0
DescendsProgram = (lim n : ℕ) (ds : Decls) (ts : List Token)
    → Tells (To lim (λ x. done (decls_of x) (stmts_of x))) (program lim n ds ts) (limited lim ts (start (base (main ds) empty)))

-- The whole: nothing may come after the program. The calls are enough, so the last line is never used.
abbrev pub finish : Answer Parts → Reading
finish (ok (parts ds ss) []) = complete ds ss
finish (ok (parts ds ss) (t ∷ ts)) = barred t ts
finish (bar t ts) = barred t ts
finish (over l t ts) = beyond l t ts
finish cut = unfinished
finish tired = unfinished

abbrev pub whole : ℕ → List Token → Reading
whole lim ts = finish (program lim (calls_for ts) no_decls ts)

abbrev pub DescendsWhole : Type 0
DescendsWhole = (lim : ℕ) (ts : List Token) → limited lim ts begin ≡ whole lim ts
