-- Where statements and blocks may stand, with so many levels open.
use Rattle.std.specs.Prelude.{◌≡◌, ℕ, suc, List, [], ◌∷◌}
use Rattle.std.proofs.Math.Option.{none}
use Rattle.grammar.specs.Tree as tree
use Rattle.grammar.specs.Tree.{Arms, Expr, Stmt, Stmts, Text, Token}
use Rattle.grammar.specs.Reader.{Body, Hole, State, add, arm_test, arms, decls, each_of, eachs, ends, loop_test, loops, more, on, other, pick, start, vars}
use Rattle.grammar.specs.Limits.{body_depth, depth}
use Rattle.reader.specs.Kinds.{mark_of}
use Rattle.reader.specs.declared.kinds.Mark.{Mark}

-- the first token neither heads a declaration of the body nor ends it
abbrev pub Unclaimed : Body → List Token → Type 0
Unclaimed b [] = Unit {0}
Unclaimed b (t ∷ ts) = (pick (decls b) t ≡ none) × (pick (ends b) t ≡ none)

pub record AroundAt (d : ℕ) : Type 0 where
  pub body : Body
  pub deep : body_depth body ≡ d

-- a body for a statement that begins with these tokens
pub record BodyAt (d : ℕ) (ts : List Token) : Type 0 where
  pub body : Body
  pub deep : body_depth body ≡ d
  pub unclaimed : Unclaimed body ts

-- the same, where no variable may be defined any more
pub record SettledAt (d : ℕ) (ts : List Token) : Type 0 where
  pub body : Body
  pub deep : body_depth body ≡ d
  pub unclaimed : Unclaimed body ts
  pub settled : (p : ℕ) (f : tree.Form) → vars tree.nil body p f ≡ []

-- the first token does not make the expression before it, at the place p, a variable's definition
abbrev pub Unsaid : Body → ℕ → tree.Form → List Token → Type 0
Unsaid b p f [] = Unit {0}
Unsaid b p f (t ∷ ts) = pick (vars tree.nil b p f) t ≡ none

pub record LineAt (d p : ℕ) (f : tree.Form) (ts : List Token) : Type 0 where
  pub body : Body
  pub deep : body_depth body ≡ d
  pub unsaid : Unsaid body p f ts

-- what an expression before a block is for, and what the block then is for
pub data Test : Type 0 where
  in_if : Arms → ℕ → Test
  in_while : ℕ → Test
  in_for : ℕ → Text → Test

pub data Nest : Type 0 where
  an_arm : Arms → ℕ → Expr → Nest
  an_else : Arms → Nest
  a_loop : ℕ → Expr → Nest
  an_each : ℕ → Text → Expr → Nest

abbrev pub test_hole : Test → Body → Hole
test_hole (in_if aa p) b = arm_test aa p b
test_hole (in_while p) b = loop_test p b
test_hole (in_for p n) b = each_of p n b

abbrev pub nest_of : Test → Expr → Nest
nest_of (in_if aa p) e = an_arm aa p e
nest_of (in_while p) e = a_loop p e
nest_of (in_for p n) e = an_each p n e

-- the block with the statements that it has so far, and what comes after it
abbrev pub nest_body : Nest → Stmts → Body → Body
nest_body (an_arm aa p e) ss b = arms aa p e ss b
nest_body (an_else aa) ss b = other aa ss b
nest_body (a_loop p e) ss b = loops p e ss b
nest_body (an_each p n e) ss b = eachs p n e ss b

abbrev pub nest_end : Nest → Stmts → Body → State
nest_end (an_arm aa p e) ss b = more (tree.arm aa p e ss) b
nest_end (an_else aa) ss b = start (add (tree.choose aa ss) b)
nest_end (a_loop p e) ss b = start (add (tree.loop p e ss) b)
nest_end (an_each p n e) ss b = start (add (tree.each p n e ss) b)

pub record TestAt (d : ℕ) : Type 0 where
  pub test : Test
  pub body : Body
  pub deep : body_depth body ≡ d

pub record NestAt (d : ℕ) : Type 0 where
  pub nest : Nest
  pub body : Body
  pub deep : body_depth body ≡ d

pub record ArmsAt (d : ℕ) : Type 0 where
  pub ways : Arms
  pub body : Body
  pub deep : body_depth body ≡ d

-- a body that grows by statements, from its first on, to the mark that ends it
pub record Sequel (close : Mark) (d : ℕ) : Type 0 where
  pub body : Stmts → Body
  pub end : Stmts → State
  pub deep : (ss : Stmts) → body_depth (body ss) ≡ d
  pub grows : (ss : Stmts) (s : Stmt) → add s (body ss) ≡ body (tree.then ss s)
  pub closes : (ss : Stmts) (s : Stmt) → ends (body (tree.then ss s)) ≡ on (mark_of close) (λ q. end (tree.then ss s)) ∷ []
  pub undeclared : (ss : Stmts) (s : Stmt) → decls (body (tree.then ss s)) ≡ []
  pub settled : (ss : Stmts) (s : Stmt) (p : ℕ) (f : tree.Form) → vars tree.nil (body (tree.then ss s)) p f ≡ []

-- a state one level further in than d
pub record Inward (d : ℕ) : Type 0 where
  pub state : State
  pub deep : depth state ≡ suc d
