-- Tokens and trees. A node keeps the place of its first token.
use Rattle.std.specs.Prelude.{ℕ, suc, Bool, true, false, List}

-- the bytes of a name or of a string's value
abbrev pub Text : Type 0
Text = List ℕ

-- the operators between two operands
pub data Op : Type 0 where
  or and eq ne lt gt le ge is plus minus times over rem : Op
  deriving Discrete as op_discrete

-- the operators before one
pub data Pre : Type 0 where
  not neg : Pre

pub data Literal : Type 0 where
  lit_none lit_true lit_false : Literal
  int : ℕ → Literal
  text : Text → Literal

-- the tokens that are matched by name alone; `unused` is any keyword without a use
pub data Mark : Type 0 where
  rparen rbracket comma assign colon arrow newline indent dedent end : Mark
  class def global nonlocal pass return if elif else while for within unused : Mark
  deriving Discrete as mark_discrete

-- `wrong` is a fault of lexing, with its number: no rule takes it
pub data Kind : Type 0 where
  name : Text → Kind
  lit : Literal → Kind
  dot lparen lbracket not_word : Kind
  op : Op → Kind
  mark : Mark → Kind
  wrong : ℕ → Kind

-- a token and its place
pub data Token : Type 0 where
  at : Kind → ℕ → Token

abbrev pub place : Token → ℕ
place (at k p) = p

-- a name and its place
pub data Id : Type 0 where
  id : ℕ → Text → Id

mutual
  pub data Expr : Type 0 where
    var : ℕ → Text → Expr
    con : ℕ → Literal → Expr
    bin : ℕ → Op → Expr → Expr → Expr
    pre : ℕ → Pre → Expr → Expr
    mem : ℕ → Expr → Text → Expr
    idx : ℕ → Expr → Expr → Expr
    call : ℕ → Expr → Exprs → Expr
    list : ℕ → Exprs → Expr

  -- a list that grows at its end
  pub data Exprs : Type 0 where
    nil : Exprs
    snoc : Exprs → Expr → Exprs

-- what a variable, a parameter or a result is said to be
pub data Ann : Type 0 where
  cls quoted : ℕ → Text → Ann
  list_of : ℕ → Ann → Ann

pub data Params : Type 0 where
  no_params : Params
  param : Params → Id → Ann → Params

mutual
  pub data Stmt : Type 0 where
    skip ret₀ : ℕ → Stmt
    ret : ℕ → Expr → Stmt
    -- the place of the line's first token, parentheses included; the targets, none for an expression that stands alone; the value
    assigns : ℕ → Exprs → Expr → Stmt
    choose : Arms → Stmts → Stmt
    loop : ℕ → Expr → Stmts → Stmt
    each : ℕ → Text → Expr → Stmts → Stmt

  pub data Stmts : Type 0 where
    empty : Stmts
    then : Stmts → Stmt → Stmts

  -- `if` and each `elif`
  pub data Arms : Type 0 where
    no_arms : Arms
    arm : Arms → ℕ → Expr → Stmts → Arms

mutual
  -- a variable begins at its name; the others keep the place of their first word and the name's
  pub data Decl : Type 0 where
    a_var : Id → Ann → ℕ → Literal → Decl
    a_func : ℕ → Id → Params → Ann → Decls → Stmts → Decl
    a_class : ℕ → Id → Id → Decls → Decl
    a_global a_nonlocal : ℕ → Id → Decl

  pub data Decls : Type 0 where
    no_decls : Decls
    decl : Decls → Decl → Decls

-- The table of operators, loosest first. A higher level binds tighter.
pub data Rank : Type 0 where
  disjunction conjunction comparison sum product : Rank

abbrev pub rank : Op → Rank
rank or = disjunction
rank and = conjunction
rank eq = comparison
rank ne = comparison
rank lt = comparison
rank gt = comparison
rank le = comparison
rank ge = comparison
rank is = comparison
rank plus = sum
rank minus = sum
rank times = product
rank over = product
rank rem = product

abbrev pub level : Rank → ℕ
level disjunction = 1
level conjunction = 2
level comparison = 4
level sum = 5
level product = 6

-- how tight the left operand must be: comparisons do not associate
abbrev pub left : Rank → ℕ
left disjunction = 1
left conjunction = 2
left comparison = 5
left sum = 5
left product = 6

abbrev pub right : Rank → ℕ
right r = suc (level r)

abbrev pub reach : Pre → ℕ
reach not = 3
reach neg = 7

-- the form that an expression has at the outside, parentheses included
pub data Form : Type 0 where
  named : Text → Form
  member indexed closed : Form
  binary : Rank → Form
  prefix : Pre → Form

abbrev pub tight : Form → ℕ
tight (named n) = 8
tight member = 8
tight indexed = 8
tight closed = 8
tight (binary r) = level r
tight (prefix q) = reach q

abbrev pub callable : Form → Bool
callable (named n) = true
callable member = true
callable indexed = false
callable closed = false
callable (binary r) = false
callable (prefix q) = false

abbrev pub target : Form → Bool
target (named n) = true
target member = true
target indexed = true
target closed = false
target (binary r) = false
target (prefix q) = false

-- where declarations stand
pub data Where : Type 0 where
  in_program in_class in_function : Where

abbrev pub program? : Where → Bool
program? in_program = true
program? in_class = false
program? in_function = false

abbrev pub function? : Where → Bool
function? in_program = false
function? in_class = false
function? in_function = true
