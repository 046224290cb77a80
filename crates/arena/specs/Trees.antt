-- The trees that a table of nodes stands for.
use Rattle.std.specs.Prelude.{ℕ, ◌+◌, List, [], ◌∷◌, ◌++◌, take, drop, slice_index_or}
use Rattle.grammar.specs.Tree.{Ann, Arms, Decl, Decls, Expr, Exprs, Id, Params, Stmt, Stmts, Text, id}
use Rattle.grammar.specs.Tree.{var, con, bin, pre, mem, idx, call, list, nil, snoc, cls, quoted, list_of, no_params, param, skip, ret₀, ret, assigns, choose, loop, each, empty, then, no_arms, arm, a_var, a_func, a_class, a_global, a_nonlocal, no_decls, decl}
use Rattle.grammar.specs.Tree as tree
use Rattle.lexis.specs.Texts.{string_value}
use Rattle.arena.specs.declared.nodes.BinaryOperator.{BinaryOperator}
use Rattle.arena.specs.declared.nodes.Literal.{Literal}
use Rattle.arena.specs.declared.nodes.PrefixOperator.{PrefixOperator}
use Rattle.arena.specs.declared.nodes.Quotation.{Quotation}
use Rattle.arena.specs.declared.nodes.Stretch.{Stretch}
use Rattle.arena.specs.declared.nodes.Node.{Node}
use Rattle.arena.specs.declared.nodes.Node.TheVariants.{Variable, Constant, Binary, Prefix, Member, Index, Call, Display, NoExpressions, MoreExpressions, ClassType, QuotedType, ListType, NoParameters, MoreParameters, Pass, BareReturn, Return, Assign, If, While, For, NoStatements, MoreStatements, NoArms, MoreArms, VariableDefinition, FunctionDefinition, ClassDefinition, Global, Nonlocal, NoDeclarations, MoreDeclarations}

-- what a node stands for: something of one sort; of the other sorts, nothing in particular
pub record Phrase : Type 0 where
  pub expr : Expr
  pub exprs : Exprs
  pub ann : Ann
  pub params : Params
  pub stmt : Stmt
  pub stmts : Stmts
  pub arms : Arms
  pub decl : Decl
  pub decls : Decls

abbrev pub blank : Phrase
blank = record {
  expr = con 0 tree.lit_none;
  exprs = nil;
  ann = cls 0 [];
  params = no_params;
  stmt = skip 0;
  stmts = empty;
  arms = no_arms;
  decl = a_global 0 (id 0 []);
  decls = no_decls;
}

abbrev pub an_expr : Expr → Phrase
an_expr x = record { expr = x; exprs = blank.exprs; ann = blank.ann; params = blank.params; stmt = blank.stmt; stmts = blank.stmts; arms = blank.arms; decl = blank.decl; decls = blank.decls }

abbrev pub some_exprs : Exprs → Phrase
some_exprs x = record { expr = blank.expr; exprs = x; ann = blank.ann; params = blank.params; stmt = blank.stmt; stmts = blank.stmts; arms = blank.arms; decl = blank.decl; decls = blank.decls }

abbrev pub an_ann : Ann → Phrase
an_ann x = record { expr = blank.expr; exprs = blank.exprs; ann = x; params = blank.params; stmt = blank.stmt; stmts = blank.stmts; arms = blank.arms; decl = blank.decl; decls = blank.decls }

abbrev pub some_params : Params → Phrase
some_params x = record { expr = blank.expr; exprs = blank.exprs; ann = blank.ann; params = x; stmt = blank.stmt; stmts = blank.stmts; arms = blank.arms; decl = blank.decl; decls = blank.decls }

abbrev pub a_stmt : Stmt → Phrase
a_stmt x = record { expr = blank.expr; exprs = blank.exprs; ann = blank.ann; params = blank.params; stmt = x; stmts = blank.stmts; arms = blank.arms; decl = blank.decl; decls = blank.decls }

abbrev pub some_stmts : Stmts → Phrase
some_stmts x = record { expr = blank.expr; exprs = blank.exprs; ann = blank.ann; params = blank.params; stmt = blank.stmt; stmts = x; arms = blank.arms; decl = blank.decl; decls = blank.decls }

abbrev pub some_arms : Arms → Phrase
some_arms x = record { expr = blank.expr; exprs = blank.exprs; ann = blank.ann; params = blank.params; stmt = blank.stmt; stmts = blank.stmts; arms = x; decl = blank.decl; decls = blank.decls }

abbrev pub a_decl : Decl → Phrase
a_decl x = record { expr = blank.expr; exprs = blank.exprs; ann = blank.ann; params = blank.params; stmt = blank.stmt; stmts = blank.stmts; arms = blank.arms; decl = x; decls = blank.decls }

abbrev pub some_decls : Decls → Phrase
some_decls x = record { expr = blank.expr; exprs = blank.exprs; ann = blank.ann; params = blank.params; stmt = blank.stmt; stmts = blank.stmts; arms = blank.arms; decl = blank.decl; decls = x }

-- the bytes of a stretch of the source
abbrev pub spelled : List ℕ → Stretch → Text
spelled src s = take s.len (drop s.at src)

abbrev pub named : List ℕ → Stretch → Id
named src s = id s.at (spelled src s)

-- the value of a string
abbrev pub string_of : List ℕ → Quotation → Text
string_of src q = string_value (take q.len (drop (q.at + 1) src))

abbrev pub literal_of : List ℕ → Literal → tree.Literal
literal_of src Literal.None = tree.lit_none
literal_of src Literal.True = tree.lit_true
literal_of src Literal.False = tree.lit_false
literal_of src (Literal.Integer n) = tree.int n
literal_of src (Literal.Text s) = tree.text (string_of src s)

abbrev pub binary_of : BinaryOperator → tree.Op
binary_of BinaryOperator.Or = tree.or
binary_of BinaryOperator.And = tree.and
binary_of BinaryOperator.Equal = tree.eq
binary_of BinaryOperator.Unequal = tree.ne
binary_of BinaryOperator.Less = tree.lt
binary_of BinaryOperator.Greater = tree.gt
binary_of BinaryOperator.AtMost = tree.le
binary_of BinaryOperator.AtLeast = tree.ge
binary_of BinaryOperator.Is = tree.is
binary_of BinaryOperator.Plus = tree.plus
binary_of BinaryOperator.Minus = tree.minus
binary_of BinaryOperator.Times = tree.times
binary_of BinaryOperator.Divide = tree.over
binary_of BinaryOperator.Remainder = tree.rem

abbrev pub prefix_of : PrefixOperator → tree.Pre
prefix_of PrefixOperator.Not = tree.not
prefix_of PrefixOperator.Negate = tree.neg

-- what a node stands for, where t is what its children stand for
abbrev pub over : List ℕ → (ℕ → Phrase) → Node → Phrase
over src t (Variable name) = an_expr (var name.at (spelled src name))
over src t (Constant place literal) = an_expr (con place (literal_of src literal))
over src t (Binary place operator left right) = an_expr (bin place (binary_of operator) (t left).expr (t right).expr)
over src t (Prefix place operator operand) = an_expr (pre place (prefix_of operator) (t operand).expr)
over src t (Member place object name) = an_expr (mem place (t object).expr (spelled src name))
over src t (Index place object index) = an_expr (idx place (t object).expr (t index).expr)
over src t (Call place callee arguments) = an_expr (call place (t callee).expr (t arguments).exprs)
over src t (Display place elements) = an_expr (list place (t elements).exprs)
over src t NoExpressions = some_exprs nil
over src t (MoreExpressions first last) = some_exprs (snoc (t first).exprs (t last).expr)
over src t (ClassType name) = an_ann (cls name.at (spelled src name))
over src t (QuotedType name) = an_ann (quoted name.at (string_of src name))
over src t (ListType place element) = an_ann (list_of place (t element).ann)
over src t NoParameters = some_params no_params
over src t (MoreParameters first name annotation) = some_params (param (t first).params (named src name) (t annotation).ann)
over src t (Pass place) = a_stmt (skip place)
over src t (BareReturn place) = a_stmt (ret₀ place)
over src t (Return place value) = a_stmt (ret place (t value).expr)
over src t (Assign place targets value) = a_stmt (assigns place (t targets).exprs (t value).expr)
over src t (If arms otherwise) = a_stmt (choose (t arms).arms (t otherwise).stmts)
over src t (While place condition body) = a_stmt (loop place (t condition).expr (t body).stmts)
over src t (For place variable sequence body) = a_stmt (each place (spelled src variable) (t sequence).expr (t body).stmts)
over src t NoStatements = some_stmts empty
over src t (MoreStatements first last) = some_stmts (then (t first).stmts (t last).stmt)
over src t NoArms = some_arms no_arms
over src t (MoreArms first place condition body) = some_arms (arm (t first).arms place (t condition).expr (t body).stmts)
over src t (VariableDefinition name annotation place literal) = a_decl (a_var (named src name) (t annotation).ann place (literal_of src literal))
over src t (FunctionDefinition place name parameters result declarations body) = a_decl (a_func place (named src name) (t parameters).params (t result).ann (t declarations).decls (t body).stmts)
over src t (ClassDefinition place name superclass members) = a_decl (a_class place (named src name) (named src superclass) (t members).decls)
over src t (Global place name) = a_decl (a_global place (named src name))
over src t (Nonlocal place name) = a_decl (a_nonlocal place (named src name))
over src t NoDeclarations = some_decls no_decls
over src t (MoreDeclarations first last) = some_decls (decl (t first).decls (t last).decl)

abbrev pub pick : List Phrase → ℕ → Phrase
pick es i = slice_index_or es i blank

-- what all nodes stand for, the first ones being done
unfoldable pub grown : List ℕ → List Phrase → List Node → List Phrase
grown src es [] = es
grown src es (n ∷ ns) = grown src (es ++ (over src (pick es) n ∷ [])) ns

-- what the node at an index stands for
unfoldable pub phrase : List ℕ → List Node → ℕ → Phrase
phrase src ns i = pick (grown src [] ns) i
