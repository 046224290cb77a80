-- What the forms in the code stand for.
use Rattle.std.specs.Prelude.{ℕ, Bool, []}
use Rattle.arena.specs.Trees.{prefix_of}
use Rattle.grammar.specs.Tree as tree
use Rattle.grammar.specs.Tree.{Expr}
use Rattle.reader.specs.declared.forms.Form.{Form}
use Rattle.reader.specs.declared.forms.Rank.{Rank}

abbrev pub rank_of : Rank → tree.Rank
rank_of Rank.Disjunction = tree.disjunction
rank_of Rank.Conjunction = tree.conjunction
rank_of Rank.Comparison = tree.comparison
rank_of Rank.Sum = tree.sum
rank_of Rank.Product = tree.product

-- the name that an expression is
abbrev pub name_of : Expr → tree.Text
name_of (tree.var p n) = n
name_of (tree.con p l) = []
name_of (tree.bin p o a b) = []
name_of (tree.pre p o a) = []
name_of (tree.mem p a n) = []
name_of (tree.idx p a b) = []
name_of (tree.call p a es) = []
name_of (tree.list p es) = []

-- the form of an expression
abbrev pub form_of : Form → Expr → tree.Form
form_of Form.Named e = tree.named (name_of e)
form_of Form.Member e = tree.member
form_of Form.Indexed e = tree.indexed
form_of Form.Closed e = tree.closed
form_of (Form.Binary r) e = tree.binary (rank_of r)
form_of (Form.Prefix o) e = tree.prefix (prefix_of o)

abbrev pub tight_of : Form → ℕ
tight_of f = tree.tight (form_of f (tree.con 0 tree.lit_none))

abbrev pub is_callable : Form → Bool
is_callable f = tree.callable (form_of f (tree.con 0 tree.lit_none))

abbrev pub is_target : Form → Bool
is_target f = tree.target (form_of f (tree.con 0 tree.lit_none))
