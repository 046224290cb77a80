-- What goes on with an expression, and what begins one.
use Rattle.std.specs.Prelude.{◌≡◌, ℕ, true, cond, ◌&&◌, Some, None, Option, nat_le}
use Rattle.arena.specs.Trees.{binary_of}
use Rattle.arena.specs.declared.nodes.BinaryOperator.{BinaryOperator}
use Rattle.arena.specs.declared.nodes.PrefixOperator.{PrefixOperator}
use Rattle.grammar.specs.Tree as tree
use Rattle.grammar.specs.Tree.{at}
use Rattle.reader.specs.Forms.{is_callable, tight_of}
use Rattle.reader.specs.declared.forms.Form.{Form}
use Rattle.reader.specs.declared.kinds.Kind.{Kind}
use Rattle.reader.specs.declared.growths.Growth.{Growth}

-- the token that an operator before an operand is
abbrev pub sign : PrefixOperator → Kind
sign PrefixOperator.Not = Kind.Not
sign PrefixOperator.Negate = Kind.Operator BinaryOperator.Minus

-- where an expression must be as tight as a
abbrev pub growth_of : Kind → Form → ℕ → Option Growth
growth_of (Kind.Name n) f a = None
growth_of (Kind.Text n) f a = None
growth_of (Kind.Constant l) f a = None
growth_of Kind.Dot f a = cond (nat_le 8 (tight_of f)) (Some Growth.Member) None
growth_of Kind.LeftRound f a = cond (is_callable f) (Some Growth.Call) None
growth_of Kind.LeftSquare f a = cond (nat_le 8 (tight_of f)) (Some Growth.Index) None
growth_of Kind.Not f a = None
growth_of (Kind.Operator o) f a = cond (nat_le a (tree.level (tree.rank (binary_of o))) && nat_le (tree.left (tree.rank (binary_of o))) (tight_of f)) (Some (Growth.Operator o)) None
growth_of (Kind.Mark m) f a = None
growth_of (Kind.Fault k) f a = None

-- what goes on does so with this token, and holds
abbrev pub Grown : Kind → Form → ℕ → Growth → Type 0
Grown k f a Growth.Member = (k ≡ Kind.Dot) × (nat_le 8 (tight_of f) ≡ true)
Grown k f a Growth.Call = (k ≡ Kind.LeftRound) × (is_callable f ≡ true)
Grown k f a Growth.Index = (k ≡ Kind.LeftSquare) × (nat_le 8 (tight_of f) ≡ true)
Grown k f a (Growth.Operator o) = (k ≡ Kind.Operator o) × (nat_le a (tree.level (tree.rank (binary_of o))) ≡ true) × (nat_le (tree.left (tree.rank (binary_of o))) (tight_of f) ≡ true)
