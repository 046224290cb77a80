-- Children stand before their parents.
use Rattle.std.specs.Prelude.{ℕ, ◌+◌, Bool, true, ◌&&◌, List, [], ◌∷◌, nat_lt}
use Rattle.arena.specs.declared.nodes.Node.{Node}
use Rattle.arena.specs.declared.nodes.Node.TheVariants.{Variable, Constant, Binary, Prefix, Member, Index, Call, Display, NoExpressions, MoreExpressions, ClassType, QuotedType, ListType, NoParameters, MoreParameters, Pass, BareReturn, Return, Assign, If, While, For, NoStatements, MoreStatements, NoArms, MoreArms, VariableDefinition, FunctionDefinition, ClassDefinition, Global, Nonlocal, NoDeclarations, MoreDeclarations}

-- whether the children of a node stand below an index
abbrev pub before : ℕ → Node → Bool
before k (Variable name) = true
before k (Constant place literal) = true
before k (Binary place operator left right) = nat_lt left k && nat_lt right k
before k (Prefix place operator operand) = nat_lt operand k
before k (Member place object name) = nat_lt object k
before k (Index place object index) = nat_lt object k && nat_lt index k
before k (Call place callee arguments) = nat_lt callee k && nat_lt arguments k
before k (Display place elements) = nat_lt elements k
before k NoExpressions = true
before k (MoreExpressions first last) = nat_lt first k && nat_lt last k
before k (ClassType name) = true
before k (QuotedType name) = true
before k (ListType place element) = nat_lt element k
before k NoParameters = true
before k (MoreParameters first name annotation) = nat_lt first k && nat_lt annotation k
before k (Pass place) = true
before k (BareReturn place) = true
before k (Return place value) = nat_lt value k
before k (Assign place targets value) = nat_lt targets k && nat_lt value k
before k (If arms otherwise) = nat_lt arms k && nat_lt otherwise k
before k (While place condition body) = nat_lt condition k && nat_lt body k
before k (For place variable sequence body) = nat_lt sequence k && nat_lt body k
before k NoStatements = true
before k (MoreStatements first last) = nat_lt first k && nat_lt last k
before k NoArms = true
before k (MoreArms first place condition body) = nat_lt first k && (nat_lt condition k && nat_lt body k)
before k (VariableDefinition name annotation place literal) = nat_lt annotation k
before k (FunctionDefinition place name parameters result declarations body) = nat_lt parameters k && (nat_lt result k && (nat_lt declarations k && nat_lt body k))
before k (ClassDefinition place name superclass members) = nat_lt members k
before k (Global place name) = true
before k (Nonlocal place name) = true
before k NoDeclarations = true
before k (MoreDeclarations first last) = nat_lt first k && nat_lt last k

-- whether each node of a table, the first of which has the index k, stands after its children
abbrev pub ordered : ℕ → List Node → Bool
ordered k [] = true
ordered k (n ∷ ns) = before k n && ordered (k + 1) ns
