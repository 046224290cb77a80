-- What is told of the tokens of a line.
use Rattle.std.specs.Prelude.{◌≡◌, ℕ, Bool, true, false, List, [], ◌∷◌}
use Rattle.std.proofs.Math.Option.{none}
use Rattle.grammar.specs.Tree as tree
use Rattle.grammar.specs.Tree.{Token, at}
use Rattle.grammar.specs.Reader.{State, expect, only}
use Rattle.reader.specs.Forms.{is_target}
use Rattle.reader.specs.declared.forms.Form.{Form}
use Rattle.reader.specs.declared.kinds.Kind.{Kind}

-- a mark
abbrev pub is_word : Kind → Bool
is_word (Kind.Name n) = false
is_word (Kind.Text n) = false
is_word (Kind.Constant l) = false
is_word Kind.Dot = false
is_word Kind.LeftRound = false
is_word Kind.LeftSquare = false
is_word Kind.Not = false
is_word (Kind.Operator o) = false
is_word (Kind.Mark m) = true
is_word (Kind.Fault f) = false

abbrev pub NoWord : Kind → Type 0
NoWord k = is_word k ≡ false

-- the first of some tokens does not assign to an expression of this form
abbrev pub Unassigned : Form → List Token → Type 0
Unassigned f [] = Unit {0}
Unassigned f (t ∷ ts) = (s : ℕ → State) → only (is_target f) (expect tree.assign s t) ≡ none

abbrev pub AssignedTold : Form → List Token → List Token → Bool → Type 0
AssignedTold f ts us true = (is_target f ≡ true) × ((q : ℕ) × (ts ≡ at (tree.mark tree.assign) q ∷ us))
AssignedTold f ts us false = (us ≡ ts) × Unassigned f ts
