-- What is told where a colon may make an expression a variable's definition.
use Rattle.std.specs.Prelude.{◌≡◌, ℕ, List, ◌∷◌, Some, None, Option}
use Rattle.arena.specs.Trees.{phrase, spelled}
use Rattle.arena.specs.declared.nodes.Node.{Node}
use Rattle.arena.specs.declared.nodes.Stretch.{Stretch}
use Rattle.grammar.specs.Tree as tree
use Rattle.grammar.specs.Tree.{Expr, Token, at}
use Rattle.grammar.specs.Reader.{Body}
use Rattle.reader.specs.Forms.{form_of}
use Rattle.reader.specs.Places.{Unsaid}
use Rattle.reader.specs.declared.forms.Form.{Form}

-- a name at the place p, the expression's node, and the colon after it; or the expression is none that the first token defines
abbrev pub DefinedTold : List Node → ℕ → Form → ℕ → List Token → List Token → Option Stretch → Type 0
DefinedTold ns p f i ts us (Some s) = (f ≡ Form.Named) × (s.at ≡ p) × ((src : List ℕ) → (phrase src ns i).expr ≡ tree.var p (spelled src s)) × ((q : ℕ) × (ts ≡ at (tree.mark tree.colon) q ∷ us))
DefinedTold ns p f i ts us None = (us ≡ ts) × ((e : Expr) (b : Body) → Unsaid b p (form_of f e) ts)
