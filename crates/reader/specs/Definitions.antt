-- What reading a variable's definition tells, wherever the definition stands: the limited machine of the grammar goes on
-- alike, or comes to the same refusal.
use Rattle.std.specs.Prelude.{◌≡◌, ℕ, ◌<◌, List, [], ◌∷◌, length, Ok, Err, Result}
use Rattle.std.proofs.Math.Option.{none}
use Rattle.arena.specs.declared.nodes.Node.{Node}
use Rattle.arena.specs.declared.nodes.Stretch.{Stretch}
use Rattle.arena.specs.Trees.{literal_of, named, phrase}
use Rattle.grammar.specs.Tree as tree
use Rattle.grammar.specs.Tree.{Token, at}
use Rattle.grammar.specs.Reader.{Outer, State, awaits, join, literals, of_var, typing}
use Rattle.grammar.specs.Limits.{limited, outer_depth}
use Rattle.grammar.specs.Verdict.{incomplete, judged}
use Rattle.reader.specs.Stops.{stop_of}
use Rattle.reader.specs.Taking.{Bars}
use Rattle.reader.specs.declared.definitions.PlacedLiteral.{PlacedLiteral}
use Rattle.reader.specs.declared.refusals.Stop.{Stop}

abbrev pub NoLiteral : List Token → Stop → Type 0
NoLiteral [] e = stop_of e ≡ incomplete
NoLiteral (t ∷ ts) e = ((s : ℕ → tree.Literal → State) → literals s t ≡ none) × Bars t e

-- a literal was taken, or is not there, and nothing was taken
abbrev pub LiteralTold : List ℕ → List Token → List Token → Result PlacedLiteral Stop → Type 0
LiteralTold src ts us (Ok l) = ts ≡ at (tree.lit (literal_of src l.literal)) l.place ∷ us
LiteralTold src ts us (Err e) = NoLiteral ts e × (us ≡ ts)

-- a place for a definition with so many levels open
pub record OuterAt (d : ℕ) : Type 0 where
  pub outer : Outer
  pub deep : outer_depth outer ≡ d

abbrev pub VariableTells : List ℕ → List Node → Stretch → ℕ → List Token → List Token → Result ℕ Stop → Type 0
VariableTells src ns n d ts us (Ok i) =
    (i < length ns) × ((x : OuterAt d) → limited 64 ts (typing (of_var (named src n) x.outer)) ≡ limited 64 us (awaits (join (phrase src ns i).decl x.outer)))
VariableTells src ns n d ts us (Err e) = (x : OuterAt d) → judged (limited 64 ts (typing (of_var (named src n) x.outer))) ≡ stop_of e
