-- What is told where a mark or a name must come.
use Rattle.std.specs.Prelude.{◌≡◌, ℕ, Bool, true, false, List, [], ◌∷◌, Some, None, Ok, Err, Option, Result}
use Rattle.std.proofs.Math.Option.{none}
use Rattle.arena.specs.declared.nodes.Stretch.{Stretch}
use Rattle.arena.specs.Trees.{spelled}
use Rattle.grammar.specs.Tree as tree
use Rattle.grammar.specs.Tree.{Token, at}
use Rattle.grammar.specs.Reader.{State, expect, names}
use Rattle.grammar.specs.Verdict.{fault, incomplete, refused}
use Rattle.reader.specs.Kinds.{mark_of}
use Rattle.reader.specs.Stops.{stop_of}
use Rattle.reader.specs.declared.kinds.Mark.{Mark}
use Rattle.reader.specs.declared.refusals.Stop.{Stop}

-- the token is refused as one that no program has here
abbrev pub Bars : Token → Stop → Type 0
Bars t e = stop_of e ≡ refused (fault t) (tree.place t)

-- the first of some tokens is another than must come, for whatever state comes after
abbrev pub NoMark : Mark → List Token → Stop → Type 0
NoMark m [] e = stop_of e ≡ incomplete
NoMark m (t ∷ ts) e = ((s : ℕ → State) → expect (mark_of m) s t ≡ none) × Bars t e

-- a mark was taken, or is not there, and nothing was taken
abbrev pub MarkTold : Mark → List Token → List Token → Result (Unit {0}) Stop → Type 0
MarkTold m ts us (Ok r) = (q : ℕ) × (ts ≡ at (tree.mark (mark_of m)) q ∷ us)
MarkTold m ts us (Err e) = NoMark m ts e × (us ≡ ts)

abbrev pub NoName : List Token → Stop → Type 0
NoName [] e = stop_of e ≡ incomplete
NoName (t ∷ ts) e = ((s : ℕ → tree.Text → State) → names s t ≡ none) × Bars t e

-- a name was taken, or is not there, and nothing was taken
abbrev pub NameTold : List ℕ → List Token → List Token → Result Stretch Stop → Type 0
NameTold src ts us (Ok n) = ts ≡ at (tree.name (spelled src n)) n.at ∷ us
NameTold src ts us (Err e) = NoName ts e × (us ≡ ts)

-- the first of some tokens is not this mark, for whatever state comes after
abbrev pub Another : Mark → List Token → Type 0
Another m [] = Unit {0}
Another m (t ∷ ts) = (s : ℕ → State) → expect (mark_of m) s t ≡ none

-- a mark that may come was passed, or is not there
abbrev pub PassTold : Mark → List Token → List Token → Bool → Type 0
PassTold m ts us true = (q : ℕ) × (ts ≡ at (tree.mark (mark_of m)) q ∷ us)
PassTold m ts us false = (us ≡ ts) × Another m ts

-- the same, with its place
abbrev pub CameTold : Mark → List Token → List Token → Option ℕ → Type 0
CameTold m ts us (Some q) = ts ≡ at (tree.mark (mark_of m)) q ∷ us
CameTold m ts us None = (us ≡ ts) × Another m ts
