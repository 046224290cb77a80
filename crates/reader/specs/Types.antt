-- What reading an annotation tells, whatever the annotation is for: the limited machine of the grammar goes on alike, or
-- comes to the same refusal.
use Rattle.std.specs.Prelude.{◌≡◌, ℕ, ◌<◌, List, length, Ok, Err, Result}
use Rattle.arena.specs.declared.nodes.Node.{Node}
use Rattle.arena.specs.Trees.{phrase}
use Rattle.grammar.specs.Tree.{Token}
use Rattle.grammar.specs.Reader.{Slot, typed, typing}
use Rattle.grammar.specs.Limits.{limited, slot_depth}
use Rattle.grammar.specs.Verdict.{judged}
use Rattle.reader.specs.Stops.{stop_of}
use Rattle.reader.specs.declared.refusals.Stop.{Stop}

-- a place for an annotation with so many levels open
pub record SlotAt (d : ℕ) : Type 0 where
  pub slot : Slot
  pub deep : slot_depth slot ≡ d

abbrev pub TypeTells : List ℕ → List Node → ℕ → List Token → List Token → Result ℕ Stop → Type 0
TypeTells src ns d ts us (Ok i) = (i < length ns) × ((x : SlotAt d) → limited 64 ts (typing x.slot) ≡ limited 64 us (typed (phrase src ns i).ann x.slot))
TypeTells src ns d ts us (Err e) = (x : SlotAt d) → judged (limited 64 ts (typing x.slot)) ≡ stop_of e
