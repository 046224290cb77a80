use Rattle.std.proofs.Common.{◌+◌, ◌-◌, ◌*◌, length}
use Rattle.arena.specs.Trees.{binary_of}
use Rattle.grammar.specs.Tree as tree
use Rattle.reader.specs.Feeds.{coming}
use Rattle.reader.specs.Told.{Spot}
use Rattle.reader.proofs.Steps.{Grew}
use Rattle.reader.proofs.ListSteps.{Listing}
use Rattle.reader.proofs.parsers.Parser.+begun_binary_call_display_expression_group_grown_index_item_items_listed_operand_prefix.Given as goal

abbrev pub decreases-expression : goal.decreases-expression
decreases-expression l = 100 * (64 - l.depth.levels) + 10 * (8 - l.asks) + 9

abbrev pub decreases-operand : goal.decreases-operand
decreases-operand l = 100 * (64 - l.depth.levels) + 10 * (8 - l.asks) + 8

abbrev pub decreases-begun : goal.decreases-begun
decreases-begun l = 100 * (64 - l.depth.levels) + 10 * (8 - l.asks) + 7

abbrev pub decreases-prefix : goal.decreases-prefix
decreases-prefix l = 100 * (64 - l.depth.levels) + 1

abbrev pub decreases-group : goal.decreases-group
decreases-group l = 100 * (64 - l.depth.levels) + 1

abbrev pub decreases-display : goal.decreases-display
decreases-display l = 100 * (64 - l.depth.levels) + 2

abbrev pub decreases-grown : goal.decreases-grown
decreases-grown l = 100 * (64 - l.depth.levels) + 10 * (8 - l.asks) + 8

abbrev pub decreases-index : goal.decreases-index
decreases-index l = 100 * (64 - l.depth.levels) + 1

abbrev pub decreases-call : goal.decreases-call
decreases-call l = 100 * (64 - l.depth.levels) + 2

abbrev pub decreases-binary : goal.decreases-binary
decreases-binary l = 100 * (64 - l.depth.levels) + 10 * (8 - tree.level (tree.rank (binary_of l.operator))) + 7

-- its elements are one level further in
abbrev pub decreases-listed : goal.decreases-listed
decreases-listed l = 100 * (64 - l.inner.levels) + 92

abbrev pub decreases-items : goal.decreases-items
decreases-items l = 100 * (64 - l.depth.levels) + 91

abbrev pub decreases-item : goal.decreases-item
decreases-item l = 100 * (64 - l.depth.levels) + 90

-- what was read so far
abbrev pub invariant-expression-loop-next : goal.invariant-expression-loop-next
invariant-expression-loop-next l = Grew (Spot l.asks l.depth.levels) l.initial.self.feed l.initial.self.arena l.initial.read l.self.feed l.self.arena l.read

abbrev pub decreases-expression-loop-next : goal.decreases-expression-loop-next
decreases-expression-loop-next l = length (coming l.self.feed)

abbrev pub invariant-items-loop-self : goal.invariant-items-loop-self
invariant-items-loop-self l = Listing l.depth.levels l.initial.self.feed l.initial.self.arena l.initial.list l.self.feed l.self.arena l.list

abbrev pub decreases-items-loop-self : goal.decreases-items-loop-self
decreases-items-loop-self l = length (coming l.self.feed)
