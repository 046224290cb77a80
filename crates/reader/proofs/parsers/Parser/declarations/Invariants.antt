use Rattle.std.proofs.Common.{◌<◌, length}
use Rattle.arena.specs.Tables.{arena_nodes}
use Rattle.arena.specs.Trees.{phrase}
use Rattle.grammar.specs.Tree as tree
use Rattle.grammar.specs.Reader.{base, start}
use Rattle.grammar.specs.Limits.{limited}
use Rattle.reader.specs.Bodies.{OwnerAt}
use Rattle.reader.specs.Feeds.{coming, feed_source}
use Rattle.reader.specs.Owners.{frame_of}
use Rattle.reader.proofs.Leading.{Along}
use Rattle.reader.proofs.parsers.Parser.declarations.Given as goal

-- the declarations so far
abbrev pub invariant-loop-last : goal.invariant-loop-last
invariant-loop-last t l =
    (l.before < length (arena_nodes l.self.arena))
    × Along (λ (x : OwnerAt t.S.Scope.owns l.depth.levels). limited 64 (coming l.initial.self.feed) (start (base (frame_of x.owner (phrase (feed_source l.initial.self.feed) (arena_nodes l.initial.self.arena) l.initial.before).decls) tree.empty)))
    (λ x. limited 64 (coming l.self.feed) (start (base (frame_of x.owner (phrase (feed_source l.initial.self.feed) (arena_nodes l.self.arena) l.before).decls) tree.empty))) l.initial.self.feed l.initial.self.arena l.self.feed l.self.arena

abbrev pub decreases-loop-last : goal.decreases-loop-last
decreases-loop-last t l = length (coming l.self.feed)
