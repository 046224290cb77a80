use Rattle.std.proofs.Common.{◌<◌, length}
use Rattle.arena.specs.Tables.{arena_nodes}
use Rattle.arena.specs.Trees.{phrase}
use Rattle.reader.specs.Feeds.{coming, feed_source}
use Rattle.reader.specs.Functions.{past_param}
use Rattle.reader.specs.Parameters.{Header}
use Rattle.reader.proofs.Leading.{Along}
use Rattle.reader.proofs.parsers.Parser.some_parameters.Given as goal

-- the parameters so far
abbrev pub invariant-loop-self : goal.invariant-loop-self
invariant-loop-self l =
    (l.list < length (arena_nodes l.self.arena))
    × Along {X = Header l.depth.levels} (past_param (coming l.initial.self.feed) (phrase (feed_source l.initial.self.feed) (arena_nodes l.initial.self.arena) l.initial.list).params)
    (past_param (coming l.self.feed) (phrase (feed_source l.initial.self.feed) (arena_nodes l.self.arena) l.list).params) l.initial.self.feed l.initial.self.arena l.self.feed l.self.arena

abbrev pub decreases-loop-self : goal.decreases-loop-self
decreases-loop-self l = length (coming l.self.feed)
