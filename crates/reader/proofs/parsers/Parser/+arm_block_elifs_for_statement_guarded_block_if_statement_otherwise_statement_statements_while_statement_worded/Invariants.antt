use Rattle.std.proofs.Common.{◌+◌, ◌-◌, ◌*◌, ◌<◌, length}
use Rattle.arena.specs.Tables.{arena_nodes}
use Rattle.arena.specs.Trees.{phrase}
use Rattle.grammar.specs.Reader.{more, start}
use Rattle.grammar.specs.Limits.{limited}
use Rattle.reader.specs.Feeds.{coming, feed_source}
use Rattle.reader.specs.Places.{AroundAt, Sequel}
use Rattle.reader.specs.Statements.{Filled}
use Rattle.reader.proofs.Leading.{Along}
use Rattle.reader.proofs.parsers.Parser.+arm_block_elifs_for_statement_guarded_block_if_statement_otherwise_statement_statements_while_statement_worded.Given as goal

abbrev pub decreases-statements : goal.decreases-statements
decreases-statements l = 20 * (64 - l.depth.levels) + 10

abbrev pub decreases-statement : goal.decreases-statement
decreases-statement l = 20 * (64 - l.depth.levels) + 9

abbrev pub decreases-worded : goal.decreases-worded
decreases-worded l = 20 * (64 - l.depth.levels) + 8

abbrev pub decreases-if_statement : goal.decreases-if_statement
decreases-if_statement l = 20 * (64 - l.depth.levels) + 7

abbrev pub decreases-while_statement : goal.decreases-while_statement
decreases-while_statement l = 20 * (64 - l.depth.levels) + 7

abbrev pub decreases-for_statement : goal.decreases-for_statement
decreases-for_statement l = 20 * (64 - l.depth.levels) + 7

abbrev pub decreases-elifs : goal.decreases-elifs
decreases-elifs l = 20 * (64 - l.depth.levels) + 6

abbrev pub decreases-arm : goal.decreases-arm
decreases-arm l = 20 * (64 - l.depth.levels) + 5

abbrev pub decreases-otherwise : goal.decreases-otherwise
decreases-otherwise l = 20 * (64 - l.depth.levels) + 5

abbrev pub decreases-guarded_block : goal.decreases-guarded_block
decreases-guarded_block l = 20 * (64 - l.depth.levels) + 4

-- its statements are one level further in
abbrev pub decreases-block : goal.decreases-block
decreases-block l = 20 * (64 - l.depth.levels) + 3

-- the arms so far
abbrev pub invariant-elifs-loop-place : goal.invariant-elifs-loop-place
invariant-elifs-loop-place l =
    (l.arms < length (arena_nodes l.self.arena))
    × Along (λ (x : AroundAt l.depth.levels). limited 64 (coming l.initial.self.feed) (more (phrase (feed_source l.initial.self.feed) (arena_nodes l.initial.self.arena) l.initial.arms).arms x.body))
    (λ x. limited 64 (coming l.self.feed) (more (phrase (feed_source l.initial.self.feed) (arena_nodes l.self.arena) l.arms).arms x.body)) l.initial.self.feed l.initial.self.arena l.self.feed l.self.arena

abbrev pub decreases-elifs-loop-place : goal.decreases-elifs-loop-place
decreases-elifs-loop-place l = length (coming l.self.feed)

-- the statements so far
abbrev pub invariant-statements-loop-close : goal.invariant-statements-loop-close
invariant-statements-loop-close l =
    (l.before < length (arena_nodes l.self.arena))
    × Filled (phrase (feed_source l.initial.self.feed) (arena_nodes l.self.arena) l.before).stmts
    × Along (λ (x : Sequel l.close l.depth.levels). limited 64 (coming l.initial.self.feed) (start (x.body (phrase (feed_source l.initial.self.feed) (arena_nodes l.initial.self.arena) l.initial.before).stmts)))
    (λ x. limited 64 (coming l.self.feed) (start (x.body (phrase (feed_source l.initial.self.feed) (arena_nodes l.self.arena) l.before).stmts))) l.initial.self.feed l.initial.self.arena l.self.feed l.self.arena

abbrev pub decreases-statements-loop-close : goal.decreases-statements-loop-close
decreases-statements-loop-close l = length (coming l.self.feed)
