use Rattle.std.proofs.Common.{◌<◌, length}
use Rattle.arena.specs.Tables.{arena_nodes}
use Rattle.arena.specs.Trees.{phrase}
use Rattle.grammar.specs.Reader.{inner}
use Rattle.grammar.specs.Limits.{limited}
use Rattle.reader.specs.Classes.{ClassAt}
use Rattle.reader.specs.Feeds.{coming, feed_source}
use Rattle.reader.proofs.Leading.{Along}
use Rattle.reader.proofs.parsers.Parser.class_members.Given as goal

-- the members so far
abbrev pub invariant-loop-self : goal.invariant-loop-self
invariant-loop-self l =
    (l.before < length (arena_nodes l.self.arena))
    × Along (λ (x : ClassAt). limited 64 (coming l.initial.self.feed) (inner x.place x.name x.super (phrase (feed_source l.initial.self.feed) (arena_nodes l.initial.self.arena) l.initial.before).decls x.others))
    (λ x. limited 64 (coming l.self.feed) (inner x.place x.name x.super (phrase (feed_source l.initial.self.feed) (arena_nodes l.self.arena) l.before).decls x.others)) l.initial.self.feed l.initial.self.arena l.self.feed l.self.arena

abbrev pub decreases-loop-self : goal.decreases-loop-self
decreases-loop-self l = length (coming l.self.feed)
