-- What every function of the reader keeps: the source, the nodes stored so far, and the table's room.
use Rattle.std.specs.Prelude.{◌≡◌, ◌+◌, ◌*◌, ◌≤◌, List, ◌++◌, length}
use Rattle.arena.specs.declared.arenas.Arena.{Arena}
use Rattle.arena.specs.declared.nodes.Node.{Node}
use Rattle.arena.specs.Tables.{arena_limit, arena_nodes}
use Rattle.reader.specs.Feeds.{coming, feed_source}
use Rattle.reader.specs.declared.feeds.Feed.{Feed}

-- the table keeps what it has, and each token costs four nodes at most
pub record Kept (f : Feed) (n : Arena) (f' : Feed) (n' : Arena) : Type 0 where
  pub source : feed_source f' ≡ feed_source f
  pub more : List Node
  pub nodes : arena_nodes n' ≡ arena_nodes n ++ more
  pub limit : arena_limit n' ≡ arena_limit n
  pub fewer : length (coming f') ≤ length (coming f)
  pub cost : length (arena_nodes n') + 4 * length (coming f') ≤ length (arena_nodes n) + 4 * length (coming f)

-- the table has room for all that the tokens may cost
abbrev pub Room : Feed → Arena → Type 0
Room f n = length (arena_nodes n) + 4 * length (coming f) ≤ arena_limit n
