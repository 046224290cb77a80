-- What a table of nodes holds, and what storing one more answers and leaves.
use Rattle.std.specs.Prelude.{ℕ, cond, List, [], ◌∷◌, ◌++◌, length, Ok, Err, vec_items, Result, nat_lt}
use Rattle.arena.specs.declared.arenas.Arena.{Arena}
use Rattle.arena.specs.declared.growing.ArenaError.{ArenaError}
use Rattle.arena.specs.declared.growing.ArenaError.TheVariants.{Full, LaterChild}
use Rattle.arena.specs.declared.nodes.Node.{Node}
use Rattle.arena.specs.Order.{before}

abbrev pub arena_nodes : Arena → List Node
arena_nodes a = vec_items a.nodes

-- how many nodes it takes in all
abbrev pub arena_limit : Arena → ℕ
arena_limit a = a.limit

-- the answer, and the nodes after
pub record Pushed : Type 0 where
  pub result : Result ℕ ArenaError
  pub nodes : List Node

abbrev pub pushed : Arena → Node → Pushed
pushed a n =
    cond (nat_lt (length (arena_nodes a)) (arena_limit a))
    (cond (before (length (arena_nodes a)) n)
    (record { result = Ok (length (arena_nodes a)); nodes = arena_nodes a ++ (n ∷ []) })
    (record { result = Err LaterChild; nodes = arena_nodes a }))
    (record { result = Err Full; nodes = arena_nodes a })
