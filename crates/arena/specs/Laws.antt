-- How the trees of a table hang together.
use Rattle.std.specs.Prelude.{◌≡◌, ℕ, ◌<◌, true, List, [], ◌∷◌, ◌++◌, length, slice_get, Some}
use Rattle.arena.specs.declared.nodes.Node.{Node}
use Rattle.arena.specs.Order.{ordered}
use Rattle.arena.specs.Trees.{over, phrase}

pub record TreesStand : Type 0 where
  -- what a node stands for stays as the table grows
  pub stays : (src : List ℕ) (ns ms : List Node) (i : ℕ) → i < length ns → phrase src (ns ++ ms) i ≡ phrase src ns i
  -- a new node stands for what it makes of its children
  pub new : (src : List ℕ) (ns : List Node) (n : Node) → phrase src (ns ++ (n ∷ [])) (length ns) ≡ over src (phrase src ns) n
  -- and so does every node of a table whose children stand before their parents
  pub unfolds : (src : List ℕ) (ns : List Node) (i : ℕ) (n : Node) → ordered 0 ns ≡ true → slice_get ns i ≡ Some n → phrase src ns i ≡ over src (phrase src ns) n
