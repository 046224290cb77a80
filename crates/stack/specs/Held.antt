-- The list that a stack stands for, its top first.
use Rattle.std.specs.Prelude.{ℕ, List, [], ◌∷◌, reverse, length, take, Some, None, Option}
use Rattle.stack.specs.declared.Stack.{Stack}

module _ {T : Type 0} where
  abbrev pub held : Stack T → List T
  held s = reverse (take s.len s.slots.now)

  -- how many items it can hold
  abbrev pub room : Stack T → ℕ
  room s = length s.slots.now

  abbrev pub top_of : List T → Option T
  top_of [] = None
  top_of (x ∷ xs) = Some x
