-- Whose body it is that declarations and statements stand in.
use Rattle.std.specs.Prelude.{ℕ, suc}
use Rattle.grammar.specs.Tree as tree
use Rattle.grammar.specs.Tree.{Ann, Decls, Id, Mark, Params, Stmts}
use Rattle.grammar.specs.Reader.{Frame, Outer, State, awaits, done, join, locals, main}
use Rattle.grammar.specs.Limits.{outer_depth}

-- the program, or a function by its place, name, parameters, result and where it stands
pub data Owner : Type 0 where
  program : Owner
  function : ℕ → Id → Params → Ann → Outer → Owner

abbrev pub IsProgram : Owner → Type 0
IsProgram program = Unit {0}
IsProgram (function p n ps a o) = ⊥

abbrev pub IsFunction : Owner → Type 0
IsFunction program = ⊥
IsFunction (function p n ps a o) = Unit {0}

abbrev pub owner_depth : Owner → ℕ
owner_depth program = 0
owner_depth (function p n ps a o) = suc (outer_depth o)

abbrev pub frame_of : Owner → Decls → Frame
frame_of program ds = main ds
frame_of (function p n ps a o) ds = locals p n ps a ds o

-- the mark that ends the body, and what comes after it
abbrev pub body_mark : Owner → Mark
body_mark program = tree.end
body_mark (function p n ps a o) = tree.dedent

abbrev pub body_end : Owner → Decls → Stmts → State
body_end program ds ss = done ds ss
body_end (function p n ps a o) ds ss = awaits (join (tree.a_func p n ps a ds ss) o)
