-- What the functions that read statements tell.
use Rattle.std.specs.Prelude.{ℕ, ◌<◌, [], ◌∷◌, length, Result}
use Rattle.arena.specs.declared.arenas.Arena.{Arena}
use Rattle.arena.specs.Tables.{arena_nodes}
use Rattle.arena.specs.Trees.{phrase}
use Rattle.grammar.specs.Tree as tree
use Rattle.grammar.specs.Tree.{Stmts}
use Rattle.grammar.specs.Reader.{add, arm_test, line, more, seq, start, want}
use Rattle.grammar.specs.Limits.{limited}
use Rattle.reader.specs.Feeds.{coming, feed_source}
use Rattle.reader.specs.Forms.{form_of}
use Rattle.reader.specs.Leading.{Tells}
use Rattle.reader.specs.Places.{AroundAt, ArmsAt, BodyAt, LineAt, NestAt, Sequel, SettledAt, TestAt, nest_body, nest_end, nest_of, test_hole}
use Rattle.reader.specs.Told.{having, read_expr}
use Rattle.reader.specs.declared.feeds.Feed.{Feed}
use Rattle.reader.specs.declared.forms.Read.{Read}
use Rattle.reader.specs.declared.kinds.Mark.{Mark}
use Rattle.reader.specs.declared.refusals.Stop.{Stop}
use Rattle.reader.specs.declared.statements.Guarded.{Guarded}

-- a statement that begins with a word; and any
abbrev pub WordedTold : ℕ → Feed → Arena → Feed → Arena → Result ℕ Stop → Type 0
WordedTold d f n g m r =
    Tells {X = BodyAt d (coming f)} 2 (λ i. i < length (arena_nodes m)) (λ x. limited 64 (coming f) (start x.body)) (λ i x. limited 64 (coming g) (start (add (phrase (feed_source f) (arena_nodes m) i).stmt x.body))) f n g m r

abbrev pub StatementTold : ℕ → Feed → Arena → Feed → Arena → Result ℕ Stop → Type 0
StatementTold d f n g m r =
    Tells {X = SettledAt d (coming f)} 2 (λ i. i < length (arena_nodes m)) (λ x. limited 64 (coming f) (start x.body)) (λ i x. limited 64 (coming g) (start (add (phrase (feed_source f) (arena_nodes m) i).stmt x.body))) f n g m r

-- what goes on with the first expression of a line, to its end; the line begins at the place p, and no target comes before
abbrev pub AssignmentTold : ℕ → ℕ → Read → Feed → Arena → Feed → Arena → Result ℕ Stop → Type 0
AssignmentTold d p x f n g m r =
    Tells {X = LineAt d x.place (form_of x.form (read_expr (feed_source f) (arena_nodes n) x)) (coming f)} 2 (λ i. i < length (arena_nodes m)) (λ b. limited 64 (coming f) (having (feed_source f) (arena_nodes n) x (line p tree.nil b.body)))
    (λ i b. limited 64 (coming g) (start (add (phrase (feed_source f) (arena_nodes m) i).stmt b.body))) f n g m r

-- an expression, a colon and a block
abbrev pub GuardedTold : ℕ → Feed → Arena → Feed → Arena → Result Guarded Stop → Type 0
GuardedTold d f n g m r =
    Tells {X = TestAt d} 8 (λ a. (a.condition < length (arena_nodes m)) × (a.body < length (arena_nodes m))) (λ x. limited 64 (coming f) (want (test_hole x.test x.body)))
    (λ a x. limited 64 (coming g) (nest_end (nest_of x.test (phrase (feed_source f) (arena_nodes m) a.condition).expr) (phrase (feed_source f) (arena_nodes m) a.body).stmts x.body)) f n g m r

-- a block, past the colon
abbrev pub BlockTold : ℕ → Feed → Arena → Feed → Arena → Result ℕ Stop → Type 0
BlockTold d f n g m r =
    Tells {X = NestAt d} 4 (λ i. i < length (arena_nodes m)) (λ x. limited 64 (coming f) (seq tree.newline (tree.indent ∷ []) (start (nest_body x.nest tree.empty x.body))))
    (λ i x. limited 64 (coming g) (nest_end x.nest (phrase (feed_source f) (arena_nodes m) i).stmts x.body)) f n g m r

-- one statement at least
abbrev pub Filled : Stmts → Type 0
Filled tree.empty = ⊥
Filled (tree.then ss s) = Unit {0}

-- the statements after those of a list, to the mark that ends them
abbrev pub StatementsTold : Mark → ℕ → ℕ → Feed → Arena → Feed → Arena → Result ℕ Stop → Type 0
StatementsTold close d list f n g m r =
    Tells {X = Sequel close d} 0 (λ i. i < length (arena_nodes m)) (λ x. limited 64 (coming f) (start (x.body (phrase (feed_source f) (arena_nodes n) list).stmts)))
    (λ i x. limited 64 (coming g) (x.end (phrase (feed_source f) (arena_nodes m) i).stmts)) f n g m r

-- one arm more, past its word; the arms after that; the block after `else`, or none
abbrev pub ArmTold : ℕ → ℕ → ℕ → Feed → Arena → Feed → Arena → Result ℕ Stop → Type 0
ArmTold d before p f n g m r =
    Tells {X = AroundAt d} 7 (λ i. i < length (arena_nodes m)) (λ x. limited 64 (coming f) (want (arm_test (phrase (feed_source f) (arena_nodes n) before).arms p x.body)))
    (λ i x. limited 64 (coming g) (more (phrase (feed_source f) (arena_nodes m) i).arms x.body)) f n g m r

abbrev pub ArmsTold : ℕ → ℕ → Feed → Arena → Feed → Arena → Result ℕ Stop → Type 0
ArmsTold d list f n g m r =
    Tells {X = AroundAt d} 0 (λ i. i < length (arena_nodes m)) (λ x. limited 64 (coming f) (more (phrase (feed_source f) (arena_nodes n) list).arms x.body))
    (λ i x. limited 64 (coming g) (more (phrase (feed_source f) (arena_nodes m) i).arms x.body)) f n g m r

abbrev pub OtherwiseTold : ℕ → Feed → Arena → Feed → Arena → Result ℕ Stop → Type 0
OtherwiseTold d f n g m r =
    Tells {X = ArmsAt d} 0 (λ i. i < length (arena_nodes m)) (λ x. limited 64 (coming f) (more x.ways x.body))
    (λ i x. limited 64 (coming g) (start (add (tree.choose x.ways (phrase (feed_source f) (arena_nodes m) i).stmts) x.body))) f n g m r
