-- What the functions that read the body of a function, or the program, tell.
use Rattle.std.specs.Prelude.{◌≡◌, ℕ, ◌<◌, List, [], ◌∷◌, ◌++◌, length, Ok, Err, Result}
use Rattle.arena.specs.declared.arenas.Arena.{Arena}
use Rattle.arena.specs.declared.nodes.Node.{Node}
use Rattle.arena.specs.declared.nodes.Node.TheVariants.{NoDeclarations, NoStatements}
use Rattle.arena.specs.Tables.{arena_limit, arena_nodes}
use Rattle.arena.specs.Trees.{phrase}
use Rattle.grammar.specs.Tree as tree
use Rattle.grammar.specs.Tree.{Ann, Decls, Id, Params}
use Rattle.grammar.specs.Reader.{Outer, State, awaits, base, block_of, join, locals, start}
use Rattle.grammar.specs.Limits.{limited, outer_depth}
use Rattle.grammar.specs.Verdict.{Verdict, accepted}
use Rattle.reader.specs.Answers.{routine_decls, routine_stmts}
use Rattle.reader.specs.Feeds.{coming, feed_source}
use Rattle.reader.specs.Leading.{Tells}
use Rattle.reader.specs.Owners.{Owner, body_end, frame_of, owner_depth}
use Rattle.reader.specs.Stops.{stop_of}
use Rattle.reader.specs.declared.answers.Routine.{Routine}
use Rattle.reader.specs.declared.feeds.Feed.{Feed}
use Rattle.reader.specs.declared.items.Item.{Item}
use Rattle.reader.specs.declared.items.Opening.{Opening}
use Rattle.reader.specs.declared.refusals.Stop.{Stop}

-- a body of one of some owners
pub record OwnerAt (P : Owner → Type 0) (d : ℕ) : Type 0 where
  pub owner : Owner
  pub owned : P owner
  pub deep : owner_depth owner ≡ d

-- with the declarations that it has so far
pub record DeclaredAt (P : Owner → Type 0) (d : ℕ) : Type 0 where
  pub owner : Owner
  pub owned : P owner
  pub deep : owner_depth owner ≡ d
  pub declared : Decls

-- a declaration, or the first statement
abbrev pub item_node : Item → ℕ
item_node (Item.Declaration i) = i
item_node (Item.Statement i) = i

abbrev pub past_item : {P : Owner → Type 0} {d : ℕ} → List ℕ → List Node → Item → DeclaredAt P d → State
past_item src ns (Item.Declaration i) x = start (base (frame_of x.owner (tree.decl x.declared (phrase src ns i).decl)) tree.empty)
past_item src ns (Item.Statement i) x = start (base (frame_of x.owner x.declared) (tree.then tree.empty (phrase src ns i).stmt))

abbrev pub ItemTold : (Owner → Type 0) → ℕ → Feed → Arena → Feed → Arena → Result Item Stop → Type 0
ItemTold P d f n g m r =
    Tells {X = DeclaredAt P d} 1 (λ a. item_node a < length (arena_nodes m)) (λ x. limited 64 (coming f) (start (base (frame_of x.owner x.declared) tree.empty)))
    (λ a x. limited 64 (coming g) (past_item (feed_source f) (arena_nodes m) a x)) f n g m r

-- the declarations after those of a list, and the first statement
abbrev pub OpeningTold : (Owner → Type 0) → ℕ → ℕ → Feed → Arena → Feed → Arena → Result Opening Stop → Type 0
OpeningTold P d list f n g m r =
    Tells {X = OwnerAt P d} 1 (λ a. (a.declarations < length (arena_nodes m)) × (a.statement < length (arena_nodes m))) (λ x. limited 64 (coming f) (start (base (frame_of x.owner (phrase (feed_source f) (arena_nodes n) list).decls) tree.empty)))
    (λ a x. limited 64 (coming g) (start (base (frame_of x.owner (phrase (feed_source f) (arena_nodes m) a.declarations).decls) (tree.then tree.empty (phrase (feed_source f) (arena_nodes m) a.statement).stmt)))) f n g m r

-- a whole body, to its end
abbrev pub BodyTold : (Owner → Type 0) → ℕ → Feed → Arena → Feed → Arena → Result Routine Stop → Type 0
BodyTold P d f n g m r =
    Tells {X = OwnerAt P d} 0 (λ a. (a.declarations < length (arena_nodes m)) × (a.statements < length (arena_nodes m))) (λ x. limited 64 (coming f) (start (base (frame_of x.owner tree.no_decls) tree.empty)))
    (λ a x. limited 64 (coming g) (body_end x.owner (phrase (feed_source f) (arena_nodes m) a.declarations).decls (phrase (feed_source f) (arena_nodes m) a.statements).stmts)) f n g m r

-- a function's place, name, parameters, result and where it stands
pub record FunctionOf (d : ℕ) : Type 0 where
  pub place : ℕ
  pub name : Id
  pub list : Params
  pub result : Ann
  pub outer : Outer
  pub deep : outer_depth outer ≡ d

-- a function's body with the line's end and the INDENT before it
abbrev pub FunctionBodyTold : ℕ → Feed → Arena → Feed → Arena → Result Routine Stop → Type 0
FunctionBodyTold d f n g m r =
    Tells {X = FunctionOf d} 1 (λ a. (a.declarations < length (arena_nodes m)) × (a.statements < length (arena_nodes m)))
    (λ x. limited 64 (coming f) (block_of (base (locals x.place x.name x.list x.result tree.no_decls x.outer) tree.empty)))
    (λ a x. limited 64 (coming g) (awaits (join (tree.a_func x.place x.name x.list x.result (phrase (feed_source f) (arena_nodes m) a.declarations).decls (phrase (feed_source f) (arena_nodes m) a.statements).stmts) x.outer))) f n g m r

-- a body whose lists are empty
pub record EmptyBody (m : Arena) (a : Routine) : Type 0 where
  pub declarations : a.declarations < length (arena_nodes m)
  pub statements : a.statements < length (arena_nodes m)
  pub none : (src : List ℕ) → (phrase src (arena_nodes m) a.declarations).decls ≡ tree.no_decls
  pub nothing : (src : List ℕ) → (phrase src (arena_nodes m) a.statements).stmts ≡ tree.empty

-- its two nodes were stored
pub record Emptied (n m : Arena) (a : Routine) : Type 0 where
  pub empty : EmptyBody m a
  pub nodes : arena_nodes m ≡ arena_nodes n ++ (NoDeclarations ∷ NoStatements ∷ [])
  pub limit : arena_limit m ≡ arena_limit n

-- what was read, as a verdict
abbrev pub verdict_of : List ℕ → List Node → Result Routine Stop → Verdict
verdict_of src ns (Ok a) = accepted (routine_decls src ns a) (routine_stmts src ns a)
verdict_of src ns (Err e) = stop_of e
