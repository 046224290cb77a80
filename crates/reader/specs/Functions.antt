-- What the functions that read definitions of functions tell.
use Rattle.std.specs.Prelude.{◌≡◌, ℕ, ◌<◌, List, [], ◌∷◌, length, Result}
use Rattle.std.proofs.Math.Option.{none}
use Rattle.arena.specs.declared.arenas.Arena.{Arena}
use Rattle.arena.specs.Tables.{arena_nodes}
use Rattle.arena.specs.Trees.{named, phrase}
use Rattle.grammar.specs.Tree as tree
use Rattle.grammar.specs.Tree.{Id, Params, Token}
use Rattle.grammar.specs.Reader.{Outer, awaits, base, block_of, for_def, for_global, for_param, join, locals, naming, of_result, on, opens, params, pick, seq, typing}
use Rattle.grammar.specs.Limits.{Reading, limited, outer_depth, proceeds, unfinished}
use Rattle.reader.specs.Definitions.{OuterAt}
use Rattle.reader.specs.Feeds.{coming, feed_source}
use Rattle.reader.specs.Leading.{Tells}
use Rattle.reader.specs.Parameters.{Header}
use Rattle.reader.specs.declared.feeds.Feed.{Feed}
use Rattle.reader.specs.declared.functions.Heading.{Heading}
use Rattle.reader.specs.declared.refusals.Stop.{Stop}

-- past a parameter, the last of ps: a comma, or the list ends
abbrev pub past_param : {d : ℕ} → List Token → Params → Header d → Reading
past_param [] ps x = unfinished
past_param (t ∷ ts) ps x =
    proceeds (limited 64 ts) none t ts
    (pick (on tree.comma (λ i. naming (for_param x.place x.name ps x.outer)) ∷ on tree.rparen (λ i. seq tree.arrow [] (typing (of_result x.place x.name ps x.outer))) ∷ []) t)

-- one parameter more
abbrev pub MoreParametersTold : ℕ → ℕ → Feed → Arena → Feed → Arena → Result ℕ Stop → Type 0
MoreParametersTold d list f n g m r =
    Tells {X = Header d} 0 (λ i. i < length (arena_nodes m)) (λ x. limited 64 (coming f) (naming (for_param x.place x.name (phrase (feed_source f) (arena_nodes n) list).params x.outer)))
    (λ i x. past_param (coming g) (phrase (feed_source f) (arena_nodes m) i).params x) f n g m r

-- one parameter or more, and the parenthesis that closes their list
abbrev pub SomeParametersTold : ℕ → ℕ → Feed → Arena → Feed → Arena → Result ℕ Stop → Type 0
SomeParametersTold d list f n g m r =
    Tells {X = Header d} 0 (λ i. i < length (arena_nodes m)) (λ x. limited 64 (coming f) (naming (for_param x.place x.name (phrase (feed_source f) (arena_nodes n) list).params x.outer)))
    (λ i x. limited 64 (coming g) (seq tree.arrow [] (typing (of_result x.place x.name (phrase (feed_source f) (arena_nodes m) i).params x.outer)))) f n g m r

-- a function's place and name, and where it stands
pub record FunctionAt (d : ℕ) : Type 0 where
  pub place : ℕ
  pub name : Id
  pub outer : Outer
  pub deep : outer_depth outer ≡ d

-- the list of parameters with its parentheses
abbrev pub ParametersTold : ℕ → Feed → Arena → Feed → Arena → Result ℕ Stop → Type 0
ParametersTold d f n g m r =
    Tells {X = FunctionAt d} 1 (λ i. i < length (arena_nodes m)) (λ x. limited 64 (coming f) (opens (params x.place x.name x.outer)))
    (λ i x. limited 64 (coming g) (seq tree.arrow [] (typing (of_result x.place x.name (phrase (feed_source f) (arena_nodes m) i).params x.outer)))) f n g m r

-- a function's name and parameters, past the `def` at p
abbrev pub HeadingTold : ℕ → ℕ → Feed → Arena → Feed → Arena → Result Heading Stop → Type 0
HeadingTold d p f n g m r =
    Tells {X = OuterAt d} 1 (λ h. h.parameters < length (arena_nodes m)) (λ x. limited 64 (coming f) (naming (for_def p x.outer)))
    (λ h x. limited 64 (coming g) (seq tree.arrow [] (typing (of_result p (named (feed_source f) h.name) (phrase (feed_source f) (arena_nodes m) h.parameters).params x.outer)))) f n g m r

-- a function with its parameters, and where it stands
pub record SignedAt (d : ℕ) : Type 0 where
  pub place : ℕ
  pub name : Id
  pub list : Params
  pub outer : Outer
  pub deep : outer_depth outer ≡ d

-- a function's result
abbrev pub ResultTold : ℕ → Feed → Arena → Feed → Arena → Result ℕ Stop → Type 0
ResultTold d f n g m r =
    Tells {X = SignedAt d} 4 (λ i. i < length (arena_nodes m)) (λ x. limited 64 (coming f) (seq tree.arrow [] (typing (of_result x.place x.name x.list x.outer))))
    (λ i x. limited 64 (coming g) (block_of (base (locals x.place x.name x.list (phrase (feed_source f) (arena_nodes m) i).ann tree.no_decls x.outer) tree.empty))) f n g m r

-- a function, past the `def` at p
abbrev pub FunctionTold : ℕ → ℕ → Feed → Arena → Feed → Arena → Result ℕ Stop → Type 0
FunctionTold d p f n g m r =
    Tells {X = OuterAt d} 1 (λ i. i < length (arena_nodes m)) (λ x. limited 64 (coming f) (naming (for_def p x.outer)))
    (λ i x. limited 64 (coming g) (awaits (join (phrase (feed_source f) (arena_nodes m) i).decl x.outer))) f n g m r

-- a name of the global scope, past the `global` at p
abbrev pub GlobalTold : ℕ → ℕ → Feed → Arena → Feed → Arena → Result ℕ Stop → Type 0
GlobalTold d p f n g m r =
    Tells {X = OuterAt d} 1 (λ i. i < length (arena_nodes m)) (λ x. limited 64 (coming f) (naming (for_global p x.outer)))
    (λ i x. limited 64 (coming g) (awaits (join (phrase (feed_source f) (arena_nodes m) i).decl x.outer))) f n g m r
