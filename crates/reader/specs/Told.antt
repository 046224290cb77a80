-- What the functions of the reader tell: the limited machine of the grammar, whatever the phrase is for, goes on alike, or
-- comes to the same refusal.
use Rattle.std.specs.Prelude.{◌≡◌, ℕ, ◌+◌, ◌*◌, ◌<◌, ◌≤◌, List, [], ◌∷◌, ◌++◌, length, slice_get, Some, Ok, Err, Result}
use Rattle.std.proofs.Math.Option.{none}
use Rattle.arena.specs.declared.arenas.Arena.{Arena}
use Rattle.arena.specs.declared.nodes.Node.{Node}
use Rattle.arena.specs.declared.nodes.Stretch.{Stretch}
use Rattle.arena.specs.Tables.{arena_limit, arena_nodes}
use Rattle.arena.specs.Trees.{phrase}
use Rattle.grammar.specs.Tree as tree
use Rattle.grammar.specs.Tree.{Expr, Token}
use Rattle.grammar.specs.Reader.{Hole, State, asks, grows, have}
use Rattle.grammar.specs.Limits.{hole_depth, limited}
use Rattle.grammar.specs.Verdict.{judged}
use Rattle.reader.specs.Feeds.{coming, feed_source}
use Rattle.reader.specs.Forms.{form_of}
use Rattle.reader.specs.Keeping.{Kept}
use Rattle.reader.specs.Stops.{stop_of}
use Rattle.reader.specs.declared.feeds.Feed.{Feed}
use Rattle.reader.specs.declared.forms.Form.{Form}
use Rattle.reader.specs.declared.forms.Read.{Read}
use Rattle.reader.specs.declared.refusals.Stop.{Stop}

-- nothing goes on with the expression
abbrev pub Stuck : ℕ → tree.Form → Expr → Hole → List Token → Type 0
Stuck i f e h [] = Unit {0}
Stuck i f e h (t ∷ ts) = grows i f e h t ≡ none

-- the expression that was read
abbrev pub read_expr : List ℕ → List Node → Read → Expr
read_expr src ns r = (phrase src ns r.node).expr

abbrev pub having : List ℕ → List Node → Read → Hole → State
having src ns r h = have r.place (form_of r.form (read_expr src ns r)) (read_expr src ns r) h

-- a hole that asks so much, with so many levels open
pub record Spot (a d : ℕ) (h : Hole) : Type 0 where
  pub asked : asks h ≡ a
  pub deep : hole_depth h ≡ d

abbrev pub Deep : ℕ → Hole → Type 0
Deep d h = hole_depth h ≡ d

-- a hole for which an operator of this level may go on
pub record Loose (l d : ℕ) (h : Hole) : Type 0 where
  pub asked : asks h ≤ l
  pub deep : hole_depth h ≡ d

-- a name at the place p is the node of a variable there
abbrev pub NamedAt : List Node → Form → ℕ → ℕ → Type 0
NamedAt ns Form.Named p i = (s : Stretch) × ((s.at ≡ p) × (slice_get ns i ≡ Some (Node.Variable s)))
NamedAt ns Form.Member p i = Unit {0}
NamedAt ns Form.Indexed p i = Unit {0}
NamedAt ns Form.Closed p i = Unit {0}
NamedAt ns (Form.Binary r) p i = Unit {0}
NamedAt ns (Form.Prefix o) p i = Unit {0}

abbrev pub NamedBy : List Node → Read → Type 0
NamedBy ns r = NamedAt ns r.form r.place r.node

-- an expression was read: from one state, the machine comes to have it; a node more than before fits
pub record Went (P : Hole → Type 0) (s : Hole → State) (src : List ℕ) (k : ℕ) (ns : List Node) (ts us : List Token) (r : Read) : Type 0 where
  pub stored : r.node < length ns
  pub some : length us < length ts
  pub spare : length ns + 1 + 4 * length us ≤ k + 4 * length ts
  pub named : NamedBy ns r
  pub goes : (h : Hole) → P h → limited 64 ts (s h) ≡ limited 64 us (having src ns r h)

-- or not
abbrev pub Goes : (Hole → Type 0) → (Hole → State) → List ℕ → ℕ → List Node → List Token → List Token → Result Read Stop → Type 0
Goes P s src k ns ts us (Ok r) = Went P s src k ns ts us r
Goes P s src k ns ts us (Err e) = (h : Hole) → P h → judged (limited 64 ts (s h)) ≡ stop_of e

-- what a function tells that reads in a hole of which P holds, from the state s
pub record Told (P : Hole → Type 0) (s : Hole → State) (f : Feed) (n : Arena) (f' : Feed) (n' : Arena) (r : Result Read Stop) : Type 0 where
  pub kept : Kept f n f' n'
  pub goes : Goes P s (feed_source f) (length (arena_nodes n)) (arena_nodes n') (coming f) (coming f') r

-- and nothing goes on with it
abbrev pub Ends : List ℕ → List Node → ℕ → ℕ → List Token → Result Read Stop → Type 0
Ends src ns a d us (Ok r) = (h : Hole) → Spot a d h → Stuck r.place (form_of r.form (read_expr src ns r)) (read_expr src ns r) h us
Ends src ns a d us (Err e) = Unit {0}

-- a node was stored for an expression
pub record Made (n : Arena) (n' : Arena) (p : ℕ) (f : Form) (node : Node) (r : Read) : Type 0 where
  pub nodes : arena_nodes n' ≡ arena_nodes n ++ (node ∷ [])
  pub limit : arena_limit n' ≡ arena_limit n
  pub result : r ≡ record { place = p; form = f; node = length (arena_nodes n) }
