-- What is told of lists of expressions in brackets, whatever the list is for.
use Rattle.std.specs.Prelude.{◌≡◌, ℕ, suc, ◌<◌, List, [], ◌∷◌, length, Ok, Err, Result}
use Rattle.arena.specs.declared.arenas.Arena.{Arena}
use Rattle.arena.specs.declared.nodes.Node.{Node}
use Rattle.arena.specs.Tables.{arena_nodes}
use Rattle.arena.specs.Trees.{phrase}
use Rattle.grammar.specs.Tree as tree
use Rattle.grammar.specs.Tree.{Exprs, Token, at}
use Rattle.grammar.specs.Reader.{Group, Hole, build, closer, from, group, have, on, pick, want}
use Rattle.grammar.specs.Limits.{Reading, exceeds, hole_depth, label, limited, no_label, proceeds, unfinished}
use Rattle.grammar.specs.Profile.{plain}
use Rattle.grammar.specs.Verdict.{judged}
use Rattle.reader.specs.Feeds.{feed_source}
use Rattle.reader.specs.Kinds.{mark_of}
use Rattle.reader.specs.Keeping.{Kept}
use Rattle.reader.specs.Stops.{stop_of}
use Rattle.reader.specs.declared.feeds.Feed.{Feed}
use Rattle.reader.specs.declared.kinds.Mark.{Mark}
use Rattle.reader.specs.declared.refusals.Stop.{Stop}

-- a list that this mark closes, among so many levels, its own with them
pub record Closed (m : Mark) (d : ℕ) (g : Group) (h : Hole) : Type 0 where
  pub mark : closer g ≡ mark_of m
  pub deep : suc (hole_depth h) ≡ d

-- a list among so many levels, its own with them
pub record Within (d : ℕ) (g : Group) (h : Hole) : Type 0 where
  pub deep : suc (hole_depth h) ≡ d

-- after an element: a comma, or the list ends
abbrev pub between : List Token → Exprs → Group → Hole → Reading
between [] es g h = unfinished
between (t ∷ ts) es g h =
    proceeds (limited 64 ts) (exceeds 64 (label (suc (hole_depth h)) plain no_label t)) t ts
    (pick (on tree.comma (λ q. want (group g es h)) ∷ on (closer g) (λ q. have (from g) tree.closed (build g es) h) ∷ []) t)

-- after the list
abbrev pub closed_list : List Token → Exprs → Group → Hole → Reading
closed_list ts es g h = limited 64 ts (have (from g) tree.closed (build g es) h)

abbrev pub in_list : List Token → Exprs → Group → Hole → Reading
in_list ts es g h = limited 64 ts (want (group g es h))

-- a list was read, from one reading to another
pub record WentList (P : Group → Hole → Type 0) (o : Group → Hole → Reading) (w : Exprs → Group → Hole → Reading) (src : List ℕ) (ns : List Node) (i : ℕ) : Type 0 where
  pub stored : i < length ns
  pub goes : (g : Group) (h : Hole) → P g h → o g h ≡ w (phrase src ns i).exprs g h

abbrev pub GoesList : (Group → Hole → Type 0) → (Group → Hole → Reading) → (Exprs → Group → Hole → Reading) → List ℕ → List Node → Result ℕ Stop → Type 0
GoesList P o w src ns (Ok i) = WentList P o w src ns i
GoesList P o w src ns (Err y) = (g : Group) (h : Hole) → P g h → judged (o g h) ≡ stop_of y

pub record ToldList (P : Group → Hole → Type 0) (o : Group → Hole → Reading) (w : Exprs → Group → Hole → Reading) (f : Feed) (n : Arena) (f' : Feed) (n' : Arena) (r : Result ℕ Stop) : Type 0 where
  pub kept : Kept f n f' n'
  pub goes : GoesList P o w (feed_source f) (arena_nodes n') r
