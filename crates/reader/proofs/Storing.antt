-- What a node that was just stored stands for, and what the reader keeps.
use Rattle.std.proofs.Common.{◌≡◌, ℕ, ◌<◌, ◌≤◌, List, [], ◌∷◌, ◌++◌, length, sym, refl, ap, ◌∙◌, append_assoc, arith, length-append}
use Rattle.std.proofs.lemmas.List.{append-nil}
use Rattle.arena.specs.declared.arenas.Arena.{Arena}
use Rattle.arena.specs.declared.nodes.Node.{Node}
use Rattle.arena.specs.Tables.{arena_nodes}
use Rattle.arena.specs.Trees.{over, phrase}
use Rattle.arena.proofs.Growth.{trees_stand}
use Rattle.reader.specs.Feeds.{coming, feed_source}
use Rattle.reader.specs.Keeping.{Kept}
use Rattle.reader.specs.declared.feeds.Feed.{Feed}

-- a node stored behind some others
pub record Stored (src : List ℕ) (ns ns' : List Node) (node : Node) (i : ℕ) : Type 0 where
  pub here : i < length ns'
  pub stands : phrase src ns' i ≡ over src (phrase src ns) node

pub stored : (src : List ℕ) (ns ns' : List Node) (node : Node) (i : ℕ) → i ≡ length ns → ns' ≡ ns ++ (node ∷ []) → Stored src ns ns' node i
stored src ns ns' node i e f = record {
  here = let l = ap length f ∙ length-append ns (node ∷ []) in omega arith;
  stands = ap (λ x. phrase src x i) f ∙ ap (phrase src (ns ++ (node ∷ []))) e ∙ trees_stand.new src ns node;
}

-- an earlier node stands for what it stood for
pub stays : (src : List ℕ) (ns ns' more : List Node) (i : ℕ) → i < length ns → ns' ≡ ns ++ more → phrase src ns' i ≡ phrase src ns i
stays src ns ns' more i l e = ap (λ x. phrase src x i) e ∙ trees_stand.stays src ns more i l

-- nothing changed
pub kept_all : (f : Feed) (n : Arena) → Kept f n f n
kept_all f n = record { source = refl; more = []; nodes = sym (append-nil (arena_nodes n)); limit = refl; fewer = omega arith; cost = omega arith }

-- one after the other
pub kept_then : {f g h : Feed} {n m k : Arena} → Kept f n g m → Kept g m h k → Kept f n h k
kept_then {f} {g} {h} {n} {m} {k} a b =
    let x = a.cost in
    let y = b.cost in
    let v = a.fewer in
    let w = b.fewer in
    record {
      source = b.source ∙ a.source;
      more = a.more ++ b.more;
      nodes = b.nodes ∙ ap (λ ns. ns ++ b.more) a.nodes ∙ append_assoc (arena_nodes n) a.more b.more;
      limit = b.limit ∙ a.limit;
      fewer = omega arith;
      cost = omega arith;
    }

-- some tokens were taken
pub kept_taken : {f g : Feed} (n : Arena) → feed_source g ≡ feed_source f → length (coming g) ≤ length (coming f) → Kept f n g n
kept_taken {f} {g} n s l = record { source = s; more = []; nodes = sym (append-nil (arena_nodes n)); limit = refl; fewer = omega arith; cost = omega arith }
