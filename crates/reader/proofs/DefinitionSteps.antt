-- How the definitions of functions and classes are put together.
use Rattle.std.proofs.Common.{◌≡◌, List, [], ◌∷◌, sym, refl}
use Rattle.arena.specs.Trees.{spelled}
use Rattle.arena.specs.declared.arenas.Arena.{Arena}
use Rattle.arena.specs.declared.nodes.Stretch.{Stretch}
use Rattle.grammar.specs.Tree as tree
use Rattle.grammar.specs.Tree.{Decls, Token, at}
use Rattle.grammar.specs.Reader.{Naming, State, calls, due, inner, naming, seq}
use Rattle.grammar.specs.Limits.{limited}
use Rattle.grammar.specs.Verdict.{judged}
use Rattle.reader.specs.Classes.{ClassAt}
use Rattle.reader.specs.Feeds.{coming, feed_source}
use Rattle.reader.specs.Kinds.{mark_of}
use Rattle.reader.specs.Stops.{stop_of}
use Rattle.reader.specs.Taking.{NoMark, NoName}
use Rattle.reader.specs.declared.feeds.Feed.{Feed}
use Rattle.reader.specs.declared.kinds.Mark.{Mark}
use Rattle.reader.specs.declared.refusals.Stop.{Stop}
use Rattle.reader.proofs.Leading.{Along, stepped}
use Rattle.reader.proofs.Refusing.{no_mark_here, refused_here}
use Rattle.reader.proofs.Steps.{Passed}

-- a name that must come was passed
pub named_on : {X : Type 0} {f g : Feed} (n : Arena) (name : Stretch) (k : X → Naming) → Passed (at (tree.name (spelled (feed_source f) name)) name.at) f g
    → Along (λ x. limited 64 (coming f) (naming (k x))) (λ x. limited 64 (coming g) (calls (k x) name.at (spelled (feed_source f) name))) f n g n
named_on {f = f} n name k p = stepped n (λ x. naming (k x)) (λ x. calls (k x) name.at (spelled (feed_source f) name)) p (λ x. refl)

-- no name comes where one must
pub no_name : (k : Naming) (ts : List Token) (e : Stop) → NoName ts e → judged (limited 64 ts (naming k)) ≡ stop_of e
no_name k [] e h = sym h
no_name k (t ∷ ts) e h = refused_here t ts (t ∷ ts) (naming k) e refl (h.0 (calls k)) h.1

-- the mark that must come is not there
pub no_seq : (m : Mark) (ms : List tree.Mark) (s : State) (ts : List Token) (e : Stop) → NoMark m ts e → judged (limited 64 ts (seq (mark_of m) ms s)) ≡ stop_of e
no_seq m ms s ts e = no_mark_here m (λ q. due ms s) (seq (mark_of m) ms s) ts e refl (λ t h. h)

-- a class with the members that it has so far
abbrev pub members_of : Decls → ClassAt → State
members_of ds x = inner x.place x.name x.super ds x.others
