-- What the functions that read classes tell.
use Rattle.std.specs.Prelude.{ℕ, ◌<◌, [], ◌∷◌, length, Result}
use Rattle.arena.specs.declared.arenas.Arena.{Arena}
use Rattle.arena.specs.Tables.{arena_nodes}
use Rattle.arena.specs.Trees.{named, phrase}
use Rattle.grammar.specs.Tree as tree
use Rattle.grammar.specs.Tree.{Decls, Id}
use Rattle.grammar.specs.Reader.{base, for_class, inner, main, naming, seq, start}
use Rattle.grammar.specs.Limits.{limited}
use Rattle.reader.specs.Feeds.{coming, feed_source}
use Rattle.reader.specs.Leading.{Takes, Tells}
use Rattle.reader.specs.declared.classes.ClassNames.{ClassNames}
use Rattle.reader.specs.declared.feeds.Feed.{Feed}
use Rattle.reader.specs.declared.refusals.Stop.{Stop}

-- a class's place and names, and the declarations before it
pub record ClassAt : Type 0 where
  pub place : ℕ
  pub name : Id
  pub super : Id
  pub others : Decls

-- a class with the members before this one
pub record MemberAt : Type 0 where
  pub place : ℕ
  pub name : Id
  pub super : Id
  pub others : Decls
  pub members : Decls

-- the names of a class, past the `class` at p
abbrev pub NamesTold : ℕ → Feed → Feed → Result ClassNames Stop → Type 0
NamesTold p f g r =
    Takes {X = Decls} 4 (λ ds. limited 64 (coming f) (naming (for_class p ds)))
    (λ a ds. limited 64 (coming g) (seq tree.colon (tree.newline ∷ tree.indent ∷ []) (inner p (named (feed_source f) a.name) (named (feed_source f) a.superclass) tree.no_decls ds))) f g r

-- one member
abbrev pub MemberTold : Feed → Arena → Feed → Arena → Result ℕ Stop → Type 0
MemberTold f n g m r =
    Tells {X = MemberAt} 1 (λ i. i < length (arena_nodes m)) (λ x. limited 64 (coming f) (inner x.place x.name x.super x.members x.others))
    (λ i x. limited 64 (coming g) (inner x.place x.name x.super (tree.decl x.members (phrase (feed_source f) (arena_nodes m) i).decl) x.others)) f n g m r

-- the members after those of a list, and the end of the class
abbrev pub MembersTold : ℕ → Feed → Arena → Feed → Arena → Result ℕ Stop → Type 0
MembersTold list f n g m r =
    Tells {X = ClassAt} 0 (λ i. i < length (arena_nodes m)) (λ x. limited 64 (coming f) (inner x.place x.name x.super (phrase (feed_source f) (arena_nodes n) list).decls x.others))
    (λ i x. limited 64 (coming g) (start (base (main (tree.decl x.others (tree.a_class x.place x.name x.super (phrase (feed_source f) (arena_nodes m) i).decls))) tree.empty))) f n g m r

-- a class, past the `class` at p
abbrev pub ClassTold : ℕ → Feed → Arena → Feed → Arena → Result ℕ Stop → Type 0
ClassTold p f n g m r =
    Tells {X = Decls} 1 (λ i. i < length (arena_nodes m)) (λ ds. limited 64 (coming f) (naming (for_class p ds)))
    (λ i ds. limited 64 (coming g) (start (base (main (tree.decl ds (phrase (feed_source f) (arena_nodes m) i).decl)) tree.empty))) f n g m r
