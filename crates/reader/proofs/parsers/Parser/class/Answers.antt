use Rattle.std.proofs.Common.{◌≡◌, ℕ, List, [], ◌∷◌, ◌++◌, length, Ok, sym, refl, ap, ◌∙◌, arith, length-append}
use Rattle.arena.specs.Tables.{arena_limit, arena_nodes}
use Rattle.arena.specs.Trees.{Phrase, named, phrase}
use Rattle.arena.specs.declared.arenas.Arena.{Arena}
use Rattle.arena.specs.declared.nodes.Node.{Node}
use Rattle.grammar.specs.Tree as tree
use Rattle.grammar.specs.Tree.{Decls, at}
use Rattle.grammar.specs.Reader.{State, base, for_class, main, naming, seq, start}
use Rattle.grammar.specs.Limits.{limited}
use Rattle.reader.specs.Classes.{ClassAt, NamesTold}
use Rattle.reader.specs.Feeds.{coming, feed_source}
use Rattle.reader.specs.Levels.{IndentedTold}
use Rattle.reader.specs.Places.{Inward}
use Rattle.reader.specs.declared.classes.ClassNames.{ClassNames}
use Rattle.reader.specs.declared.depths.Depth.{Depth}
use Rattle.reader.specs.declared.feeds.Feed.{Feed}
use Rattle.reader.proofs.DefinitionSteps.{members_of}
use Rattle.reader.proofs.Leading.{Along, along, along_as, along_stored, got, led, stepped, stopped_behind, told_stored}
use Rattle.reader.proofs.Steps.{Passed, passed_long}
use Rattle.reader.proofs.Storing.{kept_taken, stored}
use Rattle.reader.proofs.parsers.Parser.class.Goals as goal

-- a class with its names and the declarations before it
abbrev named_class : List ℕ → ℕ → ClassNames → Decls → ClassAt
named_class src p a ds = record { place = p; name = named src a.name; super = named src a.superclass; others = ds }

abbrev inside : List ℕ → ℕ → ClassNames → Decls → Inward 0
inside src p a ds = record { state = members_of tree.no_decls (named_class src p a ds); deep = refl }

-- the names and the colon
headed : {f g h : Feed} {q : ℕ} (n : Arena) (p : ℕ) (a : ClassNames) → NamesTold p f g (Ok a) → Passed (at (tree.mark tree.colon) q) g h
    → Along (λ ds. limited 64 (coming f) (naming (for_class p ds))) (λ ds. limited 64 (coming h) (seq tree.newline (tree.indent ∷ []) (inside (feed_source f) p a ds).state)) f n h n
headed {f = f} n p a t c =
    let rest : Decls → State = λ ds. (inside (feed_source f) p a ds).state in
    along (got n t (λ ds. ds)) (stepped n (λ ds. seq tree.colon (tree.newline ∷ tree.indent ∷ []) (rest ds)) (λ ds. seq tree.newline (tree.indent ∷ []) (rest ds)) c (λ ds. refl))

-- up to the first member, the empty list stored at i
opened : {f g h k : Feed} {n m : Arena} {q i : ℕ} {r : Depth} (p : ℕ) (a : ClassNames) → NamesTold p f g (Ok a) → Passed (at (tree.mark tree.colon) q) g h → IndentedTold 0 h k (Ok r)
    → i ≡ length (arena_nodes n) → arena_nodes m ≡ arena_nodes n ++ (Node.NoDeclarations ∷ []) → arena_limit m ≡ arena_limit n
    → Along (λ ds. limited 64 (coming f) (naming (for_class p ds))) (λ ds. limited 64 (coming k) (members_of (phrase (feed_source k) (arena_nodes m) i).decls (named_class (feed_source f) p a ds))) f n k m
opened {f = f} {k = k} {n = n} {m = m} {i = i} p a t c d index nodes limit =
    let new = stored (feed_source k) (arena_nodes n) (arena_nodes m) Node.NoDeclarations i index nodes in
    let long = passed_long c in
    along_as (along_stored Node.NoDeclarations (along (headed n p a t c) (got n d (inside (feed_source f) p a))) nodes limit (omega (arith, long, t.gets.count, d.gets.count)))
    (λ ds. ap (λ (z : Phrase). limited 64 (coming k) (members_of z.decls (named_class (feed_source f) p a ds))) (sym new.stands))

pub returns-in_err-take_indented : goal.returns-in_err-take_indented
returns-in_err-take_indented c =
    let f = c.args.self.now.feed in
    let g = c.class_names.new.self in
    let h = c.take_mark.new.self in
    let n = c.args.self.now.arena in
    let p = c.args.place in
    let a = c.in_ok-name.field-0 in
    let colon = c.in_ok-take_mark.ensures in
    let bad = c.in_err-take_indented.ensures.told in
    let on : Passed (at (tree.mark tree.colon) colon.told.0) g h = record { first = colon.told.1; source = colon.source } in
    stopped_behind c.from_residual-in_err-take_indented.result _ c.from_residual-in_err-take_indented.ensures.1
    (headed n p a c.in_ok-name.ensures on) (kept_taken n bad.source bad.fewer)
    (λ ds. bad.gets (inside (feed_source f) p a ds))

pub returns-in_err-members : goal.returns-in_err-members
returns-in_err-members c =
    let f = c.args.self.now.feed in
    let g = c.class_names.new.self in
    let h = c.take_mark.new.self in
    let p = c.args.place in
    let a = c.in_ok-name.field-0 in
    let st = c.store-none.ensures in
    let colon = c.in_ok-take_mark.ensures in
    let bad = c.in_err-members.ensures in
    let on : Passed (at (tree.mark tree.colon) colon.told.0) g h = record { first = colon.told.1; source = colon.source } in
    stopped_behind c.from_residual-in_err-members.result _ c.from_residual-in_err-members.ensures.1
    (opened p a c.in_ok-name.ensures on c.in_ok-take_indented.ensures.told st.index st.nodes st.limit) bad.kept
    (λ ds. bad.leads (named_class (feed_source f) p a ds))

pub returns : goal.returns
returns c =
    let f = c.args.self.now.feed in
    let g = c.class_names.new.self in
    let h = c.take_mark.new.self in
    let k = c.take_indented.new.self in
    let l = c.class_members.new.self.feed in
    let n = c.args.self.now.arena in
    let q = c.class_members.new.self.arena in
    let src = feed_source f in
    let p = c.args.place in
    let a = c.in_ok-name.field-0 in
    let j = c.in_ok-members.members in
    let st = c.store-none.ensures in
    let names = c.in_ok-name.ensures in
    let colon = c.in_ok-take_mark.ensures in
    let indent = c.in_ok-take_indented.ensures.told in
    let told = c.in_ok-members.ensures in
    let on : Passed (at (tree.mark tree.colon) colon.told.0) g h = record { first = colon.told.1; source = colon.source } in
    let long = passed_long on in
    let one = ap length st.nodes ∙ length-append (arena_nodes n) (Node.NoDeclarations ∷ []) in
    told_stored (Node.ClassDefinition p a.name a.superclass j)
    (along (opened p a names on indent st.index st.nodes st.limit) (led told (named_class src p a)))
    c.store.ensures.index c.store.ensures.nodes c.store.ensures.limit (omega (arith, long, one, names.gets.count, indent.gets.count, told.leads.spare))
    (λ new ds.
    ap (λ s. limited 64 (coming l) (start (base (main (tree.decl ds (tree.a_class p (named src a.name) (named src a.superclass) (phrase s (arena_nodes q) j).decls))) tree.empty))) (indent.source ∙ colon.source ∙ names.source)
    ∙ ap (λ (z : Phrase). limited 64 (coming l) (start (base (main (tree.decl ds z.decl)) tree.empty))) (sym new))
