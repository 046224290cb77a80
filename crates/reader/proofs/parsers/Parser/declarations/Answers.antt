use Rattle.std.proofs.Common.{◌≡◌, ℕ, ◌<◌, List, [], ◌∷◌, ◌++◌, length, Ok, sym, ap, ◌∙◌, subst, arith}
use Rattle.arena.specs.Tables.{arena_limit, arena_nodes}
use Rattle.arena.specs.Trees.{Phrase, phrase}
use Rattle.arena.specs.declared.arenas.Arena.{Arena}
use Rattle.arena.specs.declared.nodes.Node.{Node}
use Rattle.grammar.specs.Tree as tree
use Rattle.grammar.specs.Tree.{Decls}
use Rattle.grammar.specs.Reader.{base, start}
use Rattle.grammar.specs.Limits.{Reading, limited}
use Rattle.reader.specs.Bodies.{DeclaredAt, ItemTold, OwnerAt}
use Rattle.reader.specs.Feeds.{coming, feed_source}
use Rattle.reader.specs.Leading.{Tells}
use Rattle.reader.specs.Owners.{Owner, frame_of}
use Rattle.reader.specs.declared.feeds.Feed.{Feed}
use Rattle.reader.specs.declared.items.Item.{Item}
use Rattle.reader.specs.declared.items.Opening.{Opening}
use Rattle.reader.proofs.Leading.{Along, stopped_behind}
use Rattle.reader.proofs.ListSteps.{kept_store, stored_phrase}
use Rattle.reader.proofs.Steps.{kept_long, kept_phrase}
use Rattle.reader.proofs.Storing.{kept_then, stored}
use Rattle.reader.proofs.parsers.Parser.declarations.Goals as goal

abbrev declared_at : {P : Owner → Type 0} {d : ℕ} → Decls → OwnerAt P d → DeclaredAt P d
declared_at ds x = record { owner = x.owner; owned = x.owned; deep = x.deep; declared = ds }

-- The declarations so far, by the node b.
abbrev so_far : {P : Owner → Type 0} {d : ℕ} → List ℕ → Feed → Arena → ℕ → OwnerAt P d → Reading
so_far src f n b x = limited 64 (coming f) (start (base (frame_of x.owner (phrase src (arena_nodes n) b).decls) tree.empty))

module _ {P : Owner → Type 0} {d b : ℕ} {o : OwnerAt P d → Reading} {e f g : Feed} {l n m : Arena} (a : Along o (so_far (feed_source e) f n b) e l f n) (s : b < length (arena_nodes n)) where
  -- one more
  declarations_more : {i j : ℕ} {k : Arena} → ItemTold P d f n g m (Ok (Item.Declaration i)) → j ≡ length (arena_nodes m) → arena_nodes k ≡ arena_nodes m ++ (Node.MoreDeclarations b i ∷ [])
      → arena_limit k ≡ arena_limit m → Along o (so_far (feed_source e) g k j) e l g k
  declarations_more {i} {j} {k} told index nodes limit =
      let src = feed_source e in
      let spare = told.leads.spare in
      let cost = a.kept.cost in
      let same : tree.decl (phrase src (arena_nodes n) b).decls (phrase (feed_source f) (arena_nodes m) i).decl ≡ (phrase src (arena_nodes k) j).decls =
      ap (λ r. tree.decl (phrase src (arena_nodes n) b).decls (phrase r (arena_nodes m) i).decl) a.kept.source
      ∙ ap (λ (q : Phrase). tree.decl q.decls (phrase src (arena_nodes m) i).decl) (sym (kept_phrase src b told.kept s))
      ∙ sym (ap (λ (q : Phrase). q.decls) (stored_phrase m k (Node.MoreDeclarations b i) j src index nodes)) in
      record {
        kept = kept_store (Node.MoreDeclarations b i) (kept_then a.kept told.kept) nodes limit (omega (arith, spare, cost));
        goes = λ x. a.goes x ∙ told.leads.goes (declared_at (phrase src (arena_nodes n) b).decls x)
            ∙ ap (λ ds. limited 64 (coming g) (start (base (frame_of x.owner ds) tree.empty))) same;
      }

  -- and the first statement
  opening_told : {i : ℕ} → ItemTold P d f n g m (Ok (Item.Statement i))
      → Tells 1 (λ (v : Opening). (v.declarations < length (arena_nodes m)) × (v.statement < length (arena_nodes m))) o
      (λ v x. limited 64 (coming g) (start (base (frame_of x.owner (phrase (feed_source e) (arena_nodes m) v.declarations).decls) (tree.then tree.empty (phrase (feed_source e) (arena_nodes m) v.statement).stmt))))
      e l g m (Ok (record { declarations = b; statement = i }))
  opening_told {i} told =
      let src = feed_source e in
      let spare = told.leads.spare in
      let cost = a.kept.cost in
      let long = kept_long told.kept in
      record {
        kept = kept_then a.kept told.kept;
        leads = record {
          stored = (omega (arith, long, s), told.leads.stored);
          spare = omega (arith, spare, cost);
          goes = λ x. a.goes x ∙ told.leads.goes (declared_at (phrase src (arena_nodes n) b).decls x)
              ∙ ap (λ r. limited 64 (coming g) (start (base (frame_of x.owner (phrase src (arena_nodes n) b).decls) (tree.then tree.empty (phrase r (arena_nodes m) i).stmt)))) a.kept.source
              ∙ ap (λ (q : Phrase). limited 64 (coming g) (start (base (frame_of x.owner q.decls) (tree.then tree.empty (phrase src (arena_nodes m) i).stmt)))) (sym (kept_phrase src b told.kept s));
        };
      }

pub returns-in_err-last : goal.returns-in_err-last
returns-in_err-last g c =
    let bad = c.in_err-last.ensures in
    let src = feed_source c.args.self.now.feed in
    stopped_behind c.from_residual.result _ c.from_residual.ensures.1 c.loop-last.invariant.1 bad.kept
    (λ x. bad.leads (declared_at (phrase src (arena_nodes c.loop-last.self.arena) c.loop-last.before).decls x))

pub loop-last-preserved : goal.loop-last-preserved
loop-last-preserved g c =
    let f = c.loop-last.self.feed in
    let n = c.loop-last.self.arena in
    let h = c.body_item.new.self.feed in
    let m = c.body_item.new.self.arena in
    let told : ItemTold g.S.Scope.owns c.args.depth.levels f n h m (Ok (Item.Declaration c.in-Declaration.last)) =
    subst (λ a. ItemTold g.S.Scope.owns c.args.depth.levels f n h m (Ok a)) c.in-Declaration.is c.in_ok-last.ensures in
    let st = c.store-before.ensures in (
      (stored (feed_source f) (arena_nodes m) (arena_nodes c.store-before.new.arena) _ c.store-before.result st.index st.nodes).here,
      declarations_more c.loop-last.invariant.1 c.loop-last.invariant.0 told st.index st.nodes st.limit,
    )

pub returns-in-Statement : goal.returns-in-Statement
returns-in-Statement g c =
    let f = c.loop-last.self.feed in
    let n = c.loop-last.self.arena in
    let h = c.body_item.new.self.feed in
    let m = c.body_item.new.self.arena in
    let told : ItemTold g.S.Scope.owns c.args.depth.levels f n h m (Ok (Item.Statement c.in-Statement.statement)) =
    subst (λ a. ItemTold g.S.Scope.owns c.args.depth.levels f n h m (Ok a)) c.in-Statement.is c.in_ok-last.ensures in
    opening_told c.loop-last.invariant.1 c.loop-last.invariant.0 told
