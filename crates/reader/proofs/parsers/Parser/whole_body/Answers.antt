use Rattle.std.proofs.Common.{◌≡◌, ℕ, ◌<◌, List, [], ◌∷◌, ◌++◌, length, IsErrAnd, Ok, Err, Result, sym, ap, ◌∙◌, subst, arith, length-append}
use Rattle.arena.specs.Tables.{arena_limit, arena_nodes}
use Rattle.arena.specs.Trees.{Phrase, phrase}
use Rattle.arena.specs.declared.arenas.Arena.{Arena}
use Rattle.arena.specs.declared.nodes.Node.{Node}
use Rattle.grammar.specs.Tree as tree
use Rattle.grammar.specs.Reader.{base, start}
use Rattle.grammar.specs.Limits.{limited}
use Rattle.grammar.specs.Verdict.{judged}
use Rattle.reader.specs.Bodies.{BodyTold, EmptyBody, OpeningTold, OwnerAt}
use Rattle.reader.specs.Feeds.{coming, feed_source}
use Rattle.reader.specs.Kinds.{mark_of}
use Rattle.reader.specs.Owners.{Owner, body_end, body_mark, frame_of}
use Rattle.reader.specs.Places.{Sequel}
use Rattle.reader.specs.Statements.{Filled, StatementsTold}
use Rattle.reader.specs.declared.answers.Routine.{Routine}
use Rattle.reader.specs.declared.feeds.Feed.{Feed}
use Rattle.reader.specs.declared.items.Opening.{Opening}
use Rattle.reader.specs.declared.kinds.Mark.{Mark}
use Rattle.reader.specs.declared.refusals.Stop.{Stop}
use Rattle.reader.proofs.BodySteps.{sequel}
use Rattle.reader.proofs.Leading.{Along, stopped, stopped_behind}
use Rattle.reader.proofs.ListSteps.{kept_store, stored_phrase}
use Rattle.reader.proofs.Steps.{kept_long, kept_phrase}
use Rattle.reader.proofs.Storing.{kept_then, stays}
use Rattle.reader.proofs.parsers.Parser.whole_body.Goals as goal

-- The declarations of a body, and its first statement as a list by the node j.
module _ {P : Owner → Type 0} {d j : ℕ} {f g : Feed} {n m : Arena} (k : Arena) (e : Routine) (v : Opening) (none : EmptyBody n e) (told : OpeningTold P d e.declarations f n g m (Ok v))
    (index : j ≡ length (arena_nodes m)) (nodes : arena_nodes k ≡ arena_nodes m ++ (Node.MoreStatements e.statements v.statement ∷ [])) (limit : arena_limit k ≡ arena_limit m) where
  first_stored : Along (λ (x : OwnerAt P d). limited 64 (coming f) (start (base (frame_of x.owner tree.no_decls) tree.empty)))
      (λ x. limited 64 (coming g) (start (base (frame_of x.owner (phrase (feed_source f) (arena_nodes k) v.declarations).decls) (phrase (feed_source f) (arena_nodes k) j).stmts))) f n g k
  first_stored =
      let src = feed_source f in
      let node = Node.MoreStatements e.statements v.statement in
      let spare = told.leads.spare in
      let declared = stays src (arena_nodes m) (arena_nodes k) (node ∷ []) v.declarations told.leads.stored.0 nodes in
      let first : tree.then tree.empty (phrase src (arena_nodes m) v.statement).stmt ≡ (phrase src (arena_nodes k) j).stmts =
      ap (λ ss. tree.then ss (phrase src (arena_nodes m) v.statement).stmt) (sym (none.nothing src) ∙ sym (ap (λ (q : Phrase). q.stmts) (kept_phrase src e.statements told.kept none.statements)))
      ∙ sym (ap (λ (q : Phrase). q.stmts) (stored_phrase m k node j src index nodes)) in
      record {
        kept = kept_store node told.kept nodes limit (omega (arith, spare));
        goes = λ x. ap (λ ds. limited 64 (coming f) (start (base (frame_of x.owner ds) tree.empty))) (sym (none.none src)) ∙ told.leads.goes x
            ∙ ap (λ ss. limited 64 (coming g) (start (base (frame_of x.owner (phrase src (arena_nodes m) v.declarations).decls) ss))) first
            ∙ ap (λ (q : Phrase). limited 64 (coming g) (start (base (frame_of x.owner q.decls) (phrase src (arena_nodes k) j).stmts))) (sym declared);
      }

  first_filled : (src : List ℕ) → Filled (phrase src (arena_nodes k) j).stmts
  first_filled src = subst (λ (q : Phrase). Filled q.stmts) (sym (stored_phrase m k (Node.MoreStatements e.statements v.statement) j src index nodes)) tt

  -- and the statements after it
  module _ (close : Mark) (closes : (x : Owner) → P x → body_mark x ≡ mark_of close) where
    abbrev after : OwnerAt P d → Sequel close d
    after x = sequel x.owner (phrase (feed_source f) (arena_nodes k) v.declarations).decls close x.deep (closes x.owner x.owned)

    body_told : {h : Feed} {l : Arena} (i : ℕ) → StatementsTold close d j g k h l (Ok i) → BodyTold P d f n h l (Ok (record { declarations = v.declarations; statements = i }))
    body_told {h} {l} i rest =
        let src = feed_source f in
        let a = first_stored in
        let one = ap length nodes ∙ length-append (arena_nodes m) (Node.MoreStatements e.statements v.statement ∷ []) in
        let here : v.declarations < length (arena_nodes k) = let s = told.leads.stored.0 in omega (arith, one, s) in
        let long = kept_long rest.kept in
        let cost = a.kept.cost in
        let spare = rest.leads.spare in
        record {
          kept = kept_then a.kept rest.kept;
          leads = record {
            stored = (omega (arith, here, long), rest.leads.stored);
            spare = omega (arith, cost, spare);
            goes = λ x. a.goes x
                ∙ ap (λ s. limited 64 (coming g) (start (base (frame_of x.owner (phrase src (arena_nodes k) v.declarations).decls) (phrase s (arena_nodes k) j).stmts))) (sym a.kept.source)
                ∙ rest.leads.goes (after x)
                ∙ ap (λ s. limited 64 (coming h) (body_end x.owner (phrase src (arena_nodes k) v.declarations).decls (phrase s (arena_nodes l) i).stmts)) a.kept.source
                ∙ ap (λ (q : Phrase). limited 64 (coming h) (body_end x.owner q.decls (phrase src (arena_nodes l) i).stmts)) (sym (kept_phrase src v.declarations rest.kept here));
          };
        }

    body_stop : {h : Feed} {l : Arena} (r : Result Routine Stop) (y : Stop) → IsErrAnd r (λ z. z ≡ y) → StatementsTold close d j g k h l (Err y) → BodyTold P d f n h l r
    body_stop r y c rest =
        let src = feed_source f in
        let a = first_stored in
        stopped_behind r y c a rest.kept
        (λ x. ap (λ s. judged (limited 64 (coming g) (start (base (frame_of x.owner (phrase src (arena_nodes k) v.declarations).decls) (phrase s (arena_nodes k) j).stmts)))) (sym a.kept.source) ∙ rest.leads (after x))

pub returns-in_err-declarations : goal.returns-in_err-declarations
returns-in_err-declarations g c =
    let f = c.args.self.now.feed in
    let bad = c.in_err-declarations.ensures in
    stopped c.from_residual.result _ c.from_residual.ensures.1 bad.kept
    (λ x. ap (λ ds. judged (limited 64 (coming f) (start (base (frame_of x.owner ds) tree.empty)))) (sym (c.requires.empty.none (feed_source f))) ∙ bad.leads x)

pub statements-requires-clause-some : goal.statements-requires-clause-some
statements-requires-clause-some g c =
    let k = c.store-first.new.arena in
    let e = c.args.empty in
    let v = c.in_ok-declarations.field-0 in
    let none = c.requires.empty in
    let told = c.in_ok-declarations.ensures in
    let st = c.store-first.ensures in
    first_filled k e v none told st.index st.nodes st.limit (feed_source c.declarations.new.self.feed)

pub returns-in_err-statements : goal.returns-in_err-statements
returns-in_err-statements g c =
    let st = c.store-first.ensures in
    body_stop c.store-first.new.arena c.args.empty c.in_ok-declarations.field-0 c.requires.empty c.in_ok-declarations.ensures st.index st.nodes st.limit c.close.result c.close.ensures
    c.from_residual-in_err-statements.result _ c.from_residual-in_err-statements.ensures.1 c.in_err-statements.ensures

pub returns : goal.returns
returns g c =
    let st = c.store-first.ensures in
    body_told c.store-first.new.arena c.args.empty c.in_ok-declarations.field-0 c.requires.empty c.in_ok-declarations.ensures st.index st.nodes st.limit c.close.result c.close.ensures
    c.in_ok-statements.statements c.in_ok-statements.ensures
