-- How the declarations and statements of a body are put together.
use Rattle.std.proofs.Common.{◌≡◌, ℕ, ◌<◌, List, [], ◌∷◌, length, drop, IsErrAnd, Ok, Err, Result, sym, refl, ap, ◌∙◌, subst, arith}
use mathlib.Core.Option.{none}
use Rattle.arena.specs.Tables.{arena_nodes}
use Rattle.arena.specs.declared.arenas.Arena.{Arena}
use Rattle.grammar.specs.Tree as tree
use Rattle.grammar.specs.Tree.{Ann, Decl, Decls, Id, Params, Stmt, Stmts, Token, at}
use Rattle.grammar.specs.Reader.{State, awaits, base, decls, ends, inside, join, on, pick, start}
use Rattle.grammar.specs.Limits.{Reading, frame_depth, limited}
use Rattle.grammar.specs.Verdict.{judged}
use Rattle.reader.specs.Bodies.{DeclaredAt, ItemTold, past_item}
use Rattle.reader.specs.Definitions.{OuterAt}
use Rattle.reader.specs.Feeds.{coming, feed_source}
use Rattle.reader.specs.Kinds.{mark_of, next_token}
use Rattle.reader.specs.Leading.{Tells}
use Rattle.reader.specs.Owners.{Owner, body_end, body_mark, frame_of, function, owner_depth, program}
use Rattle.reader.specs.Places.{BodyAt, Sequel, Unclaimed}
use Rattle.reader.specs.Statements.{WordedTold}
use Rattle.reader.specs.declared.feeds.Feed.{Feed}
use Rattle.reader.specs.declared.items.Item.{Item}
use Rattle.reader.specs.declared.kinds.Kind.{Kind}
use Rattle.reader.specs.declared.kinds.Mark.{Mark}
use Rattle.reader.specs.declared.kinds.Next.{Next}
use Rattle.reader.specs.declared.refusals.Stop.{Stop}
use Rattle.reader.proofs.Leading.{stopped}
use Rattle.reader.proofs.Steps.{Passed, faced, kept_passed, passed_long}
use Rattle.reader.proofs.Storing.{kept_then}

-- The frame of a body, by whose it is.
pub frame_deep : (x : Owner) (ds : Decls) → frame_depth (frame_of x ds) ≡ owner_depth x
frame_deep program ds = refl
frame_deep (function p n ps a o) ds = refl

pub joined : (x : Owner) (ds : Decls) (d : Decl) → awaits (join d (inside (frame_of x ds))) ≡ start (base (frame_of x (tree.decl ds d)) tree.empty)
joined program ds d = refl
joined (function p n ps a o) ds d = refl

pub closing : (x : Owner) (ds : Decls) (ss : Stmts) (s : Stmt) → ends (base (frame_of x ds) (tree.then ss s)) ≡ on (body_mark x) (λ q. body_end x ds (tree.then ss s)) ∷ []
closing program ds ss s = refl
closing (function p n ps a o) ds ss s = refl

pub no_more : (x : Owner) (ds : Decls) (ss : Stmts) (s : Stmt) → decls (base (frame_of x ds) (tree.then ss s)) ≡ []
no_more program ds ss s = refl
no_more (function p n ps a o) ds ss s = refl

-- the statements of a body, past its declarations
abbrev pub sequel : (x : Owner) (ds : Decls) (m : Mark) {d : ℕ} → owner_depth x ≡ d → body_mark x ≡ mark_of m → Sequel m d
sequel x ds m deep mark = record {
  body = λ ss. base (frame_of x ds) ss;
  end = λ ss. body_end x ds ss;
  deep = λ ss. frame_deep x ds ∙ deep;
  grows = λ ss s. refl;
  closes = λ ss s. closing x ds ss s ∙ ap (λ k. on k (λ q. body_end x ds (tree.then ss s)) ∷ []) mark;
  undeclared = λ ss s. no_more x ds ss s;
  settled = λ ss s p f. refl;
}

-- Where an item stands.
abbrev pub opened : {P : Owner → Type 0} {d : ℕ} → DeclaredAt P d → State
opened x = start (base (frame_of x.owner x.declared) tree.empty)

abbrev pub outer_at : {P : Owner → Type 0} {d : ℕ} → DeclaredAt P d → OuterAt d
outer_at x = record { outer = inside (frame_of x.owner x.declared); deep = frame_deep x.owner x.declared ∙ x.deep }

-- the mark begins no declaration of theirs
abbrev pub Undeclared : (Owner → Type 0) → Mark → Type 0
Undeclared P m = (x : Owner) → P x → (ds : Decls) (p : ℕ) → pick (decls (base (frame_of x ds) tree.empty)) (at (tree.mark (mark_of m)) p) ≡ none

abbrev body_at : {P : Owner → Type 0} {d p : ℕ} (m : Mark) {ts us : List Token} → Undeclared P m → ts ≡ at (tree.mark (mark_of m)) p ∷ us → DeclaredAt P d → BodyAt d ts
body_at {p = p} m un e x = record {
  body = base (frame_of x.owner x.declared) tree.empty;
  deep = frame_deep x.owner x.declared ∙ x.deep;
  unclaimed = subst (Unclaimed (base (frame_of x.owner x.declared) tree.empty)) (sym e) (un x.owner x.owned x.declared p, refl);
}

-- the word is here
pub word_here : (f : Feed) (next : Next) (k m : Mark) → m ≡ k → coming f ≡ next_token (feed_source f) next ∷ drop 1 (coming f) → next.kind ≡ Kind.Mark m → coming f ≡ at (tree.mark (mark_of k)) next.place ∷ drop 1 (coming f)
word_here f next k m is facing kind = faced (feed_source f) next (coming f) (Kind.Mark k) facing (kind ∙ ap Kind.Mark is)

-- A declaration, past the word that it begins with.
module _ {P : Owner → Type 0} {d : ℕ} {Y : Type 0} {o : Y → Reading} {w : ℕ → Y → Reading} {t : Token} {f g h : Feed} {n m : Arena} (to : DeclaredAt P d → Y) (p : Passed t f g)
    (begins : (x : DeclaredAt P d) → limited 64 (t ∷ coming g) (opened x) ≡ o (to x)) where
  pub declaration_told : (i : ℕ) → Tells 1 (λ j. j < length (arena_nodes m)) o w g n h m (Ok i)
      → ((x : DeclaredAt P d) → w i (to x) ≡ limited 64 (coming h) (past_item (feed_source g) (arena_nodes m) (Item.Declaration i) x))
      → ItemTold P d f n h m (Ok (Item.Declaration i))
  declaration_told i told same =
      let long = passed_long p in
      let spare = told.leads.spare in
      record {
        kept = kept_then (kept_passed n p) told.kept;
        leads = record {
          stored = told.leads.stored;
          spare = omega (arith, long, spare);
          goes = λ x. ap (λ ts. limited 64 ts (opened x)) p.first ∙ begins x ∙ told.leads.goes (to x) ∙ same x
              ∙ ap (λ s. limited 64 (coming h) (past_item s (arena_nodes m) (Item.Declaration i) x)) p.source;
        };
      }

  pub declaration_stop : (r : Result Item Stop) (y : Stop) → IsErrAnd r (λ z. z ≡ y) → Tells 1 (λ j. j < length (arena_nodes m)) o w g n h m (Err y) → ItemTold P d f n h m r
  declaration_stop r y e told = stopped r y e (kept_then (kept_passed n p) told.kept) (λ x. ap judged (ap (λ ts. limited 64 ts (opened x)) p.first ∙ begins x) ∙ told.leads (to x))

-- A first statement that begins with a word.
module _ {P : Owner → Type 0} {d p : ℕ} {f g : Feed} {n m : Arena} (k : Mark) (un : Undeclared P k) (e : coming f ≡ at (tree.mark (mark_of k)) p ∷ drop 1 (coming f)) where
  pub word_told : (i : ℕ) → WordedTold d f n g m (Ok i) → ItemTold P d f n g m (Ok (Item.Statement i))
  word_told i told =
      let spare = told.leads.spare in
      record {
        kept = told.kept;
        leads = record { stored = told.leads.stored; spare = omega (arith, spare); goes = λ x. told.leads.goes (body_at k un e x) };
      }

  pub word_stop : (r : Result Item Stop) (y : Stop) → IsErrAnd r (λ z. z ≡ y) → WordedTold d f n g m (Err y) → ItemTold P d f n g m r
  word_stop r y c told = stopped r y c told.kept (λ x. told.leads (body_at k un e x))
