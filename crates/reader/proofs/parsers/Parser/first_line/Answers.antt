use Rattle.std.proofs.Common.{◌≡◌, ℕ, List, ◌∷◌, Ok, sym, refl, ap, ◌∙◌, subst, arith}
use Rattle.arena.specs.Tables.{arena_nodes}
use Rattle.arena.specs.Trees.{named, phrase, spelled}
use Rattle.arena.specs.declared.arenas.Arena.{Arena}
use Rattle.arena.specs.declared.nodes.Stretch.{Stretch}
use Rattle.grammar.specs.Tree as tree
use Rattle.grammar.specs.Tree.{Decl, Decls, Expr, Token, at, id}
use Rattle.grammar.specs.Reader.{Body, Frame, awaits, base, have, inside, join, line, of_var, start, typing, want}
use Rattle.grammar.specs.Limits.{body_depth, frame_depth, limited}
use Rattle.grammar.specs.Verdict.{judged}
use Rattle.reader.specs.Bodies.{DeclaredAt}
use Rattle.reader.specs.Definitions.{OuterAt}
use Rattle.reader.specs.Feeds.{coming, feed_source}
use Rattle.reader.specs.Forms.{form_of}
use Rattle.reader.specs.Owners.{Owner, frame_of, function, owner_depth, program}
use Rattle.reader.specs.Places.{LineAt, Unsaid}
use Rattle.reader.specs.Told.{Spot, Told, having, read_expr}
use Rattle.reader.specs.declared.feeds.Feed.{Feed}
use Rattle.reader.specs.declared.forms.Form.{Form}
use Rattle.reader.specs.declared.forms.Read.{Read}
use Rattle.reader.proofs.Leading.{Along, along, stepped, stopped, stopped_behind}
use Rattle.reader.proofs.LineSteps.{Fronted, along_fronted, along_read, begins_line, fronted, line_spot}
use Rattle.reader.proofs.Steps.{Passed}
use Rattle.reader.proofs.Storing.{kept_all, kept_then}
use Rattle.reader.proofs.parsers.Parser.first_line.Goals as goal

frame_deep : (o : Owner) (ds : Decls) → frame_depth (frame_of o ds) ≡ owner_depth o
frame_deep program ds = refl
frame_deep (function p n ps a o) ds = refl

-- the declaration is the body's last, and another may come
joined : (o : Owner) (ds : Decls) (d : Decl) → awaits (join d (inside (frame_of o ds))) ≡ start (base (frame_of o (tree.decl ds d)) tree.empty)
joined program ds d = refl
joined (function p n ps a o) ds d = refl

-- any body without statements
abbrev At : ℕ → Type 0
At d = DeclaredAt (λ (x : Owner). Unit {0}) d

abbrev body_of : {d : ℕ} → At d → Body
body_of x = base (frame_of x.owner x.declared) tree.empty

deep_of : {d : ℕ} (x : At d) → body_depth (body_of x) ≡ d
deep_of x = frame_deep x.owner x.declared ∙ x.deep

abbrev outer_of : {d : ℕ} → At d → OuterAt d
outer_of x = record { outer = inside (frame_of x.owner x.declared); deep = deep_of x }

spot_of : {d : ℕ} (p : ℕ) (x : At d) → Spot 0 d (line p tree.nil (body_of x))
spot_of p x = line_spot p tree.nil (body_of x) (deep_of x)

-- a name and a colon
defines : (src : List ℕ) (r : Read) (s : Stretch) (e : Expr) (p : ℕ) (fr : Frame) (q : ℕ) (us : List Token) → r.form ≡ Form.Named → s.at ≡ r.place → e ≡ tree.var r.place (spelled src s)
    → limited 64 (at (tree.mark tree.colon) q ∷ us) (have r.place (form_of r.form e) e (line p tree.nil (base fr tree.empty))) ≡ limited 64 us (typing (of_var (named src s) (inside fr)))
defines src r s e p fr q us form here spell =
    let h = line p tree.nil (base fr tree.empty) in
    ap (λ f. limited 64 (at (tree.mark tree.colon) q ∷ us) (have r.place (form_of f e) e h)) form
    ∙ ap (λ x. limited 64 (at (tree.mark tree.colon) q ∷ us) (have r.place (form_of Form.Named x) x h)) spell
    ∙ ap (λ i. limited 64 us (typing (of_var (id i (spelled src s)) (inside fr)))) (sym here)

-- up to the definition's type
before_type : {d : ℕ} {f g h : Feed} {n m : Arena} {r : Read} (s : Stretch) (p : ℕ) → ((b : Body) → limited 64 (coming f) (start b) ≡ limited 64 (coming f) (want (line p tree.nil b))) → Told (Spot 0 d) want f n g m (Ok r)
    → r.form ≡ Form.Named → s.at ≡ r.place → ((src : List ℕ) → (phrase src (arena_nodes m) r.node).expr ≡ tree.var r.place (spelled src s)) → (q : ℕ) → Passed (at (tree.mark tree.colon) q) g h
    → Along {X = At d} (λ x. limited 64 (coming f) (start (body_of x))) (λ x. limited 64 (coming h) (typing (of_var (named (feed_source h) s) (inside (frame_of x.owner x.declared))))) f n h m
before_type {d} {f} {g} {h} {n} {m} {r} s p begin told form here spell q colon =
    let src : feed_source f ≡ feed_source h = sym (colon.source ∙ told.kept.source) in
    let begun : Along {X = At d} (λ x. limited 64 (coming f) (start (body_of x))) (λ x. limited 64 (coming f) (want (line p tree.nil (body_of x)))) f n f n = record { kept = kept_all f n; goes = λ x. begin (body_of x) } in
    along begun (along (along_read {X = At d} src told (λ x. line p tree.nil (body_of x)) (spot_of p))
    (stepped {X = At d} m (λ x. having (feed_source h) (arena_nodes m) r (line p tree.nil (body_of x))) (λ x. typing (of_var (named (feed_source h) s) (inside (frame_of x.owner x.declared)))) colon
    (λ x. defines (feed_source h) r s (read_expr (feed_source h) (arena_nodes m) r) p (frame_of x.owner x.declared) q (coming h) form here (spell (feed_source h)))))

pub returns-in_err-first : goal.returns-in_err-first
returns-in_err-first c =
    let f = c.args.self.now.feed in
    let p = c.args.next.place in
    let bad = c.in_err-first.ensures.told in
    stopped c.from_residual.result _ c.from_residual.ensures.1 bad.kept
    (λ x. ap judged (begins_line (feed_source f) c.args.next (coming f) (body_of x) c.requires.facing c.requires.kind) ∙ bad.goes (line p tree.nil (body_of x)) (spot_of p x))

pub returns-in_err-variable : goal.returns-in_err-variable
returns-in_err-variable c =
    let f = c.args.self.now.feed in
    let g = c.expression.new.self.feed in
    let h = c.defined_name.new.feed in
    let ok = c.in_ok-first.ensures.told in
    let name = c.in-Some.ensures in
    let colon : Passed (at (tree.mark tree.colon) name.told.3.0) g h = record { first = name.told.3.1; source = name.source } in
    let bad = c.in_err-variable.ensures in
    stopped_behind c.from_residual-in_err-variable.result _ c.from_residual-in_err-variable.ensures.1
    (before_type c.in-Some.name c.args.next.place (λ b. begins_line (feed_source f) c.args.next (coming f) b c.requires.facing c.requires.kind) ok name.told.0 name.told.1 name.told.2 name.told.3.0 colon) bad.kept
    (λ x. bad.tells (outer_of x))

pub returns-in-Some : goal.returns-in-Some
returns-in-Some c =
    let f = c.args.self.now.feed in
    let g = c.expression.new.self.feed in
    let h = c.defined_name.new.feed in
    let k = c.variable.new.self.feed in
    let m = c.expression.new.self.arena in
    let l = c.variable.new.self.arena in
    let n = c.args.self.now.arena in
    let i = c.in_ok-variable.field-0 in
    let s = c.in-Some.name in
    let d = c.args.depth.levels in
    let ok = c.in_ok-first.ensures.told in
    let name = c.in-Some.ensures in
    let colon : Passed (at (tree.mark tree.colon) name.told.3.0) g h = record { first = name.told.3.1; source = name.source } in
    let done = c.in_ok-variable.ensures in
    let a : Along {X = At d} (λ x. limited 64 (coming f) (start (body_of x))) (λ x. limited 64 (coming h) (typing (of_var (named (feed_source h) s) (inside (frame_of x.owner x.declared))))) f n h m =
    before_type c.in-Some.name c.args.next.place (λ b. begins_line (feed_source f) c.args.next (coming f) b c.requires.facing c.requires.kind) ok name.told.0 name.told.1 name.told.2 name.told.3.0 colon in
    let src : feed_source h ≡ feed_source f = colon.source ∙ ok.kept.source in
    record {
      kept = kept_then a.kept done.kept;
      leads = record {
        stored = done.tells.0;
        spare = omega (arith, a.kept.cost, done.spare);
        goes = λ x.
            a.goes x ∙ done.tells.1 (outer_of x)
            ∙ ap (λ z. limited 64 (coming k) (awaits (join (phrase z (arena_nodes l) i).decl (inside (frame_of x.owner x.declared))))) src
            ∙ ap (limited 64 (coming k)) (joined x.owner x.declared (phrase (feed_source f) (arena_nodes l) i).decl);
      };
    }

pub assignment-requires-clause-empty : goal.assignment-requires-clause-empty
assignment-requires-clause-empty c =
    let ok = c.in_ok-first.ensures in
    let rest = c.in_default.ensures in
    let st = c.store-none.ensures in
    let a : Fronted c.args.depth.levels c.args.self.now.feed c.args.self.now.arena c.defined_name.new.feed c.store-none.new.arena c.store-none.result c.in_ok-first.first = fronted ok.told ok.ends rest.told.0 rest.source st.index st.nodes st.limit in
    a.empty

-- the same places, where no colon defines the first expression
abbrev first_at : {d : ℕ} (r : Read) (h : Feed) (ts : List Token) → coming h ≡ ts → ((e : Expr) (b : Body) → Unsaid b r.place (form_of r.form e) ts) → (e : Expr) → At d
    → LineAt d r.place (form_of r.form e) (coming h)
first_at r h ts same u e x = record { body = body_of x; deep = deep_of x; unsaid = subst (Unsaid (body_of x) r.place (form_of r.form e)) (sym same) (u e (body_of x)) }

pub returns-in_err-assignment : goal.returns-in_err-assignment
returns-in_err-assignment c =
    let g = c.expression.new.self.feed in
    let h = c.defined_name.new.feed in
    let r = c.in_ok-first.first in
    let d = c.args.depth.levels in
    let ok = c.in_ok-first.ensures in
    let rest = c.in_default.ensures in
    let st = c.store-none.ensures in
    let a : Fronted d c.args.self.now.feed c.args.self.now.arena h c.store-none.new.arena c.store-none.result r = fronted ok.told ok.ends rest.told.0 rest.source st.index st.nodes st.limit in
    let bad = c.in_err-assignment.ensures in
    stopped_behind c.from_residual-in_err-assignment.result _ c.from_residual-in_err-assignment.ensures.1 (along_fronted c.args.next c.requires.facing c.requires.kind a (λ (x : At d). body_of x) deep_of) bad.kept
    (λ x. bad.leads (first_at r h (coming g) rest.told.0 rest.told.1 (read_expr (feed_source h) (arena_nodes c.store-none.new.arena) r) x))

pub returns : goal.returns
returns c =
    let f = c.args.self.now.feed in
    let g = c.expression.new.self.feed in
    let h = c.defined_name.new.feed in
    let k = c.assignment.new.self.feed in
    let n = c.args.self.now.arena in
    let m = c.store-none.new.arena in
    let l = c.assignment.new.self.arena in
    let r = c.in_ok-first.first in
    let i = c.in_ok-assignment.field-0 in
    let d = c.args.depth.levels in
    let p = c.args.next.place in
    let ok = c.in_ok-first.ensures in
    let rest = c.in_default.ensures in
    let st = c.store-none.ensures in
    let a : Fronted d f n h m c.store-none.result r = fronted ok.told ok.ends rest.told.0 rest.source st.index st.nodes st.limit in
    let done = c.in_ok-assignment.ensures in
    let b : Along {X = At d} (λ x. limited 64 (coming f) (start (body_of x))) (λ x. limited 64 (coming h) (having (feed_source h) (arena_nodes m) r (line p tree.nil (body_of x)))) f n h m =
    along_fronted c.args.next c.requires.facing c.requires.kind a body_of deep_of in
    record {
      kept = kept_then b.kept done.kept;
      leads = record {
        stored = done.leads.stored;
        spare = omega (arith, b.kept.cost, done.leads.spare);
        goes = λ x.
            b.goes x ∙ done.leads.goes (first_at r h (coming g) rest.told.0 rest.told.1 (read_expr (feed_source h) (arena_nodes c.store-none.new.arena) r) x)
            ∙ ap (λ z. limited 64 (coming k) (start (base (frame_of x.owner x.declared) (tree.then tree.empty (phrase z (arena_nodes l) i).stmt)))) a.kept.source;
      };
    }
