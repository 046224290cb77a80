-- How lines of targets and values are put together.
use Rattle.std.proofs.Common.{◌≡◌, ℕ, ◌<◌, Bool, true, false, List, [], ◌∷◌, ◌++◌, length, drop, Ok, sym, refl, ap, ◌∙◌, subst, arith}
use mathlib.Core.Option.{none}
use Rattle.arena.specs.Tables.{arena_limit, arena_nodes}
use Rattle.arena.specs.Trees.{Phrase, phrase}
use Rattle.arena.specs.declared.arenas.Arena.{Arena}
use Rattle.arena.specs.declared.nodes.Node.{Node}
use Rattle.grammar.specs.Tree as tree
use Rattle.grammar.specs.Tree.{Expr, Exprs, Token, at}
use Rattle.grammar.specs.Reader.{Body, Hole, Offer, State, begins, decls, either, ends, expect, have, leaves, line, on, only, pick, start, starts, stmts, vars, want, when}
use Rattle.grammar.specs.Limits.{body_depth, exceeds, label, limited, operand, proceeds}
use Rattle.grammar.specs.Profile.{Label}
use Rattle.grammar.specs.Verdict.{judged}
use Rattle.reader.specs.Feeds.{coming, feed_source}
use Rattle.reader.specs.Forms.{form_of, is_target}
use Rattle.reader.specs.Keeping.{Kept}
use Rattle.reader.specs.Kinds.{kind_model, next_token}
use Rattle.reader.specs.Lines.{AssignedTold, NoWord, Unassigned}
use Rattle.reader.specs.Places.{LineAt}
use Rattle.reader.specs.Stops.{stop_of}
use Rattle.reader.specs.Taking.{NoMark}
use Rattle.reader.specs.Told.{Ends, Spot, Stuck, Told, having, read_expr}
use Rattle.reader.specs.declared.feeds.Feed.{Feed}
use Rattle.reader.specs.declared.forms.Form.{Form}
use Rattle.reader.specs.declared.forms.Read.{Read}
use Rattle.reader.specs.declared.kinds.Kind.{Kind}
use Rattle.reader.specs.declared.kinds.Mark.{Mark}
use Rattle.reader.specs.declared.kinds.Next.{Next}
use Rattle.reader.specs.declared.refusals.Stop.{Stop}
use Rattle.reader.proofs.Leading.{Along}
use Rattle.reader.proofs.ListSteps.{kept_store}
use Rattle.reader.proofs.Machine.{bars}
use Rattle.reader.proofs.Steps.{Passed, kept_long, kept_passed, kept_phrase, kept_still, passed_long}
use Rattle.reader.proofs.Storing.{Stored, kept_then, stays, stored}

-- What was read in a hole.

-- an expression was read, at the holes that are meant, in the terms of a source
pub along_read : {X : Type 0} {P : Hole → Type 0} {f g : Feed} {n m : Arena} {r : Read} {src : List ℕ} → feed_source f ≡ src → Told P want f n g m (Ok r) → (hole : X → Hole) → ((x : X) → P (hole x))
    → Along (λ x. limited 64 (coming f) (want (hole x))) (λ x. limited 64 (coming g) (having src (arena_nodes m) r (hole x))) f n g m
along_read {g = g} {m = m} {r = r} e t hole p = record { kept = t.kept; goes = λ x. t.goes.goes (hole x) (p x) ∙ ap (λ s. limited 64 (coming g) (having s (arena_nodes m) r (hole x))) e }

-- nothing goes on with an expression, in a later table too
ends_later : (src : List ℕ) (ns ns' more : List Node) (a d : ℕ) (us : List Token) (r : Read) → ns' ≡ ns ++ more → r.node < length ns → Ends src ns a d us (Ok r) → Ends src ns' a d us (Ok r)
ends_later src ns ns' more a d us r e l z h q =
    subst (λ (x : Phrase). Stuck r.place (form_of r.form x.expr) x.expr h us) (sym (stays src ns ns' more r.node l e)) (z h q)

-- a hole of a line
pub line_spot : {d : ℕ} (p : ℕ) (es : Exprs) (b : Body) → body_depth b ≡ d → Spot 0 d (line p es b)
line_spot p es b e = record { asked = refl; deep = e }

-- Where a line begins with a token that is no mark.

no_word : true ≡ false → ⊥
no_word e = let z : ◌≡◌ {A = ℕ} 0 1 = cc in omega arith

unexpected : (src : List ℕ) (p : ℕ) (k : Kind) (m : tree.Mark) (s : ℕ → State) → NoWord k → expect m s (at (kind_model src p k) p) ≡ none
unexpected src p (Kind.Name n) m s h = refl
unexpected src p (Kind.Text n) m s h = refl
unexpected src p (Kind.Constant l) m s h = refl
unexpected src p Kind.Dot m s h = refl
unexpected src p Kind.LeftRound m s h = refl
unexpected src p Kind.LeftSquare m s h = refl
unexpected src p Kind.Not m s h = refl
unexpected src p (Kind.Operator o) m s h = refl
unexpected src p (Kind.Mark k) m s h = absurd (no_word h)
unexpected src p (Kind.Fault f) m s h = refl

-- what a mark would be seen as is no matter
same_label : (src : List ℕ) (p : ℕ) (k : Kind) (n : ℕ) (l : Label) (j j' : tree.Mark → Label) → NoWord k → label n l j (at (kind_model src p k) p) ≡ label n l j' (at (kind_model src p k) p)
same_label src p (Kind.Name x) n l j j' h = refl
same_label src p (Kind.Text x) n l j j' h = refl
same_label src p (Kind.Constant x) n l j j' h = refl
same_label src p Kind.Dot n l j j' h = refl
same_label src p Kind.LeftRound n l j j' h = refl
same_label src p Kind.LeftSquare n l j j' h = refl
same_label src p Kind.Not n l j j' h = refl
same_label src p (Kind.Operator o) n l j j' h = refl
same_label src p (Kind.Mark k) n l j j' h = absurd (no_word h)
same_label src p (Kind.Fault f) n l j j' h = refl

only_none : (b : Bool) → only b none ≡ none
only_none true = refl
only_none false = refl

unpicked : (os : List Offer) (src : List ℕ) (p : ℕ) (k : Kind) → NoWord k → pick os (at (kind_model src p k) p) ≡ none
unpicked [] src p k h = refl
unpicked (on m s ∷ os) src p k h = ap (λ x. either x (pick os (at (kind_model src p k) p))) (unexpected src p k m s h) ∙ unpicked os src p k h
unpicked (when b m s ∷ os) src p k h = ap (λ x. either x (pick os (at (kind_model src p k) p))) (ap (only b) (unexpected src p k m s h) ∙ only_none b) ∙ unpicked os src p k h

starts_line : (src : List ℕ) (p : ℕ) (k : Kind) (b : Body) → NoWord k → starts b (at (kind_model src p k) p) ≡ begins (line p tree.nil b) (at (kind_model src p k) p)
starts_line src p k b h =
    let t = at (kind_model src p k) p in
    let x = begins (line p tree.nil b) t in
    ap (λ y. either y (either (pick (decls b) t) (either (pick (ends b) t) x))) (unpicked (stmts b) src p k h)
    ∙ ap (λ y. either y (either (pick (ends b) t) x)) (unpicked (decls b) src p k h)
    ∙ ap (λ y. either y x) (unpicked (ends b) src p k h)

-- an expression must come
pub begins_line : (src : List ℕ) (n : Next) (ts : List Token) (b : Body) → ts ≡ next_token src n ∷ drop 1 ts → NoWord n.kind → limited 64 ts (start b) ≡ limited 64 ts (want (line n.place tree.nil b))
begins_line src n ts b e h =
    let t = next_token src n in
    let us = drop 1 ts in
    ap (λ x. limited 64 x (start b)) e
    ∙ ap (λ l. proceeds (limited 64 us) (exceeds 64 l) t us (starts b t)) (same_label src n.place n.kind (body_depth b) _ _ _ h)
    ∙ ap (proceeds (limited 64 us) (exceeds 64 (operand (body_depth b) t)) t us) (starts_line src n.place n.kind b h)
    ∙ ap (λ x. limited 64 x (want (line n.place tree.nil b))) (sym e)

-- the first expression of a line was read, and a list of no targets stored
pub record Fronted (d : ℕ) (f : Feed) (n : Arena) (g : Feed) (m : Arena) (none : ℕ) (first : Read) : Type 0 where
  pub kept : Kept f n g m
  pub read : first.node < length (arena_nodes m)
  pub ends : Ends (feed_source g) (arena_nodes m) 0 d (coming g) (Ok first)
  pub stored : none < length (arena_nodes m)
  pub empty : (phrase (feed_source g) (arena_nodes m) none).exprs ≡ tree.nil
  pub goes : (h : Hole) → Spot 0 d h → limited 64 (coming f) (want h) ≡ limited 64 (coming g) (having (feed_source g) (arena_nodes m) first h)

pub fronted : {d none : ℕ} {f g g' : Feed} {n m m' : Arena} {first : Read} → Told (Spot 0 d) want f n g m (Ok first) → Ends (feed_source f) (arena_nodes m) 0 d (coming g) (Ok first)
    → coming g' ≡ coming g → feed_source g' ≡ feed_source g → none ≡ length (arena_nodes m) → arena_nodes m' ≡ arena_nodes m ++ (Node.NoExpressions ∷ []) → arena_limit m' ≡ arena_limit m → Fronted d f n g' m' none first
fronted {d} {none} {f} {g} {g'} {n} {m} {m'} {first} told z same src index nodes limit =
    let from : feed_source f ≡ feed_source g' = sym (src ∙ told.kept.source) in
    let new : Stored (feed_source g') (arena_nodes m) (arena_nodes m') Node.NoExpressions none = stored (feed_source g') (arena_nodes m) (arena_nodes m') Node.NoExpressions none index nodes in
    let long = new.here in
    let read = told.goes.stored in
    let still = ap length same in
    record {
      kept = kept_store Node.NoExpressions (kept_then told.kept (kept_still m same src)) nodes limit (omega (arith, told.goes.spare, still));
      read = omega (arith, long, read, index);
      ends = subst (λ s. Ends s (arena_nodes m') 0 d (coming g') (Ok first)) from
          (subst (λ ts. Ends (feed_source f) (arena_nodes m') 0 d ts (Ok first)) (sym same)
          (ends_later (feed_source f) (arena_nodes m) (arena_nodes m') (Node.NoExpressions ∷ []) 0 d (coming g) first nodes read z));
      stored = long;
      empty = ap (λ (x : Phrase). x.exprs) new.stands;
      goes = λ h q.
          told.goes.goes h q
          ∙ ap (λ ts. limited 64 ts (having (feed_source f) (arena_nodes m) first h)) (sym same)
          ∙ ap (λ s. limited 64 (coming g') (having s (arena_nodes m) first h)) from
          ∙ ap (λ (x : Phrase). limited 64 (coming g') (have first.place (form_of first.form x.expr) x.expr h))
          (sym (stays (feed_source g') (arena_nodes m) (arena_nodes m') (Node.NoExpressions ∷ []) first.node read nodes));
    }

-- from the line's beginning, in each of some bodies
pub along_fronted : {X : Type 0} {d none : ℕ} {f g : Feed} {n m : Arena} {first : Read} (next : Next) → coming f ≡ next_token (feed_source f) next ∷ drop 1 (coming f) → NoWord next.kind → Fronted d f n g m none first
    → (body : X → Body) → ((x : X) → body_depth (body x) ≡ d) → Along (λ x. limited 64 (coming f) (start (body x))) (λ x. limited 64 (coming g) (having (feed_source g) (arena_nodes m) first (line next.place tree.nil (body x)))) f n g m
along_fronted {f = f} next here h a body deep = record {
  kept = a.kept;
  goes = λ x. begins_line (feed_source f) next (coming f) (body x) here h ∙ a.goes (line next.place tree.nil (body x)) (line_spot next.place tree.nil (body x) (deep x));
}

-- Targets, and the value after them.

-- the form in the code tells whether an expression may be assigned to
target_same : (f : Form) (e : Expr) → tree.target (form_of f e) ≡ is_target f
target_same Form.Named e = refl
target_same Form.Member e = refl
target_same Form.Indexed e = refl
target_same Form.Closed e = refl
target_same (Form.Binary r) e = refl
target_same (Form.Prefix o) e = refl

-- past these targets, the first token does not make the expression before it a variable's definition
abbrev pub Undefined : Exprs → Body → ℕ → tree.Form → List Token → Type 0
Undefined es b p f [] = Unit {0}
Undefined es b p f (t ∷ ts) = pick (vars es b p f) t ≡ none

-- behind a target nothing is defined
past_target : (es : Exprs) (e : Expr) (b : Body) (p : ℕ) (f : tree.Form) (ts : List Token) → Undefined (tree.snoc es e) b p f ts
past_target es e b p f [] = tt
past_target es e b p f (t ∷ ts) = refl

takes_target : (i : ℕ) (f : Form) (e : Expr) (p : ℕ) (es : Exprs) (b : Body) (q : ℕ) (us : List Token) → is_target f ≡ true
    → limited 64 (at (tree.mark tree.assign) q ∷ us) (have i (form_of f e) e (line p es b)) ≡ limited 64 us (want (line p (tree.snoc es e) b))
takes_target i f e p es b q us h = rw (target_same f e ∙ h)

-- neither the end of the line nor anything else that may come
pub unended : (i : ℕ) (f : Form) (e : Expr) (p : ℕ) (es : Exprs) (b : Body) (us : List Token) (y : Stop) → Stuck i (form_of f e) e (line p es b) us → Unassigned f us → Undefined es b i (form_of f e) us
    → NoMark Mark.Newline us y → judged (limited 64 us (have i (form_of f e) e (line p es b))) ≡ stop_of y
unended i f e p es b [] y z a u k = sym k
unended i f e p es b (t ∷ us) y z a u k =
    let s : ℕ → State = λ q. want (line p (tree.snoc es e) b) in
    let rest = pick (vars es b i (form_of f e)) t in
    bars t us (have i (form_of f e) e (line p es b))
    (ap (λ x. either x (leaves (line p es b) i (form_of f e) e t)) z
    ∙ ap (λ x. either x (either (only (tree.target (form_of f e)) (expect tree.assign s t)) rest)) (k.0 _)
    ∙ ap (λ x. either x rest) (ap (λ x. only x (expect tree.assign s t)) (target_same f e) ∙ a s)
    ∙ u)
    ∙ sym k.1

-- from the first expression of a line at p to the last one read, past some targets
pub record Chained (d p : ℕ) (f : Feed) (n : Arena) (first : Read) (g : Feed) (m : Arena) (targets : ℕ) (last : Read) : Type 0 where
  pub kept : Kept f n g m
  pub stored : targets < length (arena_nodes m)
  pub read : last.node < length (arena_nodes m)
  pub ends : Ends (feed_source f) (arena_nodes m) 0 d (coming g) (Ok last)
  pub undefined : (x : LineAt d first.place (form_of first.form (read_expr (feed_source f) (arena_nodes n) first)) (coming f)) → Undefined (phrase (feed_source f) (arena_nodes m) targets).exprs x.body last.place (form_of last.form (read_expr (feed_source f) (arena_nodes m) last)) (coming g)
  pub goes : (x : LineAt d first.place (form_of first.form (read_expr (feed_source f) (arena_nodes n) first)) (coming f))
      → limited 64 (coming f) (having (feed_source f) (arena_nodes n) first (line p tree.nil x.body))
      ≡ limited 64 (coming g) (having (feed_source f) (arena_nodes m) last (line p (phrase (feed_source f) (arena_nodes m) targets).exprs x.body))

-- the last one was assigned to, and is stored as a target: another must come
pub record Aimed (d p : ℕ) (f : Feed) (n : Arena) (first : Read) (g : Feed) (m : Arena) (targets : ℕ) : Type 0 where
  pub kept : Kept f n g m
  pub stored : targets < length (arena_nodes m)
  pub before : Exprs
  pub last : Expr
  pub snocs : (phrase (feed_source f) (arena_nodes m) targets).exprs ≡ tree.snoc before last
  pub goes : (x : LineAt d first.place (form_of first.form (read_expr (feed_source f) (arena_nodes n) first)) (coming f))
      → limited 64 (coming f) (having (feed_source f) (arena_nodes n) first (line p tree.nil x.body))
      ≡ limited 64 (coming g) (want (line p (phrase (feed_source f) (arena_nodes m) targets).exprs x.body))

pub aimed : {d p : ℕ} {f g g' : Feed} {n m m' : Arena} {first last : Read} {targets i : ℕ} → Chained d p f n first g m targets last → AssignedTold last.form (coming g) (coming g') true → feed_source g' ≡ feed_source g
    → i ≡ length (arena_nodes m) → arena_nodes m' ≡ arena_nodes m ++ (Node.MoreExpressions targets last.node ∷ []) → arena_limit m' ≡ arena_limit m → Aimed d p f n first g' m' i
aimed {d} {p} {f} {g} {g'} {n} {m} {m'} {first} {last} {targets} {i} c told source index nodes limit =
    let passed : Passed (at (tree.mark tree.assign) told.1.0) g g' = record { first = told.1.1; source = source } in
    let src = feed_source f in
    let node = Node.MoreExpressions targets last.node in
    let new : Stored src (arena_nodes m) (arena_nodes m') node i = stored src (arena_nodes m) (arena_nodes m') node i index nodes in
    let es = (phrase src (arena_nodes m) targets).exprs in
    let e = (phrase src (arena_nodes m) last.node).expr in
    let snocs : (phrase src (arena_nodes m') i).exprs ≡ tree.snoc es e = ap (λ (x : Phrase). x.exprs) new.stands in
    let long = passed_long passed in
    record {
      kept = kept_store node (kept_then c.kept (kept_passed m passed)) nodes limit (omega (arith, c.kept.cost, long));
      stored = new.here;
      before = es;
      last = e;
      snocs = snocs;
      goes = λ x.
          c.goes x
          ∙ ap (λ ts. limited 64 ts (having src (arena_nodes m) last (line p es x.body))) passed.first
          ∙ takes_target last.place last.form e p es x.body told.1.0 (coming g') told.0
          ∙ ap (λ ts. limited 64 (coming g') (want (line p ts x.body))) (sym snocs);
    }

pub chained_more : {d p : ℕ} {f g h : Feed} {n m k : Arena} {first last : Read} {targets : ℕ} → Aimed d p f n first g m targets → Told (Spot 0 d) want g m h k (Ok last)
    → Ends (feed_source g) (arena_nodes k) 0 d (coming h) (Ok last) → Chained d p f n first h k targets last
chained_more {d} {p} {f} {g} {h} {n} {m} {k} {first} {last} {targets} a told z =
    let src = feed_source f in
    let same = kept_phrase src targets told.kept a.stored in
    let es = (phrase src (arena_nodes m) targets).exprs in
    let more = kept_long told.kept in
    let here = a.stored in
    record {
      kept = kept_then a.kept told.kept;
      stored = omega (arith, more, here);
      read = told.goes.stored;
      ends = subst (λ s. Ends s (arena_nodes k) 0 d (coming h) (Ok last)) a.kept.source z;
      undefined = λ x.
          subst (λ ts. Undefined ts x.body last.place (form_of last.form (read_expr src (arena_nodes k) last)) (coming h)) (sym (ap (λ (y : Phrase). y.exprs) same ∙ a.snocs))
          (past_target a.before a.last x.body last.place (form_of last.form (read_expr src (arena_nodes k) last)) (coming h));
      goes = λ x.
          a.goes x
          ∙ told.goes.goes (line p es x.body) (line_spot p es x.body x.deep)
          ∙ ap (λ s. limited 64 (coming h) (having s (arena_nodes k) last (line p es x.body))) a.kept.source
          ∙ ap (λ (y : Phrase). limited 64 (coming h) (having src (arena_nodes k) last (line p y.exprs x.body))) (sym same);
    }
