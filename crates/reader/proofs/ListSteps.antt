-- How what is told of lists is put together.
use Rattle.std.proofs.Common.{◌≡◌, ℕ, suc, ◌+◌, ◌*◌, ◌<◌, ◌≤◌, List, [], ◌∷◌, ◌++◌, length, drop, Ok, Err, Result, sym, refl, ap, ◌∙◌, append_assoc, arith, length-append}
use mathlib.Core.Option.{none}
use Rattle.arena.proofs.Growth.{trees_stand}
use Rattle.arena.specs.Tables.{arena_limit, arena_nodes}
use Rattle.arena.specs.Trees.{over, phrase}
use Rattle.arena.specs.declared.arenas.Arena.{Arena}
use Rattle.arena.specs.declared.nodes.Node.{Node}
use Rattle.arena.specs.declared.nodes.Node.TheVariants.{MoreExpressions, NoExpressions}
use Rattle.grammar.specs.Tree as tree
use Rattle.grammar.specs.Tree.{Expr, Exprs, Form, Token, at}
use Rattle.grammar.specs.Reader.{Group, Hole, State, begins, build, closer, either, expect, first, from, group, have, leaves, want}
use Rattle.grammar.specs.Limits.{Reading, exceeds, hole_depth, limited, operand, proceeds, sees}
use Rattle.grammar.specs.Verdict.{judged}
use Rattle.reader.specs.Feeds.{coming, feed_source}
use Rattle.reader.specs.Forms.{form_of}
use Rattle.reader.specs.Kinds.{mark_of}
use Rattle.reader.specs.Lists.{Closed, ToldList, Within, between, closed_list, in_list}
use Rattle.reader.specs.Taking.{Another}
use Rattle.reader.specs.Keeping.{Kept}
use Rattle.reader.specs.Told.{Ends, Spot, Stuck, Told}
use Rattle.reader.specs.declared.feeds.Feed.{Feed}
use Rattle.reader.specs.declared.forms.Read.{Read}
use Rattle.reader.specs.declared.kinds.Mark.{Mark}
use Rattle.reader.specs.declared.refusals.Stop.{Stop}
use Rattle.reader.proofs.MarkFacts.{taken}
use Rattle.reader.proofs.Steps.{Passed, kept_passed, kept_phrase, kept_still}
use Rattle.reader.proofs.Storing.{kept_then}

-- a node more
pub kept_store : {f g : Feed} {n m k : Arena} (node : Node) → Kept f n g m → arena_nodes k ≡ arena_nodes m ++ (node ∷ []) → arena_limit k ≡ arena_limit m
    → length (arena_nodes m) + 1 + 4 * length (coming g) ≤ length (arena_nodes n) + 4 * length (coming f) → Kept f n g k
kept_store {n = n} {m = m} node kept e l cost =
    let one = ap length e ∙ length-append (arena_nodes m) (node ∷ []) in
    record {
      source = kept.source;
      more = kept.more ++ (node ∷ []);
      nodes = e ∙ ap (λ x. x ++ (node ∷ [])) kept.nodes ∙ append_assoc (arena_nodes n) kept.more (node ∷ []);
      limit = l ∙ kept.limit;
      fewer = kept.fewer;
      cost = omega (arith, one, cost);
    }

-- what the new node stands for
pub stored_phrase : (m k : Arena) (node : Node) (i : ℕ) (src : List ℕ) → i ≡ length (arena_nodes m) → arena_nodes k ≡ arena_nodes m ++ (node ∷ []) → phrase src (arena_nodes k) i ≡ over src (phrase src (arena_nodes m)) node
stored_phrase m k node i src e n =
    ap (phrase src (arena_nodes k)) e ∙ ap (λ ns. phrase src ns (length (arena_nodes m))) n ∙ trees_stand.new src (arena_nodes m) node

-- an element leaves its hole
sheds_item : (i : ℕ) (f : Form) (e : Expr) (es : Exprs) (g : Group) (h : Hole) (us : List Token) → Stuck i f e (group g es h) us
    → limited 64 us (have i f e (group g es h)) ≡ between us (tree.snoc es e) g h
sheds_item i f e es g h [] z = refl
sheds_item i f e es g h (t ∷ us) z = ap (λ y. proceeds (limited 64 us) (exceeds 64 (sees (have i f e (group g es h)) t)) t us (either y (leaves (group g es h) i f e t))) z

pub item_told : {f g : Feed} {n m k : Arena} {d i : ℕ} (list : ℕ) (x : Read) → list < length (arena_nodes n) → Told (Spot 0 d) want f n g m (Ok x) → Ends (feed_source f) (arena_nodes m) 0 d (coming g) (Ok x)
    → i ≡ length (arena_nodes m) → arena_nodes k ≡ arena_nodes m ++ (MoreExpressions list x.node ∷ []) → arena_limit k ≡ arena_limit m
    → ToldList (Within d) (in_list (coming f) (phrase (feed_source f) (arena_nodes n) list).exprs) (between (coming g)) f n g k (Ok i)
item_told {f} {g} {n} {m} {k} {d} {i} list x l told ends index nodes limit =
    let src = feed_source f in
    let es = (phrase src (arena_nodes n) list).exprs in
    let e = (phrase src (arena_nodes m) x.node).expr in
    let one = ap length nodes ∙ length-append (arena_nodes m) (MoreExpressions list x.node ∷ []) in
    let new = stored_phrase m k (MoreExpressions list x.node) i src index nodes in
    let same : tree.snoc es e ≡ (phrase src (arena_nodes k) i).exprs = ap (λ a. tree.snoc a.exprs e) (sym (kept_phrase src list told.kept l)) ∙ sym (ap (λ a. a.exprs) new) in
    record {
      kept = kept_store (MoreExpressions list x.node) told.kept nodes limit told.goes.spare;
      goes = record {
        stored = omega (arith, one, index);
        goes = λ j h w.
            let spot : Spot 0 d (group j es h) = record { asked = refl; deep = w.deep } in
            told.goes.goes (group j es h) spot
            ∙ sheds_item x.place (form_of x.form e) e es j h (coming g) (ends (group j es h) spot)
            ∙ ap (λ a. between (coming g) a j h) same;
      };
    }

-- elements were added to a list, or it is as it was
pub record Listing (d : ℕ) (f : Feed) (n : Arena) (x : ℕ) (g : Feed) (m : Arena) (y : ℕ) : Type 0 where
  pub kept : Kept f n g m
  pub stored : y < length (arena_nodes m)
  pub goes : (k : Group) (h : Hole) → Within d k h → between (coming f) (phrase (feed_source f) (arena_nodes n) x).exprs k h ≡ between (coming g) (phrase (feed_source f) (arena_nodes m) y).exprs k h

-- a list is empty, or begins
first_ends : (m : Mark) (j : Group) (h : Hole) (q : ℕ) (us : List Token) → closer j ≡ mark_of m → limited 64 (at (tree.mark (mark_of m)) q ∷ us) (first j h) ≡ closed_list us tree.nil j h
first_ends m j h q us c =
    let s : ℕ → State = λ i. have (from j) tree.closed (build j tree.nil) h in
    let t = at (tree.mark (mark_of m)) q in
    ap (λ x. proceeds (limited 64 us) none t us x)
    (ap (λ x. either (either (expect x s t) none) none) c ∙ ap (λ x. either (either x none) none) (taken m s q))

first_begins : (m : Mark) (j : Group) (h : Hole) (ts : List Token) → closer j ≡ mark_of m → Another m ts → limited 64 ts (first j h) ≡ in_list ts tree.nil j h
first_begins m j h [] c u = refl
first_begins m j h (t ∷ ts) c u =
    let s : ℕ → State = λ i. have (from j) tree.closed (build j tree.nil) h in
    ap (λ x. proceeds (limited 64 ts) (exceeds 64 (operand (suc (hole_depth h)) t)) t ts x)
    (ap (λ x. either (either (expect x s t) none) (begins (group j tree.nil h) t)) c ∙ ap (λ x. either (either x none) (begins (group j tree.nil h) t)) (u s))

drop_one : (ts : List Token) → 0 < length ts → length ts ≡ suc (length (drop 1 ts))
drop_one [] l = absurd (omega arith)
drop_one (t ∷ ts) l = refl

-- the bracket was passed, and an empty list stored
pub record Opened (f : Feed) (n : Arena) (g : Feed) (m : Arena) (i : ℕ) : Type 0 where
  pub kept : Kept f n g m
  pub fewer : length (coming f) ≡ suc (length (coming g))
  pub one : length (arena_nodes m) ≡ length (arena_nodes n) + 1
  pub tokens : coming g ≡ drop 1 (coming f)
  pub stored : i < length (arena_nodes m)
  pub empty : (src : List ℕ) → (phrase src (arena_nodes m) i).exprs ≡ tree.nil

pub opened : {f g : Feed} {n m : Arena} {i : ℕ} → 0 < length (coming f) → coming g ≡ drop 1 (coming f) → feed_source g ≡ feed_source f
    → i ≡ length (arena_nodes n) → arena_nodes m ≡ arena_nodes n ++ (NoExpressions ∷ []) → arena_limit m ≡ arena_limit n → Opened f n g m i
opened {f} {g} {n} {m} {i} any tokens source index nodes limit =
    let long = drop_one (coming f) any ∙ ap (λ ts. suc (length ts)) (sym tokens) in
    let one = ap length nodes ∙ length-append (arena_nodes n) (NoExpressions ∷ []) in
    record {
      kept = record { source = source; more = NoExpressions ∷ []; nodes = nodes; limit = limit; fewer = omega (arith, long); cost = omega (arith, long, one) };
      fewer = long;
      one = one;
      tokens = tokens;
      stored = omega (arith, one, index);
      empty = λ src. ap (λ a. a.exprs) (stored_phrase n m NoExpressions i src index nodes);
    }

pub listed_empty : {f g k : Feed} {n m : Arena} {i d q : ℕ} (close : Mark) → Opened f n g m i → Passed (at (tree.mark (mark_of close)) q) g k
    → ToldList (Closed close d) (λ j h. limited 64 (drop 1 (coming f)) (first j h)) (closed_list (coming k)) f n k m (Ok i)
listed_empty {f} {g} {k} {n} {m} {i} {d} {q} close o p = record {
  kept = kept_then o.kept (kept_passed m p);
  goes = record {
    stored = o.stored;
    goes = λ j h w.
        ap (λ ts. limited 64 ts (first j h)) (sym o.tokens ∙ p.first)
        ∙ first_ends close j h q (coming k) w.mark
        ∙ ap (λ es. closed_list (coming k) es j h) (sym (o.empty (feed_source f)));
  };
}

listed_by : {f g k : Feed} {n m m' : Arena} {d : ℕ} {close : Mark} {o o' : Group → Hole → Reading} (r : Result ℕ Stop) → Kept f n k m' → ((j : Group) (h : Hole) → closer j ≡ mark_of close → o j h ≡ o' j h)
    → feed_source g ≡ feed_source f → ToldList (λ j h. Within d j h × (closer j ≡ mark_of close)) o' (closed_list (coming k)) g m k m' r → ToldList (Closed close d) o (closed_list (coming k)) f n k m' r
listed_by {k = k} {m' = m'} {d = d} (Ok x) kept b s a = record {
  kept = kept;
  goes = record {
    stored = a.goes.stored;
    goes = λ j h w. b j h w.mark ∙ a.goes.goes j h (record { deep = w.deep }, w.mark) ∙ ap (λ src. closed_list (coming k) (phrase src (arena_nodes m') x).exprs j h) s;
  };
}
listed_by (Err y) kept b s a = record { kept = kept; goes = λ j h w. ap judged (b j h w.mark) ∙ a.goes j h (record { deep = w.deep }, w.mark) }

pub listed_items : {f g g' k : Feed} {n m m' : Arena} {i d : ℕ} (close : Mark) (r : Result ℕ Stop) → Opened f n g m i → coming g' ≡ coming g → Another close (coming g) → feed_source g' ≡ feed_source g
    → ToldList (λ j h. Within d j h × (closer j ≡ mark_of close)) (in_list (coming g') (phrase (feed_source g') (arena_nodes m) i).exprs) (closed_list (coming k)) g' m k m' r
    → ToldList (Closed close d) (λ j h. limited 64 (drop 1 (coming f)) (first j h)) (closed_list (coming k)) f n k m' r
listed_items {f} {g} {g'} {k} {n} {m} {m'} {i} {d} close r o still u s a =
    let kept = kept_then o.kept (kept_then (kept_still m still s) a.kept) in
    let begin : (j : Group) (h : Hole) → closer j ≡ mark_of close → limited 64 (drop 1 (coming f)) (first j h) ≡ in_list (coming g') (phrase (feed_source g') (arena_nodes m) i).exprs j h =
    λ j h c. ap (λ ts. limited 64 ts (first j h)) (sym o.tokens) ∙ first_begins close j h (coming g) c u
    ∙ ap (λ ts. in_list ts tree.nil j h) (sym still) ∙ ap (λ es. in_list (coming g') es j h) (sym (o.empty (feed_source g'))) in
    listed_by r kept begin (s ∙ o.kept.source) a
