-- How what is told is put together.
use Rattle.std.proofs.Common.{◌≡◌, ℕ, suc, ◌+◌, ◌*◌, ◌<◌, ◌≤◌, true, false, ◌&&◌, ltb, leb, List, [], ◌∷◌, ◌++◌, length, drop, slice_get, IsErrAnd, Some, Ok, Err, Result, sym, refl, ap, ◌∙◌, subst, append_assoc, arith, length-append}
use Rattle.std.proofs.lemmas.List.{append-nil}
use Rattle.std.proofs.lemmas.Bool.{lt-leb, lt-ltb}
use Rattle.arena.proofs.Growth.{trees_stand}
use Rattle.arena.specs.Tables.{arena_nodes}
use Rattle.arena.specs.Trees.{over, phrase}
use Rattle.arena.specs.declared.arenas.Arena.{Arena}
use Rattle.arena.specs.declared.nodes.Node.{Node}
use Rattle.grammar.specs.Tree.{Token, at}
use Rattle.grammar.specs.Reader.{Hole, State, have}
use Rattle.grammar.specs.Limits.{hole_depth, limited}
use Rattle.grammar.specs.Verdict.{judged}
use Rattle.reader.specs.Feeds.{coming, feed_source}
use Rattle.reader.specs.Forms.{form_of}
use Rattle.reader.specs.Keeping.{Kept}
use Rattle.reader.specs.Stops.{stop_of}
use Rattle.reader.specs.Told.{Made, NamedAt, NamedBy, Told, Went, having}
use Rattle.reader.specs.declared.feeds.Feed.{Feed}
use Rattle.reader.specs.declared.forms.Form.{Form}
use Rattle.reader.specs.declared.forms.Read.{Read}
use Rattle.reader.specs.Kinds.{kind_model, next_token}
use Rattle.reader.specs.declared.kinds.Kind.{Kind}
use Rattle.reader.specs.declared.kinds.Next.{Next}
use Rattle.reader.specs.declared.refusals.Stop.{Stop}
use Rattle.reader.proofs.Storing.{kept_then}

-- what a node stands for stays
pub kept_phrase : {f g : Feed} {n m : Arena} (src : List ℕ) (i : ℕ) → Kept f n g m → i < length (arena_nodes n) → phrase src (arena_nodes m) i ≡ phrase src (arena_nodes n) i
kept_phrase {n = n} src i k l = ap (λ ns. phrase src ns i) k.nodes ∙ trees_stand.stays src (arena_nodes n) k.more i l

pub kept_long : {f g : Feed} {n m : Arena} → Kept f n g m → length (arena_nodes n) ≤ length (arena_nodes m)
kept_long {n = n} k = let e = ap length k.nodes ∙ length-append (arena_nodes n) k.more in omega (arith, e)

-- one token was passed
pub record Passed (t : Token) (f g : Feed) : Type 0 where
  pub first : coming f ≡ t ∷ coming g
  pub source : feed_source g ≡ feed_source f

pub passed : {t : Token} {f g : Feed} → coming f ≡ t ∷ drop 1 (coming f) → coming g ≡ drop 1 (coming f) → feed_source g ≡ feed_source f → Passed t f g
passed {t} a b s = record { first = a ∙ ap (λ ts. t ∷ ts) (sym b); source = s }

pub passed_long : {t : Token} {f g : Feed} → Passed t f g → length (coming f) ≡ suc (length (coming g))
passed_long p = ap length p.first

pub kept_passed : {t : Token} {f g : Feed} (n : Arena) → Passed t f g → Kept f n g n
kept_passed n p = let e = passed_long p in record { source = p.source; more = []; nodes = sym (append-nil (arena_nodes n)); limit = refl; fewer = omega (arith, e); cost = omega (arith, e) }

-- the exit of a `?`
pub exit : {P : Hole → Type 0} {s : Hole → State} {f g : Feed} {n m : Arena} (r : Result Read Stop) (y : Stop) → IsErrAnd r (λ z. z ≡ y) → Kept f n g m
    → ((h : Hole) → P h → judged (limited 64 (coming f) (s h)) ≡ stop_of y) → Told P s f n g m r
exit (Ok i) y e k w = absurd e
exit (Err z) y e k w = record { kept = k; goes = λ h p. w h p ∙ ap stop_of (sym e) }

-- the node behind some others
pub last_node : (ns : List Node) (x : Node) → slice_get (ns ++ (x ∷ [])) (length ns) ≡ Some x
last_node [] x = refl
last_node (n ∷ ns) x = last_node ns x

-- A node was stored for what was read.
pub told_made : {P : Hole → Type 0} {s : Hole → State} {f g : Feed} {n m k : Arena} {p : ℕ} {form : Form} {node : Node} {r : Read} → Kept f n g m → Made m k p form node r → NamedAt (arena_nodes m ++ (node ∷ [])) form p (length (arena_nodes m))
    → length (arena_nodes m) + 2 + 4 * length (coming g) ≤ length (arena_nodes n) + 4 * length (coming f) → length (coming g) < length (coming f)
    → ((h : Hole) → P h → limited 64 (coming f) (s h) ≡ limited 64 (coming g) (have p (form_of form (over (feed_source f) (phrase (feed_source f) (arena_nodes m)) node).expr) (over (feed_source f) (phrase (feed_source f) (arena_nodes m)) node).expr h))
    → Told P s f n g k (Ok r)
told_made {P} {s} {f} {g} {n} {m} {k} {p} {form} {node} {r} kept made named cost some w =
    let src = feed_source f in
    let e = (over src (phrase src (arena_nodes m)) node).expr in
    let one : length (arena_nodes k) ≡ length (arena_nodes m) + 1 = ap length made.nodes ∙ length-append (arena_nodes m) (node ∷ []) in
    let new : (phrase src (arena_nodes k) (length (arena_nodes m))).expr ≡ e = ap (λ ns. (phrase src ns (length (arena_nodes m))).expr) made.nodes ∙ ap (λ x. x.expr) (trees_stand.new src (arena_nodes m) node) in
    record {
      kept = record {
        source = kept.source;
        more = kept.more ++ (node ∷ []);
        nodes = made.nodes ∙ ap (λ x. x ++ (node ∷ [])) kept.nodes ∙ append_assoc (arena_nodes n) kept.more (node ∷ []);
        limit = made.limit ∙ kept.limit;
        fewer = omega (arith, some);
        cost = omega (arith, one, cost);
      };
      goes = subst (λ x. Went P s src (length (arena_nodes n)) (arena_nodes k) (coming f) (coming g) x) (sym made.result) (record {
        stored = omega (arith, one);
        some = some;
        spare = omega (arith, one, cost);
        named = subst (λ ns. NamedAt ns form p (length (arena_nodes m))) (sym made.nodes) named;
        goes = λ h q. w h q ∙ ap (λ x. limited 64 (coming g) (have p (form_of form x) x h)) (sym new);
      });
    }

-- what was read grew, or is as it was
pub record Grew (P : Hole → Type 0) (f : Feed) (n : Arena) (x : Read) (g : Feed) (m : Arena) (y : Read) : Type 0 where
  pub kept : Kept f n g m
  pub stored : y.node < length (arena_nodes m)
  pub named : NamedBy (arena_nodes n) x → NamedBy (arena_nodes m) y
  pub goes : (h : Hole) → P h → limited 64 (coming f) (having (feed_source f) (arena_nodes n) x h) ≡ limited 64 (coming g) (having (feed_source f) (arena_nodes m) y h)

pub grew_more : {P : Hole → Type 0} {f g h : Feed} {n m k : Arena} {x y z : Read} → Grew P f n x g m y → Told P (having (feed_source g) (arena_nodes m) y) g m h k (Ok z) → Grew P f n x h k z
grew_more {f = f} {g = g} {h = h} {m = m} {k = k} {y = y} {z = z} a b = record {
  kept = kept_then a.kept b.kept;
  stored = b.goes.stored;
  named = λ _. b.goes.named;
  goes = λ j p. a.goes j p
      ∙ ap (λ src. limited 64 (coming g) (having src (arena_nodes m) y j)) (sym a.kept.source) ∙ b.goes.goes j p
      ∙ ap (λ src. limited 64 (coming h) (having src (arena_nodes k) z j)) a.kept.source;
}

-- the end of a loop that grows what was read
pub grew_told : {P : Hole → Type 0} {s : Hole → State} {e f g : Feed} {l n m : Arena} {x y : Read} → Told P s e l f n (Ok x) → Grew P f n x g m y → Told P s e l g m (Ok y)
grew_told {e = e} {f = f} {g = g} {n = n} {m = m} {x = x} {y = y} a b = record {
  kept = kept_then a.kept b.kept;
  goes = record {
    stored = b.stored;
    some = omega (arith, a.goes.some, b.kept.fewer);
    spare = omega (arith, a.goes.spare, b.kept.cost);
    named = b.named a.goes.named;
    goes = λ j p. a.goes.goes j p
        ∙ ap (λ src. limited 64 (coming f) (having src (arena_nodes n) x j)) (sym a.kept.source) ∙ b.goes j p
        ∙ ap (λ src. limited 64 (coming g) (having src (arena_nodes m) y j)) a.kept.source;
  };
}

pub grew_stop : {P : Hole → Type 0} {s : Hole → State} {e f g h : Feed} {l n m k : Arena} {x y : Read} {z : Stop} → Told P s e l f n (Ok x) → Grew P f n x g m y
    → Told P (having (feed_source g) (arena_nodes m) y) g m h k (Err z) → (j : Hole) → P j → judged (limited 64 (coming e) (s j)) ≡ stop_of z
grew_stop {g = g} {m = m} {y = y} a b c j p =
    let t = grew_told a b in
    ap judged (t.goes.goes j p ∙ ap (λ src. limited 64 (coming g) (having src (arena_nodes m) y j)) (sym t.kept.source)) ∙ c.goes j p

-- nothing was taken
pub kept_still : {f g : Feed} (n : Arena) → coming g ≡ coming f → feed_source g ≡ feed_source f → Kept f n g n
kept_still n c s = let e = ap length c in record { source = s; more = []; nodes = sym (append-nil (arena_nodes n)); limit = refl; fewer = omega (arith, e); cost = omega (arith, e) }

-- the token here is of a kind that is known
pub faced : (src : List ℕ) (n : Next) (ts : List Token) (k : Kind) → ts ≡ next_token src n ∷ drop 1 ts → n.kind ≡ k → ts ≡ at (kind_model src n.place k) n.place ∷ drop 1 ts
faced src n ts k a e = a ∙ ap (λ x. at (kind_model src n.place x) n.place ∷ drop 1 ts) e

-- at a known depth
pub shallow : {d : ℕ} (h : Hole) → hole_depth h ≡ d → d < 64 → leb 64 (hole_depth h) ≡ false
shallow h e l = lt-leb 64 (hole_depth h) (omega (arith, e, l))

pub both_before : {a b k : ℕ} → a < k → b < k → (ltb a k && ltb b k) ≡ true
both_before {a} {b} {k} x y = ap (λ z. z && ltb b k) (lt-ltb a k x) ∙ lt-ltb b k y
