-- How what is told at each place is put together.
use Rattle.std.proofs.Common.{◌≡◌, ℕ, ◌+◌, ◌*◌, ◌<◌, ◌≤◌, List, [], ◌∷◌, ◌++◌, length, IsErrAnd, Ok, Err, Result, sym, ap, ◌∙◌, arith, length-append}
use Rattle.arena.specs.Tables.{arena_limit, arena_nodes}
use Rattle.arena.specs.Trees.{over, phrase}
use Rattle.arena.specs.declared.arenas.Arena.{Arena}
use Rattle.arena.specs.declared.nodes.Node.{Node}
use Rattle.grammar.specs.Tree.{Token}
use Rattle.grammar.specs.Reader.{State}
use Rattle.grammar.specs.Limits.{Reading, limited}
use Rattle.grammar.specs.Verdict.{judged}
use Rattle.reader.specs.Feeds.{coming, feed_source}
use Rattle.reader.specs.Keeping.{Kept}
use Rattle.reader.specs.Leading.{Takes, Tells}
use Rattle.reader.specs.Stops.{stop_of}
use Rattle.reader.specs.declared.feeds.Feed.{Feed}
use Rattle.reader.specs.declared.refusals.Stop.{Stop}
use Rattle.reader.proofs.ListSteps.{kept_store}
use Rattle.reader.proofs.Steps.{Passed, kept_passed}
use Rattle.reader.proofs.Storing.{Stored, kept_taken, kept_then, stored}

-- something was read, and the reading goes on
pub record Along {X : Type 0} (o w : X → Reading) (f : Feed) (n : Arena) (g : Feed) (m : Arena) : Type 0 where
  pub kept : Kept f n g m
  pub goes : (x : X) → o x ≡ w x

-- one after the other
pub along : {X : Type 0} {o v w : X → Reading} {f g h : Feed} {n m k : Arena} → Along o v f n g m → Along v w g m h k → Along o w f n h k
along a b = record { kept = kept_then a.kept b.kept; goes = λ x. a.goes x ∙ b.goes x }

-- what the reading goes on with, said otherwise
pub along_as : {X : Type 0} {o v w : X → Reading} {f g : Feed} {n m : Arena} → Along o v f n g m → ((x : X) → v x ≡ w x) → Along o w f n g m
along_as a e = record { kept = a.kept; goes = λ x. a.goes x ∙ e x }

-- a token that the states take was passed
pub stepped : {X : Type 0} {t : Token} {f g : Feed} (n : Arena) (s s' : X → State) → Passed t f g → ((x : X) → limited 64 (t ∷ coming g) (s x) ≡ limited 64 (coming g) (s' x))
    → Along (λ x. limited 64 (coming f) (s x)) (λ x. limited 64 (coming g) (s' x)) f n g n
stepped n s s' p e = record { kept = kept_passed n p; goes = λ x. ap (λ ts. limited 64 ts (s x)) p.first ∙ e x }

-- what a function told that read something, at the places that are meant
pub led : {X Y A : Type 0} {k : ℕ} {S : A → Type 0} {o : X → Reading} {w : A → X → Reading} {f g : Feed} {n m : Arena} {a : A} → Tells k S o w f n g m (Ok a) → (at : Y → X) → Along (λ y. o (at y)) (λ y. w a (at y)) f n g m
led t at = record { kept = t.kept; goes = λ y. t.leads.goes (at y) }

pub got : {X Y A : Type 0} {k : ℕ} {o : X → Reading} {w : A → X → Reading} {f g : Feed} (n : Arena) {a : A} → Takes k o w f g (Ok a) → (at : Y → X) → Along (λ y. o (at y)) (λ y. w a (at y)) f n g n
got n t at = record { kept = kept_taken n t.source t.fewer; goes = λ y. t.gets.goes (at y) }

-- the exit of a `?`
pub stopped : {X A : Type 0} {k : ℕ} {S : A → Type 0} {o : X → Reading} {w : A → X → Reading} {f g : Feed} {n m : Arena} (r : Result A Stop) (y : Stop) → IsErrAnd r (λ z. z ≡ y) → Kept f n g m
    → ((x : X) → judged (o x) ≡ stop_of y) → Tells k S o w f n g m r
stopped (Ok i) y e k b = absurd e
stopped (Err z) y e k b = record { kept = k; leads = λ x. b x ∙ ap stop_of (sym e) }

-- the same, behind what was read
pub stopped_behind : {X A : Type 0} {k : ℕ} {S : A → Type 0} {o v : X → Reading} {w : A → X → Reading} {f g h : Feed} {n m l : Arena} (r : Result A Stop) (y : Stop) → IsErrAnd r (λ z. z ≡ y)
    → Along o v f n g m → Kept g m h l → ((x : X) → judged (v x) ≡ stop_of y) → Tells k S o w f n h l r
stopped_behind r y e a k b = stopped r y e (kept_then a.kept k) (λ x. ap judged (a.goes x) ∙ b x)

-- the same of tokens alone
pub ungot : {X A : Type 0} {k : ℕ} {o : X → Reading} {w : A → X → Reading} {f g : Feed} (r : Result A Stop) (y : Stop) → IsErrAnd r (λ z. z ≡ y) → feed_source g ≡ feed_source f → length (coming g) ≤ length (coming f)
    → ((x : X) → judged (o x) ≡ stop_of y) → Takes k o w f g r
ungot (Ok i) y e s l b = absurd e
ungot (Err z) y e s l b = record { source = s; fewer = l; gets = λ x. b x ∙ ap stop_of (sym e) }

-- a node was stored for what was read
pub told_stored : {X : Type 0} {k : ℕ} {o v : X → Reading} {w : ℕ → X → Reading} {f g : Feed} {n m m' : Arena} {i : ℕ} (node : Node) → Along o v f n g m
    → i ≡ length (arena_nodes m) → arena_nodes m' ≡ arena_nodes m ++ (node ∷ []) → arena_limit m' ≡ arena_limit m
    → length (arena_nodes m) + 1 + k + 4 * length (coming g) ≤ length (arena_nodes n) + 4 * length (coming f)
    → (phrase (feed_source f) (arena_nodes m') i ≡ over (feed_source f) (phrase (feed_source f) (arena_nodes m)) node → (x : X) → v x ≡ w i x)
    → Tells k (λ j. j < length (arena_nodes m')) o w f n g m' (Ok i)
told_stored {f = f} {g = g} {n = n} {m = m} {m' = m'} {i = i} node a e nodes limit cost same =
    let new : Stored (feed_source f) (arena_nodes m) (arena_nodes m') node i = stored (feed_source f) (arena_nodes m) (arena_nodes m') node i e nodes in
    let one = ap length nodes ∙ length-append (arena_nodes m) (node ∷ []) in
    record {
      kept = kept_store node a.kept nodes limit (omega (arith, cost));
      leads = record { stored = new.here; spare = omega (arith, one, cost); goes = λ x. a.goes x ∙ same new.stands x };
    }

-- a node was stored on the way
pub along_stored : {X : Type 0} {o v : X → Reading} {f g : Feed} {n m m' : Arena} (node : Node) → Along o v f n g m → arena_nodes m' ≡ arena_nodes m ++ (node ∷ []) → arena_limit m' ≡ arena_limit m
    → length (arena_nodes m) + 1 + 4 * length (coming g) ≤ length (arena_nodes n) + 4 * length (coming f) → Along o v f n g m'
along_stored node a nodes limit cost = record { kept = kept_store node a.kept nodes limit cost; goes = a.goes }

-- what was read is the result
pub told_ok : {X A : Type 0} {k : ℕ} {S : A → Type 0} {o v : X → Reading} {w : A → X → Reading} {f g : Feed} {n m : Arena} {a : A} → Along o v f n g m → S a
    → length (arena_nodes m) + k + 4 * length (coming g) ≤ length (arena_nodes n) + 4 * length (coming f) → ((x : X) → v x ≡ w a x) → Tells k S o w f n g m (Ok a)
told_ok a s c e = record { kept = a.kept; leads = record { stored = s; spare = c; goes = λ x. a.goes x ∙ e x } }

-- what another function told, behind what was read, is the result
pub told_behind : {X Y A : Type 0} {k j : ℕ} {S : A → Type 0} {o : X → Reading} {o' : Y → Reading} {w : A → X → Reading} {w' : A → Y → Reading} {f g h : Feed} {n m l : Arena} (r : Result A Stop) (into : X → Y)
    → Along o (λ x. o' (into x)) f n g m → Tells j S o' w' g m h l r → length (arena_nodes m) + k + 4 * length (coming g) ≤ length (arena_nodes n) + j + 4 * length (coming f)
    → ((a : A) (x : X) → w' a (into x) ≡ w a x) → Tells k S o w f n h l r
told_behind (Ok a) into b t c e = record {
  kept = kept_then b.kept t.kept;
  leads = record { stored = t.leads.stored; spare = omega (arith, c, t.leads.spare); goes = λ x. b.goes x ∙ t.leads.goes (into x) ∙ e a x };
}
told_behind (Err y) into b t c e = record { kept = kept_then b.kept t.kept; leads = λ x. ap judged (b.goes x) ∙ t.leads (into x) }

-- What a function told behind something else: it says so in phrases of the source that it had at its entry, which is the
-- source all along.
pub led_on : {X Y A : Type 0} {k : ℕ} {S : A → Type 0} {o : X → Reading} {f g h : Feed} {n m l : Arena} {a : A} (place : X → Y) (v : List ℕ → Y → Reading) (w : List ℕ → A → Y → Reading)
    → Along o (λ x. v (feed_source f) (place x)) f n g m → Tells k S (v (feed_source g)) (w (feed_source g)) g m h l (Ok a) → Along o (λ x. w (feed_source f) a (place x)) f n h l
led_on {a = a} place v w b t = record {
  kept = kept_then b.kept t.kept;
  goes = λ x. b.goes x ∙ ap (λ s. v s (place x)) (sym b.kept.source) ∙ t.leads.goes (place x) ∙ ap (λ s. w s a (place x)) b.kept.source;
}

-- the same where it stopped
pub stopped_on : {X Y A B : Type 0} {k j : ℕ} {S : B → Type 0} {T : A → Type 0} {o : X → Reading} {w : B → X → Reading} {u : A → Y → Reading} {f g h : Feed} {n m l : Arena} {y : Stop} (r : Result B Stop) → IsErrAnd r (λ z. z ≡ y)
    → (place : X → Y) (v : List ℕ → Y → Reading) → Along o (λ x. v (feed_source f) (place x)) f n g m → Tells j T (v (feed_source g)) u g m h l (Err y) → Tells k S o w f n h l r
stopped_on {y = y} r e place v b t = stopped_behind r y e b t.kept (λ x. ap (λ s. judged (v s (place x))) (sym b.kept.source) ∙ t.leads (place x))

-- the same where its result is the result
pub told_on : {X Y A : Type 0} {k j : ℕ} {S : A → Type 0} {o : X → Reading} {f g h : Feed} {n m l : Arena} (place : X → Y) (v : List ℕ → Y → Reading) (w : List ℕ → A → Y → Reading) (r : Result A Stop) → j ≤ k
    → Along o (λ x. v (feed_source f) (place x)) f n g m → Tells k S (v (feed_source g)) (w (feed_source g)) g m h l r → Tells j S o (λ a x. w (feed_source f) a (place x)) f n h l r
told_on {X = X} {o = o} {f = f} {h = h} {n = n} {l = l} place v w (Ok a) less b t =
    let all : Along o (λ x. w (feed_source f) a (place x)) f n h l = led_on place v w b t in
    record { kept = all.kept; leads = record { stored = t.leads.stored; spare = omega (arith, t.leads.spare, b.kept.cost, less); goes = all.goes } }
told_on place v w (Err y) less b t =
    record { kept = kept_then b.kept t.kept; leads = λ x. ap judged (b.goes x ∙ ap (λ s. v s (place x)) (sym b.kept.source)) ∙ t.leads (place x) }
