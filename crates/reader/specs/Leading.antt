-- What the functions of the reader tell, at each place of some type X where what they read may stand: one reading of the
-- limited machine leads to another, or comes to the same refusal.
use Rattle.std.specs.Prelude.{◌≡◌, ℕ, ◌+◌, ◌*◌, ◌≤◌, length, Ok, Err, Result}
use Rattle.arena.specs.declared.arenas.Arena.{Arena}
use Rattle.arena.specs.Tables.{arena_nodes}
use Rattle.grammar.specs.Limits.{Reading}
use Rattle.grammar.specs.Verdict.{judged}
use Rattle.reader.specs.Feeds.{coming, feed_source}
use Rattle.reader.specs.Keeping.{Kept}
use Rattle.reader.specs.Stops.{stop_of}
use Rattle.reader.specs.declared.feeds.Feed.{Feed}
use Rattle.reader.specs.declared.refusals.Stop.{Stop}

-- a phrase was read: its nodes are stored, k nodes more than it has are paid for, and the reading goes on with it
pub record Led {X A : Type 0} (k : ℕ) (S : A → Type 0) (o : X → Reading) (w : A → X → Reading) (f : Feed) (n : Arena) (g : Feed) (m : Arena) (a : A) : Type 0 where
  pub stored : S a
  pub spare : length (arena_nodes m) + k + 4 * length (coming g) ≤ length (arena_nodes n) + 4 * length (coming f)
  pub goes : (x : X) → o x ≡ w a x

abbrev pub Leads : {X A : Type 0} → ℕ → (A → Type 0) → (X → Reading) → (A → X → Reading) → Feed → Arena → Feed → Arena → Result A Stop → Type 0
Leads k S o w f n g m (Ok a) = Led k S o w f n g m a
Leads {X = X} k S o w f n g m (Err y) = (x : X) → judged (o x) ≡ stop_of y

pub record Tells {X A : Type 0} (k : ℕ) (S : A → Type 0) (o : X → Reading) (w : A → X → Reading) (f : Feed) (n : Arena) (g : Feed) (m : Arena) (r : Result A Stop) : Type 0 where
  pub kept : Kept f n g m
  pub leads : Leads k S o w f n g m r

-- the same of tokens alone: k of them were taken
pub record Got {X A : Type 0} (k : ℕ) (o : X → Reading) (w : A → X → Reading) (f g : Feed) (a : A) : Type 0 where
  pub count : length (coming g) + k ≤ length (coming f)
  pub goes : (x : X) → o x ≡ w a x

abbrev pub Gets : {X A : Type 0} → ℕ → (X → Reading) → (A → X → Reading) → Feed → Feed → Result A Stop → Type 0
Gets k o w f g (Ok a) = Got k o w f g a
Gets {X = X} k o w f g (Err y) = (x : X) → judged (o x) ≡ stop_of y

pub record Takes {X A : Type 0} (k : ℕ) (o : X → Reading) (w : A → X → Reading) (f g : Feed) (r : Result A Stop) : Type 0 where
  pub source : feed_source g ≡ feed_source f
  pub fewer : length (coming g) ≤ length (coming f)
  pub gets : Gets k o w f g r
