-- What is told of tokens that open a level: where they must come, and what must come is one level further in.
use Rattle.std.specs.Prelude.{◌≡◌, ℕ, ◌+◌, [], ◌∷◌, Ok, Err, Result}
use Rattle.grammar.specs.Tree as tree
use Rattle.grammar.specs.Reader.{opens, seq}
use Rattle.grammar.specs.Limits.{limited}
use Rattle.grammar.specs.Verdict.{refused}
use Rattle.reader.specs.Feeds.{coming}
use Rattle.reader.specs.Leading.{Takes}
use Rattle.reader.specs.Places.{Inward}
use Rattle.reader.specs.Stops.{stop_of}
use Rattle.reader.specs.declared.depths.Depth.{Depth}
use Rattle.reader.specs.declared.feeds.Feed.{Feed}
use Rattle.reader.specs.declared.refusals.Stop.{Stop}

-- one level more than d, which the token at p opens, unless as many are open as may be
abbrev pub DeeperTold : ℕ → ℕ → Result Depth Stop → Type 0
DeeperTold d p (Ok e) = e.levels ≡ d + 1
DeeperTold d p (Err y) = (d ≡ 64) × (stop_of y ≡ refused 7 p)

abbrev pub IndentTold : ℕ → Feed → Feed → Result Depth Stop → Type 0
IndentTold d f g r = Takes {X = Inward d} 1 (λ x. limited 64 (coming f) (seq tree.indent [] x.state)) (λ _ x. limited 64 (coming g) x.state) f g r

-- a line's end, and the INDENT after it
abbrev pub IndentedTold : ℕ → Feed → Feed → Result Depth Stop → Type 0
IndentedTold d f g r = Takes {X = Inward d} 2 (λ x. limited 64 (coming f) (seq tree.newline (tree.indent ∷ []) x.state)) (λ _ x. limited 64 (coming g) x.state) f g r

abbrev pub RoundTold : ℕ → Feed → Feed → Result Depth Stop → Type 0
RoundTold d f g r = Takes {X = Inward d} 1 (λ x. limited 64 (coming f) (opens x.state)) (λ _ x. limited 64 (coming g) x.state) f g r
