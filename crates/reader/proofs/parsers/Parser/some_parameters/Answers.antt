use Rattle.std.proofs.Common.{ℕ, List, ap}
use Rattle.arena.specs.Tables.{arena_nodes}
use Rattle.arena.specs.Trees.{phrase}
use Rattle.arena.specs.declared.arenas.Arena.{Arena}
use Rattle.grammar.specs.Tree as tree
use Rattle.grammar.specs.Tree.{Params, Token, at}
use Rattle.grammar.specs.Reader.{for_param, naming}
use Rattle.grammar.specs.Limits.{Reading, limited}
use Rattle.reader.specs.Feeds.{coming}
use Rattle.reader.specs.Functions.{past_param}
use Rattle.reader.specs.Parameters.{Header}
use Rattle.reader.specs.declared.feeds.Feed.{Feed}
use Rattle.reader.proofs.Leading.{Along}
use Rattle.reader.proofs.Steps.{Passed, kept_passed}

-- the list past the parameter at the node i
abbrev past : (d : ℕ) (src : List ℕ) → Feed → Arena → ℕ → Header d → Reading
past d src g m i x = past_param (coming g) (phrase src (arena_nodes m) i).params x

-- one more is to come
abbrev wanted : (d : ℕ) (src : List ℕ) → Feed → Arena → ℕ → Header d → Reading
wanted d src g m i x = limited 64 (coming g) (naming (for_param x.place x.name (phrase src (arena_nodes m) i).params x.outer))

-- a comma
comma : {d : ℕ} {f g : Feed} {q : ℕ} (src : List ℕ) (m : Arena) (i : ℕ) → Passed (at (tree.mark tree.comma) q) f g → Along (past d src f m i) (wanted d src g m i) f m g m
comma src m i p = record { kept = kept_passed m p; goes = λ x. ap (λ ts. past_param ts (phrase src (arena_nodes m) i).params x) p.first }
