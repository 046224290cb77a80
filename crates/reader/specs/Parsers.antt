-- What a function of the parser tells, of its tokens and its table before and after.
use Rattle.std.specs.Prelude.{Result}
use Rattle.arena.specs.declared.arenas.Arena.{Arena}
use Rattle.reader.specs.declared.feeds.Feed.{Feed}
use Rattle.reader.specs.declared.parsers.Parser.{Parser}
use Rattle.reader.specs.declared.refusals.Stop.{Stop}

abbrev pub Between : {A : Type 0} → (Feed → Arena → Feed → Arena → Result A Stop → Type 0) → Parser → Parser → Result A Stop → Type 0
Between T p q r = T p.feed p.arena q.feed q.arena r
