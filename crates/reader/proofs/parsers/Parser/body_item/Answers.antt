use Rattle.std.proofs.Common.{ℕ, Ok, Err, Result}
use Rattle.arena.specs.declared.arenas.Arena.{Arena}
use Rattle.reader.specs.Bodies.{DeclaredAt, ItemTold}
use Rattle.reader.specs.Owners.{Owner}
use Rattle.reader.specs.declared.feeds.Feed.{Feed}
use Rattle.reader.specs.declared.items.Item.{Item}
use Rattle.reader.specs.declared.refusals.Stop.{Stop}
use Rattle.reader.proofs.parsers.Parser.body_item.Goals as goal

-- What is told of a body of any owner.
abbrev anyone : {P : Owner → Type 0} {d : ℕ} → DeclaredAt P d → DeclaredAt (λ (x : Owner). Unit {0}) d
anyone x = record { owner = x.owner; owned = tt; deep = x.deep; declared = x.declared }

item_anywhere : {P : Owner → Type 0} {d : ℕ} {f g : Feed} {n m : Arena} (r : Result Item Stop) → ItemTold (λ (x : Owner). Unit {0}) d f n g m r → ItemTold P d f n g m r
item_anywhere (Ok (Item.Declaration i)) told = record { kept = told.kept; leads = record { stored = told.leads.stored; spare = told.leads.spare; goes = λ x. told.leads.goes (anyone x) } }
item_anywhere (Ok (Item.Statement i)) told = record { kept = told.kept; leads = record { stored = told.leads.stored; spare = told.leads.spare; goes = λ x. told.leads.goes (anyone x) } }
item_anywhere (Err y) told = record { kept = told.kept; leads = λ x. told.leads (anyone x) }

pub returns-in-Name : goal.returns-in-Name
returns-in-Name g c = item_anywhere c.first_line.result c.first_line.ensures
