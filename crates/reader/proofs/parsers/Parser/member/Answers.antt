use Rattle.std.proofs.Common.{leb, ap, ◌∙◌, arith}
use Rattle.arena.specs.Tables.{arena_nodes}
use Rattle.arena.specs.Trees.{phrase, spelled}
use Rattle.grammar.specs.Tree as tree
use Rattle.grammar.specs.Tree.{at}
use Rattle.grammar.specs.Reader.{field, have, naming}
use Rattle.grammar.specs.Limits.{limited}
use Rattle.reader.specs.Feeds.{coming, feed_source}
use Rattle.reader.specs.Forms.{form_of}
use Rattle.reader.specs.Told.{having}
use Rattle.reader.specs.declared.kinds.Kind.{Kind}
use Rattle.reader.proofs.Machine.{dots, tight_same}
use Rattle.reader.proofs.Steps.{Passed, faced, kept_passed, passed, passed_long, told_made}
use Rattle.reader.proofs.Storing.{kept_then}
use Rattle.reader.proofs.parsers.Parser.member.Goals as goal

pub returns : goal.returns
returns c =
    let f = c.args.self.now.feed in
    let n = c.args.self.now.arena in
    let src = feed_source f in
    let x = c.args.read in
    let g = c.advance.new.self in
    let e = (phrase src (arena_nodes n) x.node).expr in
    let face = faced src c.args.next (coming f) Kind.Dot c.requires.facing c.requires.kind in
    let p = passed {f = f} {g = g} face c.advance.ensures.coming c.advance.ensures.source in
    let name = c.in_ok-name.name in
    let r : Passed (at (tree.name (spelled (feed_source g) name)) name.at) g c.take_name.new.self = record { first = c.in_ok-name.ensures.told; source = c.in_ok-name.ensures.source } in
    let long = passed_long p in
    let more = passed_long r in
    told_made (kept_then (kept_passed n p) (kept_passed n r)) c.made.ensures tt (omega (arith, long, more)) (omega (arith, long, more))
    (λ h q.
    ap (λ ts. limited 64 ts (having src (arena_nodes n) x h)) p.first
    ∙ dots x.place (form_of x.form e) e h c.args.next.place (coming g) (ap (leb 8) (tight_same x.form e) ∙ c.requires.tight)
    ∙ ap (λ ts. limited 64 ts (naming (field x.place e h))) r.first
    ∙ ap (λ s. limited 64 (coming c.take_name.new.self) (have x.place tree.member (tree.mem x.place e (spelled s name)) h)) p.source)
