use Rattle.std.proofs.Common.{zero-add, arith, rules}
use Rattle.arena.specs.Tables.{arena_nodes}
use Rattle.arena.proofs.Stored.{ordered_more}
use Rattle.arena.proofs.arenas.Arena.push.Goals as goal

pub invariant_of-self : goal.invariant_of-self
invariant_of-self c =
    let a = c.args.self.now in
    let o = ordered_more 0 (arena_nodes a) c.args.node a.sorted (rw zero-add (grind arith)) in
    record { fits = (search rules, search rules); sorted = grind arith }
