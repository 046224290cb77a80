use Rattle.std.proofs.Common.{[], ◌++◌, ◌≤◌, length, ap, arith, length-append}
use Rattle.host.specs.Meaning.{Meaning}
use Rattle.number_output.proofs.PairFacts.{pair_fits}
use Rattle.print_buffer.specs.Buffers.{buffer_bytes, buffer_room}
use Rattle.trace_listing.proofs.CopiedFacts.{few, short}
use Rattle.trace_listing.proofs.listings.list_lines.Goals as goal

pub overflow_cast-copied : goal.overflow_cast-copied
overflow_cast-copied c =
    let n : c.copy_lines-copied.result.count ≤ 4096 = omega (arith, few c.copy_lines-copied.ensures.moved) in
    omega arith

pub unwrap-requires-2 : goal.unwrap-requires-2
unwrap-requires-2 c =
    let n : c.copy_lines-copied.result.count ≤ 4096 = omega (arith, few c.copy_lines-copied.ensures.moved) in
    let s : length c.printed.result.now ≤ 4096 =
    omega (arith, short (ap (λ (m : Meaning). m.printed) c.requires.fresh) c.copy_lines-copied.ensures.moved, ap length c.printed.ensures) in
    let whole = length-append (buffer_bytes c.args.out.now) (c.printed.result.now ++ []) in
    let part = length-append c.printed.result.now [] in
    let room : 22 ≤ buffer_room c.append.new.self = grind arith in
    let e = pair_fits c.append.new.self c.from.result c.copy_lines-copied.result.count (omega arith) (omega arith) room in
    grind arith
