use Rattle.std.proofs.Common.{◌≡◌, arith}
use Rattle.copying.specs.Copies.{All, copied}
use Rattle.copying.proofs.AllLines.{moved}
use Rattle.copying.proofs.copies.copy_lines.Goals as goal

pub returns-in-Err-clause-moved : goal.returns-in-Err-clause-moved
returns-in-Err-clause-moved g c =
    let a = g.A.Host.meaning c.args.from.now in
    let b = g.B.Host.meaning c.args.to.now in
    let all : All = record {
      answer = record { count = c.loop-count.count; ending = c.in-Err.ending };
      source = g.A.Host.meaning c.copy_one.new.from;
      target = g.B.Host.meaning c.copy_one.new.to;
    } in
    let e : copied a b ≡ all = grind arith in
    moved a b all e
