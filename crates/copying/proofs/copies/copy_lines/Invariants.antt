use Rattle.std.proofs.Common.{◌≡◌, ◌+◌, ◌^◌, ◌<◌, ◌≤◌, length}
use Rattle.copying.specs.Copies.{copied, copied_from}
use Rattle.copying.proofs.copies.copy_lines.Given as goal

abbrev pub invariant-loop-count : goal.invariant-loop-count
invariant-loop-count g l =
    let a = g.A.Host.meaning l.from in
    let b = g.B.Host.meaning l.to in
    let a₀ = g.A.Host.meaning l.initial.from in
    let b₀ = g.B.Host.meaning l.initial.to in
    (copied_from l.count a.lines a b ≡ copied a₀ b₀) × (l.count + b.spare ≤ b₀.spare) × (l.count ≡ 0 → b.spare ≡ b₀.spare) × (0 < l.count → b₀.spare < 2 ^ 64)

abbrev pub decreases-loop-count : goal.decreases-loop-count
decreases-loop-count g l = length (g.A.Host.meaning l.from).lines
