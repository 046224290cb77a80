-- One node more in a table.
use Rattle.std.proofs.Common.{◌≡◌, ℕ, ◌+◌, true, List, [], ◌∷◌, ◌++◌, length, subst, add-zero, arith}
use Rattle.arena.specs.declared.nodes.Node.{Node}
use Rattle.arena.specs.Order.{before, ordered}

-- a node whose children stand before it keeps the order
pub ordered_more : (k : ℕ) (ns : List Node) (n : Node) → ordered k ns ≡ true → before (k + length ns) n ≡ true → ordered k (ns ++ (n ∷ [])) ≡ true
ordered_more k [] n h b = let c : before k n ≡ true = subst (λ j. before j n ≡ true) (add-zero k) b in grind arith
ordered_more k (x ∷ ns) n h b =
    let first : before k x ≡ true = grind arith in
    let others : ordered (k + 1) ns ≡ true = grind arith in
    let e : k + length (x ∷ ns) ≡ k + 1 + length ns = omega arith in
    let r = ordered_more (k + 1) ns n others (subst (λ j. before j n ≡ true) e b) in
    grind arith
