-- What a copy through a quota of 4,096 bytes can have printed.
use Rattle.std.proofs.Common.{◌≡◌, ℕ, ◌+◌, ◌≤◌, List, [], ◌∷◌, ◌++◌, length, ap, ◌∙◌, arith, length-append}
use Rattle.copying.specs.declared.answers.Copied.{Copied}
use Rattle.copying.specs.Copies.{Moved}
use Rattle.host.specs.Calls.{all_fed, fed}
use Rattle.host.specs.Meaning.{Meaning}

-- each line costs a byte at least
lines_cost : (ls : List (List ℕ)) → length ls ≤ length (all_fed ls)
lines_cost [] = omega arith
lines_cost (l ∷ ls) =
    let h = lines_cost ls in
    let e : length (fed l ++ all_fed ls) ≡ length l + 1 + length (all_fed ls) = simp length-append (omega arith) in
    omega arith

-- so neither the count nor what was printed is over the spare
pub few : {a b a' b' : Meaning} {answer : Copied} → Moved a b answer a' b' → answer.count ≤ b.spare
few m =
    let h = lines_cost m.went in
    let s = m.spent in
    let k = m.counted in
    omega arith

pub short : {a b a' b' : Meaning} {answer : Copied} → b.printed ≡ [] → Moved a b answer a' b' → length b'.printed ≤ b.spare
short none m =
    let s = m.spent in
    let l = ap length (m.printed ∙ ap (λ x. x ++ all_fed m.went) none) in
    omega arith
