-- What checking some bytes answers.
use Rattle.std.specs.Prelude.{◌≡◌, ℕ, List, Some, None, Ok, Err, Option, Result}
use Rattle.host.specs.declared.checks.CheckError.{CheckError}
use Rattle.host.specs.declared.checks.CheckError.TheVariants.{Flawed, NoMemory}

-- bs has this flaw or none, and r is the answer: the flaw, or a value that holds these very bytes, or want of memory
abbrev pub Checks : {X F : Type 0} → (X → List ℕ) → List ℕ → Option F → Result X (CheckError F) → Type 0
Checks holds bs (Some f) r = r ≡ Err (Flawed f)
Checks holds bs None (Ok x) = holds x ≡ bs
Checks holds bs None (Err e) = e ≡ NoMemory
