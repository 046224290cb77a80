-- What the answers of a check tell.
use Rattle.std.proofs.Common.{◌≡◌, ℕ, List, Some, None, Ok, Err, Option, refl, arith}
use Rattle.host.specs.declared.checks.CheckError.{CheckError}
use Rattle.host.specs.declared.checks.CheckError.TheVariants.{Flawed}
use Rattle.host.specs.Checks.{Checks}

-- what a value that was made tells
pub record Passed {X F : Type 0} (holds : X → List ℕ) (bs : List ℕ) (flaw : Option F) (x : X) : Type 0 where
  pub flawless : flaw ≡ None
  pub same : holds x ≡ bs

pub passed : {X F : Type 0} (holds : X → List ℕ) (bs : List ℕ) (flaw : Option F) (x : X) → Checks holds bs flaw (Ok x) → Passed holds bs flaw x
passed holds bs (Some f) x h = let z : ◌≡◌ {A = ℕ} 0 1 = cc in absurd (omega arith)
passed holds bs None x h = record { flawless = refl; same = h }

-- what a flaw that was told tells
pub refused : {X F : Type 0} (holds : X → List ℕ) (bs : List ℕ) (flaw : Option F) (e : CheckError F) (f : F) → e ≡ Flawed f → Checks holds bs flaw (Err e) → flaw ≡ Some f
refused holds bs (Some g) e f is h = cc
refused holds bs None e f is h = let z : ◌≡◌ {A = ℕ} 0 1 = cc in absurd (omega arith)
