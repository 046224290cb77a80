-- The trace file of some radii, and that a checked trace is one: laws that do not say how a file is judged or read.
use Rattle.std.specs.Prelude.{◌≡◌, ℕ, ◌/◌, ◌%◌, ◌<◌, Bool, true, false, cond, List, [], ◌∷◌, ◌++◌, length, drop, None, nat_lt}
use Rattle.host.specs.Calls.{all_fed}
use Rattle.tracer_host.specs.Frames.{framed, unframed}
use Rattle.tracer_host.specs.Traces.{radii_of, trace_flaw}

-- whether all these numbers are below a bound
abbrev pub all_below : ℕ → List ℕ → Bool
all_below k [] = true
all_below k (n ∷ ns) = cond (nat_lt n k) (all_below k ns) false

-- numbers as 16 bits each, high byte first
abbrev pub words : List ℕ → List ℕ
words [] = []
words (n ∷ ns) = (n / 256) ∷ (n % 256) ∷ words ns

-- the file that holds these radii: mark, version, count, radii
abbrev pub file_of : List ℕ → List ℕ
file_of rs = 82 ∷ 65 ∷ 68 ∷ 0 ∷ 1 ∷ (length rs / 256) ∷ (length rs % 256) ∷ words rs

-- the files without a flaw are just those of some radii, and the radii come back
pub record FilesExactly : Type 0 where
  pub sound : (rs : List ℕ) → all_below 65536 rs ≡ true → length rs < 65536 → trace_flaw (file_of rs) ≡ None
  pub back : (rs : List ℕ) → radii_of (drop 7 (file_of rs)) ≡ rs
  pub only : (bs : List ℕ) → all_below 256 bs ≡ true → trace_flaw bs ≡ None → file_of (radii_of (drop 7 bs)) ≡ bs

-- lines as frames
abbrev pub frames_of : List (List ℕ) → List ℕ
frames_of [] = []
frames_of (l ∷ ls) = framed l ++ frames_of ls

-- what a buffer of frames stands for is each line and a line feed
abbrev pub FramesReadBack : Type 0
FramesReadBack = (ls : List (List ℕ)) → unframed 0 (frames_of ls) ≡ all_fed ls
