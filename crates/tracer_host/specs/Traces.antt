-- A trace file: the mark `RAD`, the version 1, a count, and that many radii, in hundredths of a millimetre; each of
-- these but the mark is a 16-bit number, high byte first.
use Rattle.std.specs.Prelude.{ℕ, ◌+◌, ◌*◌, Bool, cond, ◌&&◌, List, [], ◌∷◌, map, length, Some, None, Option, ◌==◌, nat_le, slice_index}
use Rattle.numeral.specs.Numerals.{numeral}
use Rattle.tracer_host.specs.declared.flaws.TraceFlaw.{TraceFlaw}
use Rattle.tracer_host.specs.declared.flaws.TraceFlaw.TheVariants.{Mark, Version, Length}

-- the number that the panel shows for a flaw
abbrev pub flaw_number : TraceFlaw → ℕ
flaw_number Mark = 61
flaw_number Version = 62
flaw_number Length = 63

-- the 16-bit number at a place
abbrev pub word_at : List ℕ → ℕ → ℕ
word_at bs i = slice_index bs i * 256 + slice_index bs (i + 1)

-- 7 bytes or more, the first of them the mark
abbrev pub marked : List ℕ → Bool
marked bs = nat_le 7 (length bs) && (slice_index bs 0 == 82 && (slice_index bs 1 == 65 && slice_index bs 2 == 68))

-- the flaw of a file, if it has one
abbrev pub trace_flaw : List ℕ → Option TraceFlaw
trace_flaw bs =
    cond (marked bs)
    (cond (word_at bs 3 == 1)
    (cond (length bs == 7 + 2 * word_at bs 5) None (Some Length))
    (Some Version))
    (Some Mark)

-- the 16-bit numbers of some bytes
abbrev pub radii_of : List ℕ → List ℕ
radii_of [] = []
radii_of (high ∷ []) = []
radii_of (high ∷ low ∷ bs) = (high * 256 + low) ∷ radii_of bs

-- the lines of a tracer: the numerals of the radii
abbrev pub radius_lines : List ℕ → List (List ℕ)
radius_lines bs = map numeral (radii_of bs)
