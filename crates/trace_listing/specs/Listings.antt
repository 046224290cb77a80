-- What the listing of a trace is, byte for byte.
use Rattle.std.specs.Prelude.{◌≡◌, ℕ, ◌+◌, ◌<◌, ◌≤◌, List, [], ◌++◌, map, length, take, drop, Some, None, Option}
use Rattle.copying.specs.declared.answers.Ending.{Ending}
use Rattle.copying.specs.declared.answers.Ending.TheVariants.{AllCopied, NoSpare}
use Rattle.copying.specs.Copies.{All, copied}
use Rattle.copying.specs.Endings.{ending_number}
use Rattle.host.specs.Calls.{all_fed}
use Rattle.host.specs.Meaning.{Meaning, under_quota}
use Rattle.number_output.specs.Numbers.{pair_text}
use Rattle.numeral.specs.Numerals.{numeral}
use Rattle.tracer_host.specs.declared.flaws.TraceFlaw.{TraceFlaw}
use Rattle.tracer_host.specs.Traces.{flaw_number, radius_lines, trace_flaw}

-- the last line: a number and a count
abbrev pub summary : ℕ → ℕ → List ℕ
summary = pair_text

-- a tracer host over a trace, which prints nothing
abbrev pub tracer_start : List ℕ → Meaning
tracer_start bs = record { lines = radius_lines (drop 7 bs); printed = []; spare = 0 }

-- a quota of 4,096 bytes over a text host without lines
abbrev pub pile_start : Meaning
pile_start = under_quota 4096 (record { lines = []; printed = []; spare = 8192 })

-- what was printed, and why no more was
abbrev pub copied_listing : All → List ℕ
copied_listing all = all.target.printed ++ summary (ending_number all.answer.ending) all.answer.count

abbrev pub listing_by : Option TraceFlaw → List ℕ → List ℕ
listing_by (Some f) bs = summary (flaw_number f) 0
listing_by None bs = copied_listing (copied (tracer_start bs) pile_start)

abbrev pub listing : List ℕ → List ℕ
listing bs = listing_by (trace_flaw bs) bs

-- the lines of some radii: each one's numeral and a line feed
abbrev pub radius_text : List ℕ → List ℕ
radius_text rs = all_fed (map numeral rs)

-- why a listing ends after n of the radii: there are no more, or the next one is too much for 4,096 bytes
abbrev pub EndsAfter : ℕ → List ℕ → Ending → Type 0
EndsAfter n rs AllCopied = n ≡ length rs
EndsAfter n rs NoSpare = (n < length rs) × (4096 < length (radius_text (take (n + 1) rs)))

-- a listing of some radii: as many of the first ones as fit into 4,096 bytes, one to a line, and the summary
pub record AsManyAsFit (rs : List ℕ) (out : List ℕ) : Type 0 where
  pub count : ℕ
  pub ending : Ending
  pub whole : out ≡ radius_text (take count rs) ++ summary (ending_number ending) count
  pub within : length (radius_text (take count rs)) ≤ 4096
  pub ends_so : EndsAfter count rs ending
