-- Which bytes go on with a word, a number or a comment.
use Rattle.std.specs.Prelude.{ℕ, Bool, true, false, not}
use Rattle.lexis.specs.Bytes.{class_of}
use Rattle.lexis.specs.declared.bytes.Class.{Class}
use Rattle.lexis.specs.declared.bytes.Class.TheVariants.{Blank, LineEnd, Hash, Letter, Digit, Quote, Mark, Other}
use Rattle.lexis.specs.declared.scans.Run.{Run}

abbrev pub ends_line : Class → Bool
ends_line Blank = false
ends_line LineEnd = true
ends_line Hash = false
ends_line Letter = false
ends_line Digit = false
ends_line Quote = false
ends_line Mark = false
ends_line Other = false

abbrev pub is_numeral : Class → Bool
is_numeral Blank = false
is_numeral LineEnd = false
is_numeral Hash = false
is_numeral Letter = false
is_numeral Digit = true
is_numeral Quote = false
is_numeral Mark = false
is_numeral Other = false

abbrev pub in_word : Class → Bool
in_word Blank = false
in_word LineEnd = false
in_word Hash = false
in_word Letter = true
in_word Digit = true
in_word Quote = false
in_word Mark = false
in_word Other = false

abbrev pub in_run : Run → ℕ → Bool
in_run Run.Word b = in_word (class_of b)
in_run Run.Digits b = is_numeral (class_of b)
in_run Run.Comment b = not (ends_line (class_of b))

-- outside comments and strings, a byte of this class begins a token or is a fault
abbrev pub starts : Class → Bool
starts Blank = false
starts LineEnd = false
starts Hash = false
starts Letter = true
starts Digit = true
starts Quote = true
starts Mark = true
starts Other = true
