-- The token at the front of some bytes, and how many of them it takes: the longest one.
use Rattle.std.specs.Prelude.{ℕ, ◌+◌, List, take, drop, Some, None, Option, slice_index, slice_range}
use Rattle.std.specs.List.{prefix_len}
use Rattle.lexis.specs.Bytes.{class_of}
use Rattle.lexis.specs.declared.bytes.Class.{Class}
use Rattle.lexis.specs.declared.bytes.Class.TheVariants.{Blank, LineEnd, Hash, Letter, Digit, Quote, Mark, Other}
use Rattle.lexis.specs.Tokens.{Tok}
use Rattle.lexis.specs.Numbers.{number_of}
use Rattle.lexis.specs.Runs.{in_run}
use Rattle.lexis.specs.Texts.{text_end}
use Rattle.lexis.specs.Words.{keyword_of, symbol_of}
use Rattle.lexis.specs.declared.scans.Run.{Run}
use Rattle.lexis.specs.declared.scans.Quoted.{Quoted}
use Rattle.lexis.specs.declared.faults.Fault.{Fault}
use Rattle.lexis.specs.declared.tokens.Keyword.{Keyword}
use Rattle.lexis.specs.declared.tokens.Symbol.{Symbol}

abbrev pub named : Option Keyword → List ℕ → Tok
named (Some k) w = Tok.keyword k
named None w = Tok.name w

abbrev pub word_at : List ℕ → Tok × ℕ
word_at r =
    let n = prefix_len (in_run Run.Word) r in
    (named (keyword_of (take n r)) (take n r), n)

abbrev pub numbered : Option ℕ → Tok
numbered (Some v) = Tok.int v
numbered None = Tok.fault Fault.Number

abbrev pub number_at : List ℕ → Tok × ℕ
number_at r =
    let n = prefix_len (in_run Run.Digits) r in
    (numbered (number_of (take n r)), n)

-- the bytes between the quotes, as they are written
abbrev pub texted : List ℕ → Option ℕ → Tok × ℕ
texted r (Some e) = (Tok.str (slice_range r 1 e), e + 1)
texted r None = (Tok.fault Fault.Text, 1)

abbrev pub text_at : List ℕ → Tok × ℕ
text_at r = texted r (text_end (Quoted.Plain 0) 1 (drop 1 r))

abbrev pub marked : Option (Symbol × ℕ) → Tok × ℕ
marked (Some o) = (Tok.symbol o.0, o.1)
marked None = (Tok.fault Fault.Byte, 1)

abbrev pub mark_at : List ℕ → Tok × ℕ
mark_at r = marked (symbol_of (slice_index r 0) (slice_index r 1))

abbrev pub stray_at : List ℕ → Tok × ℕ
stray_at r = (Tok.fault Fault.Byte, 1)

abbrev pub scan_by : Class → List ℕ → Tok × ℕ
scan_by Blank r = stray_at r
scan_by LineEnd r = stray_at r
scan_by Hash r = stray_at r
scan_by Letter r = word_at r
scan_by Digit r = number_at r
scan_by Quote r = text_at r
scan_by Mark r = mark_at r
scan_by Other r = stray_at r

abbrev pub scan_of : List ℕ → Tok × ℕ
scan_of r = scan_by (class_of (slice_index r 0)) r
