-- One computed test, that the table is `map class_of` of 0 to 255, gives the rule at each byte.
use Rattle.std.proofs.Common.{◌<◌, ◌∙◌, arith}
use Rattle.std.proofs.lemmas.List.FromFn.{get_or-map-range_with_len}
use Rattle.lexis.specs.Bytes.{class_of}
use Rattle.lexis.specs.declared.bytes.Class.TheVariants.{Blank}
use Rattle.byte_class.proofs.class_of.Goals as goal

pub returns : goal.returns
returns c = let h : c.args.b < 256 = omega arith in c.entry.ensures ∙ get_or-map-range_with_len class_of 0 256 c.args.b c.args.b Blank h (omega arith)
