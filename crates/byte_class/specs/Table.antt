-- What the table must hold: the class of each byte, in order.
use Rattle.std.specs.Prelude.{List, map}
use Rattle.std.specs.List.{range_with_len}
use Rattle.lexis.specs.Bytes.{class_of}
use Rattle.lexis.specs.declared.bytes.Class.{Class}

abbrev pub classes : List Class
classes = map class_of (range_with_len 0 256)
