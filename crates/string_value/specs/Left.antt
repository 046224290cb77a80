-- What is left of a string's value.
use Rattle.std.specs.Prelude.{ℕ, List}
use Rattle.lexis.specs.Texts.{string_value}
use Rattle.string_value.specs.declared.StringValue.{StringValue}

abbrev pub value_left : StringValue → List ℕ
value_left v = string_value v.raw.now
