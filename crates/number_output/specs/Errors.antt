-- What want of a numeral or of room is, where a number is appended.
use Rattle.numeral.specs.declared.errors.NumeralError.{NumeralError}
use Rattle.numeral.specs.declared.errors.NumeralError.TheVariants as unwritten
use Rattle.number_output.specs.declared.errors.NumberError.{NumberError}
use Rattle.number_output.specs.declared.errors.NumberError.TheVariants.{OverBound, NoRoom}

abbrev pub number_error : NumeralError → NumberError
number_error unwritten.OverBound = OverBound
number_error unwritten.PlaceTooShort = NoRoom
