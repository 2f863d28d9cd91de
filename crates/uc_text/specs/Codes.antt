-- The numbers of the faults.
use Rattle.std.specs.Prelude.{ℕ}
use Rattle.uc_text.specs.declared.fault.TextCode.{TextCode}
use Rattle.uc_text.specs.declared.fault.TextCode.TheVariants.{NotJson, NumberTooLong, TooDeep}
use Rattle.uc_text.specs.declared.fault.TextCode.TheVariants.{DoubleKey}

abbrev pub number_of : TextCode → ℕ
number_of NotJson = 10
number_of NumberTooLong = 11
number_of TooDeep = 12
number_of DoubleKey = 13
