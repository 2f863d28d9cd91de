-- The token of what was read as a number.
use Rattle.text_tokens.specs.Scalars.{number, long_number}
use Rattle.text_tokens.specs.Grammar.{Token, word, bad}
use Rattle.text_tokens.specs.declared.number.Numeral.{Numeral}
use Rattle.text_tokens.specs.declared.number.Numeral.TheVariants.{Number, TooLong, Bad}

abbrev pub numeral_of : Numeral → Token
numeral_of (Number d) = word (number d)
numeral_of TooLong = word long_number
numeral_of Bad = bad
