-- The number that a token is.
use Rattle.std.specs.Prelude.{Bool, true, false, pos}
use Rattle.text_tokens.specs.declared.decimal.Decimal.{Decimal}
use Rattle.text_tokens.specs.Scalars.{number}
use Rattle.text_tokens.specs.Grammar.{Token, word}

abbrev pub is_number : Token → Bool
is_number (word (number d)) = true
is_number t = false

-- and 0 for any other token
abbrev pub decimal_in : Token → Decimal
decimal_in (word (number d)) = d
decimal_in t = record { negative = false; digits = 0; exponent = pos 0 }
