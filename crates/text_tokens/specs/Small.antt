-- The number that a small one is.
use Rattle.text_tokens.specs.declared.decimal.Decimal.{Decimal}
use Rattle.text_tokens.specs.declared.small.SmallNumber.{SmallNumber}

abbrev pub decimal_of : SmallNumber → Decimal
decimal_of s = record { digits = s.digits; exponent = s.exponent; negative = s.negative }
