-- What a token says that is a value by itself. Text is a list of bytes.
use Rattle.std.specs.Prelude.{ℕ, Bool, List}
use Rattle.text_tokens.specs.declared.decimal.Decimal.{Decimal}

pub data Scalar : Type 0 where
  null : Scalar
  flag : Bool → Scalar
  number : Decimal → Scalar
  -- a number with too many digits or too large an exponent, whatever they are
  long_number : Scalar
  text : List ℕ → Scalar
