-- The parts of a value that tests look at.
use Rattle.std.specs.Prelude.{◌==◌, ℕ, Bool, true, false, List, [], ◌∷◌, Option}
use Rattle.std.specs.Prelude.{Some, None, ℤ, pos, negsuc, if◌then◌else◌, bytes_eq}
use Rattle.text_tokens.specs.declared.decimal.Decimal.{Decimal}
use Rattle.text_tokens.specs.Rounding.{rounded, is_whole_value}
use Rattle.uc_text.specs.Values.{Value}
use Rattle.uc_text.specs.Pairs.{Pair}
pub use Rattle.uc_text.specs.ValueParts.{number_in, list_in, object_in}

-- the value under a key of an object
unfoldable pub value_under : List ℕ → List Pair → Option Value
value_under key [] = None
value_under key (m ∷ ms) = if bytes_eq m.name key then Some m.value else value_under key ms

abbrev pub is_whole : Decimal → Bool
is_whole d = is_whole_value d.digits d.exponent

-- 0 is no, 1 is yes
abbrev pub bit : ℤ → Option Bool
bit (pos n) = if n == 0 then Some false else if n == 1 then Some true else None
bit (negsuc n) = None

-- a number with value 0 or 1, however it is written
abbrev pub bit_of : Decimal → Option Bool
bit_of d = if is_whole d then bit (rounded d 0) else None
