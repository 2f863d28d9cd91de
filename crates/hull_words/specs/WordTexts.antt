-- What one word says by itself (this project's profile).
use Rattle.std.specs.Prelude.{ℕ, ◌==◌, nat_le, nat_lt, Bool, false, not, ◌&&◌, List, [], ◌∷◌}
use Rattle.std.specs.Prelude.{length, drop, Option, Some, None, is_none, if◌then◌else◌, codes}
use Rattle.std.specs.List.{starts_with, before_first, after_first, position_or_len, list_all}
use Rattle.std.specs.Prelude.{nat_eq}
use Rattle.std.specs.Char.{is_ascii_digit}
use Rattle.std.specs.Str.Parse.{digits_value}

-- an option begins with two dashes
unfoldable pub is_option : List ℕ → Bool
is_option word = starts_with nat_eq word (codes "--")

abbrev pub is_equals : ℕ → Bool
is_equals byte = byte == 61

-- its name ends at the first `=`
unfoldable pub option_name : List ℕ → List ℕ
option_name word = before_first is_equals (drop 2 word)

-- what follows the first `=`, if there is one
unfoldable pub own_value : List ℕ → Option (List ℕ)
own_value word =
    if nat_lt (position_or_len is_equals (drop 2 word)) (length (drop 2 word)) then Some
    (after_first is_equals (drop 2 word)) else None

-- an option without `=` takes the next word
abbrev pub takes_next : List ℕ → Bool
takes_next word = is_option word && is_none (own_value word)

-- a value isn't empty and doesn't begin with a dash
unfoldable pub can_be_value : List ℕ → Bool
can_be_value [] = false
can_be_value (byte ∷ bytes) = not (byte == 45)

-- 1 to 20 decimal digits without a sign
unfoldable pub is_numeral : List ℕ → Bool
is_numeral text = nat_le 1 (length text) && nat_le (length text) 20 && list_all is_ascii_digit text

-- the number that such digits write, where it is within the range
unfoldable pub number_in : ℕ → ℕ → List ℕ → Option ℕ
number_in least most text =
    if is_numeral text && (nat_le least (digits_value 10 text) && nat_le (digits_value 10 text)
    most) then Some (digits_value 10 text) else None
