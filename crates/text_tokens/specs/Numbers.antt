-- The numbers of RFC 8259, part by part: a sign, the whole part, a fraction, an exponent.
use Rattle.std.specs.Prelude.{ℕ, ◌+◌, ◌-◌, ◌*◌, ◌==◌, ◌&&◌, ◌||◌, Bool, true, false, not, nat_lt}
use Rattle.std.specs.Prelude.{nat_le, if◌then◌else◌, List, [], ◌∷◌, ◌++◌, length, slice_index, take}
use Rattle.std.specs.Prelude.{drop, ℤ, pos, neg_ℤ, ◌-ℤ◌, ◌≡◌}
use Rattle.std.specs.Char.{is_ascii_digit}
use Rattle.std.specs.List.{prefix_len}
use Rattle.text_tokens.specs.Scalars.{number, long_number}
use Rattle.text_tokens.specs.Grammar.{Token, word, bad}

-- a number's token is the longest run of these
abbrev pub is_number_byte : ℕ → Bool
is_number_byte b = is_ascii_digit b || b == 45 || b == 43 || b == 46 || b == 101 || b == 69

abbrev pub begins_with : ℕ → List ℕ → Bool
begins_with c bs = nat_lt 0 (length bs) && (slice_index bs 0 == c)

-- the digits in front, and what stands behind them
unfoldable pub front : List ℕ → List ℕ
front bs = take (prefix_len is_ascii_digit bs) bs

unfoldable pub behind : List ℕ → List ℕ
behind bs = drop (prefix_len is_ascii_digit bs) bs

abbrev pub AreDigits : List ℕ → Type 0
AreDigits [] = Unit {0}
AreDigits (b ∷ bs) = (is_ascii_digit b ≡ true) × AreDigits bs

-- the value of digits
abbrev pub value_from : ℕ → List ℕ → ℕ
value_from n [] = n
value_from n (b ∷ bs) = value_from (10 * n + (b - 48)) bs

abbrev pub value : List ℕ → ℕ
value bs = value_from 0 bs

-- the digits behind the leading zeros
abbrev pub significant : List ℕ → List ℕ
significant [] = []
significant (b ∷ bs) = if b == 48 then significant bs else b ∷ bs

-- digits, and no zero in front of others
abbrev pub is_whole_part : List ℕ → Bool
is_whole_part ds = nat_lt 0 (length ds) && (length ds == 1 || not (begins_with 48 ds))

abbrev pub are_digits : List ℕ → Bool
are_digits ds = nat_lt 0 (length ds) && (prefix_len is_ascii_digit ds == length ds)

-- the written exponent less the count of fraction digits
unfoldable pub exponent_of : Bool → List ℕ → List ℕ → ℤ
exponent_of lowers power fraction =
    (if lowers then neg_ℤ (pos (value power)) else pos (value power)) -ℤ pos (length fraction)

-- a number of these parts: at most 30 digits count, and an exponent of at most 400 (this project's
-- profile)
unfoldable pub number_token : Bool → List ℕ → List ℕ → Bool → List ℕ → Token
number_token negative whole fraction lowers power =
    if nat_le (length (significant (whole ++ fraction))) 30 && nat_le (value power) 400
    then word (number (record {
      negative = negative;
      digits = value (whole ++ fraction);
      exponent = exponent_of lowers power fraction;
    }))
    else word long_number

-- behind the letter and the sign of an exponent
unfoldable pub power_digits : Bool → List ℕ → List ℕ → Bool → List ℕ → Token
power_digits negative whole fraction lowers bs =
    if are_digits bs then number_token negative whole fraction lowers bs else bad

-- behind the letter of an exponent
unfoldable pub power : Bool → List ℕ → List ℕ → List ℕ → Token
power negative whole fraction bs =
    if begins_with 45 bs then power_digits negative whole fraction true (drop 1 bs)
    else if begins_with 43 bs then power_digits negative whole fraction false (drop 1 bs)
    else power_digits negative whole fraction false bs

-- behind the fraction
unfoldable pub behind_fraction : Bool → List ℕ → List ℕ → List ℕ → Token
behind_fraction negative whole fraction bs =
    if length bs == 0 then number_token negative whole fraction false []
    else if begins_with 101 bs || begins_with 69 bs then power negative whole fraction (drop 1 bs)
    else bad

-- behind the whole part
unfoldable pub behind_whole : Bool → List ℕ → List ℕ → Token
behind_whole negative whole bs =
    if begins_with 46 bs then (if nat_lt 0 (length (front (drop 1 bs))) then behind_fraction
    negative whole (front (drop 1 bs)) (behind (drop 1 bs)) else bad)
    else behind_fraction negative whole [] bs

-- behind the sign
unfoldable pub unsigned : Bool → List ℕ → Token
unsigned negative bs =
    if is_whole_part (front bs) then behind_whole negative (front bs) (behind bs) else bad

unfoldable pub number_of : List ℕ → Token
number_of run = if begins_with 45 run then unsigned true (drop 1 run) else unsigned false run
