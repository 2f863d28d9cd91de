-- Whole numbers near a decimal (this project's profile).
use Rattle.std.specs.Prelude.{◌≡◌, ℕ, suc, ◌+◌, ◌-◌, ◌*◌, ◌/◌, ◌%◌, ◌^◌, nat_eq, ℤ, pos, negsuc}
use Rattle.std.specs.Prelude.{neg_ℤ, ◌+ℤ◌, ◌-ℤ◌, ◌*ℤ◌, ◌≤ℤ◌, ◌<ℤ◌, Bool, if◌then◌else◌}
use Rattle.text_tokens.specs.declared.decimal.Decimal.{Decimal}

-- A power of ten puts so many zeros behind the digits, or so many digits behind the point.
abbrev pub zeros : ℤ → ℕ
zeros (pos n) = n
zeros (negsuc n) = 0

abbrev pub places : ℤ → ℕ
places (pos n) = 0
places (negsuc n) = suc n

-- digits * 10 ^ power is a whole number n; both sides times the inverse of the power where that is
-- negative
abbrev pub IsWholeValue : ℕ → ℤ → Type 0
IsWholeValue digits power = (n : ℕ) × (n * 10 ^ places power ≡ digits * 10 ^ zeros power)

-- the same, as a test
abbrev pub is_whole_value : ℕ → ℤ → Bool
is_whole_value digits power = nat_eq ((digits * 10 ^ zeros power) % 10 ^ places power) 0

abbrev pub signed : Bool → ℕ → ℤ
signed negative size = if negative then neg_ℤ (pos size) else pos size

-- n is the whole number nearest to the number, a half rounded up: 2 * n - 1 <= 2 * 10 ^ power *
-- number < 2 * n + 1; all three sides times the inverse of the power where that is negative
pub record IsNearest (negative : Bool) (digits : ℕ) (power : ℤ) (n : ℤ) : Type 0 where
  pub low : (((pos 2 *ℤ n) -ℤ pos 1) *ℤ pos (10 ^ places power))
      ≤ℤ (pos 2 *ℤ signed negative (digits * 10 ^ zeros power))
  pub high : (pos 2 *ℤ signed negative (digits * 10 ^ zeros power)) <ℤ
      (((pos 2 *ℤ n) +ℤ pos 1) *ℤ pos (10 ^ places power))

-- n is d * 10 ^ scale rounded
abbrev pub IsRounded : Decimal → ℕ → ℤ → Type 0
IsRounded d scale n = IsNearest d.negative d.digits (d.exponent +ℤ pos scale) n

-- ---- the same number, computed

-- its magnitude; the half of a negative number is rounded toward zero
abbrev pub size_cut : Bool → ℕ → ℕ → ℕ
size_cut negative digits unit = (2 * digits + unit - (if negative then 1 else 0)) / (2 * unit)

abbrev pub size_at : Bool → ℕ → ℤ → ℕ
size_at negative digits (pos n) = digits * 10 ^ n
size_at negative digits (negsuc n) = size_cut negative digits (10 ^ suc n)

unfoldable pub rounded_size : Decimal → ℕ → ℕ
rounded_size d scale = size_at d.negative d.digits (d.exponent +ℤ pos scale)

unfoldable pub rounded : Decimal → ℕ → ℤ
rounded d scale = signed d.negative (rounded_size d scale)

-- it is that number, and no other is
abbrev pub DecimalRoundsToNearestInteger : Type 0
DecimalRoundsToNearestInteger =
    (d : Decimal) (scale : ℕ) → IsRounded d scale (rounded d scale)
    × ((n : ℤ) → IsRounded d scale n → n ≡ rounded d scale)
