-- Rounding at numbers that were worked out by hand.
use Rattle.text_tokens.proofs.Common.{◌≡◌, ℕ, ℤ, pos, negsuc, Bool, true, false, refl, rounded, rounded_size, Decimal}

abbrev number : Bool → ℕ → ℤ → Decimal
number negative digits exponent = record { negative = negative; digits = digits; exponent = exponent }

-- 0.0005 and 0.00049 of a thousand
half_up : rounded (number false 5 (negsuc 3)) 3 ≡ pos 1
unfolding rounded rounded_size
half_up = refl

below_half : rounded (number false 49 (negsuc 4)) 3 ≡ pos 0
unfolding rounded rounded_size
below_half = refl

-- half of -1 is rounded up too
negative_half : rounded (number true 5 (negsuc 3)) 3 ≡ pos 0
unfolding rounded rounded_size
negative_half = refl

past_negative_half : rounded (number true 51 (negsuc 4)) 3 ≡ negsuc 0
unfolding rounded rounded_size
past_negative_half = refl

-- 10000.0005 of a thousand is one above ten million
one_above : rounded (number false 100000005 (negsuc 3)) 3 ≡ pos 10000001
unfolding rounded rounded_size
one_above = refl
