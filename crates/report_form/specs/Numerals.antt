-- Numbers in decimal digits, without a leading zero, and with `-` before a negative one (this
-- project's profile).
use Rattle.std.specs.Prelude.{ℕ, zero, suc, ◌+◌, ◌/◌, ◌%◌, nat_lt, if◌then◌else◌, ℤ, pos, negsuc}
use Rattle.std.specs.Prelude.{List, [], ◌∷◌, ◌++◌}

-- the digits of n, of which there are at most so many
abbrev pub digits_up_to : ℕ → ℕ → List ℕ
digits_up_to zero n = []
digits_up_to (suc most) n =
    if nat_lt n 10 then (48 + n) ∷ [] else digits_up_to most (n / 10) ++ (48 + n % 10) ∷ []

-- n has at most n + 1 digits
unfoldable pub numeral : ℕ → List ℕ
numeral n = digits_up_to (suc n) n

abbrev pub signed_numeral : ℤ → List ℕ
signed_numeral (pos n) = numeral n
signed_numeral (negsuc n) = 45 ∷ numeral (suc n)
