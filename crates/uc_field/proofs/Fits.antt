-- Numbers that passed their tests are within their limits.
use Rattle.uc_field.proofs.Common.{◌≡◌, ℕ, ◌≤◌, false, arith, true≢false, ℤ, pos, negsuc, neg_ℤ, unsigned_abs, nat_lt}
use Rattle.uc_field.proofs.Common.{int_lt, ltb-false, ints, IsFrom}

pub not_above : (limit : ℕ) (n : ℤ) → nat_lt limit (unsigned_abs n) ≡ false → int_lt n (pos 0) ≡ false →
    IsFrom (pos 0) (pos limit) n
not_above limit (pos m) above below = let le : m ≤ limit = ltb-false _ _ above in
    record { at_least = omega (arith, ints); at_most = omega (arith, ints, le) }
not_above limit (negsuc m) above below = absurd (true≢false below)

pub within : (limit : ℕ) (n : ℤ) → nat_lt limit (unsigned_abs n) ≡ false → IsFrom (neg_ℤ (pos limit)) (pos limit) n
within limit (pos m) above = let le : m ≤ limit = ltb-false _ _ above in
    record { at_least = omega (arith, ints); at_most = omega (arith, ints, le) }
within limit (negsuc m) above = let le = ltb-false _ _ above in
    record { at_least = omega (arith, ints, le); at_most = omega (arith, ints) }
