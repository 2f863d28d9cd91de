-- A weight that passed its tests is within its limits.
use Rattle.uc_mixture.proofs.Common.{◌≡◌, ◌≤◌, ℕ, ℤ, pos, negsuc, ◌≤ℤ◌, false, true≢false, arith, ints, ltb-false}
use Rattle.uc_mixture.proofs.Common.{IsFrom, unsigned_abs, nat_lt, int_lt}

pub within : (least most n : ℤ) → pos 0 ≤ℤ least → pos 0 ≤ℤ most → nat_lt (unsigned_abs most) (unsigned_abs n) ≡ false →
    int_lt n least ≡ false → IsFrom least most n
within (pos a) (pos b) (pos m) some more above below =
    let le : m ≤ b = ltb-false _ _ above in
    let low : a ≤ m = ltb-false _ _ below in
    record { at_least = omega (arith, ints, low); at_most = omega (arith, ints, le) }
within (pos a) (pos b) (negsuc m) some more above below = absurd (true≢false below)
within (negsuc a) most n some more above below = absurd (omega (arith, ints, some))
within (pos a) (negsuc b) n some more above below = absurd (omega (arith, ints, more))

-- the greatest weight is low enough to be a limit of a rounding
pub limit_is_low : (most : ℤ) (n : ℕ) → IsFrom (pos 0) (pos 1000000000000000000) most → n ≡ unsigned_abs most →
    n ≤ 1000000000000000000
limit_is_low (pos b) n low is = let le = low.at_most in omega (arith, ints, le, is)
limit_is_low (negsuc b) n low is = let le = low.at_least in absurd (omega (arith, ints, le))
