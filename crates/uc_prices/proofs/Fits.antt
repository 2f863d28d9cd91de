-- A price that passed its tests is within the limits of its list.
use Rattle.uc_prices.proofs.Common.{◌≡◌, ℤ, pos, negsuc, ◌≤◌, false, ◌&&◌, true≢false, arith, ints, ltb-false, nat_lt}
use Rattle.uc_prices.proofs.Common.{int_lt, unsigned_abs, is_reserve, most_price}
use Rattle.uc_prices.specs.Kept.{IsPriceOf}
use Rattle.uc_prices.specs.declared.fault.PriceField.{PriceField}
use Rattle.uc_prices.specs.declared.fault.PriceField.TheVariants.{Whole, Energy, Reserve}

pub is_price : (field : PriceField) (n : ℤ) → nat_lt most_price (unsigned_abs n) ≡ false →
    is_reserve field && int_lt n (pos 0) ≡ false → IsPriceOf field n
is_price Reserve (pos m) above below = let le : m ≤ most_price = ltb-false _ _ above in
    record { at_least = omega (arith, ints); at_most = omega (arith, ints, le) }
is_price Reserve (negsuc m) above below = absurd (true≢false below)
is_price Energy (pos m) above below = let le : m ≤ most_price = ltb-false _ _ above in
    record { at_least = omega (arith, ints); at_most = omega (arith, ints, le) }
is_price Energy (negsuc m) above below = let le = ltb-false _ _ above in
    record { at_least = omega (arith, ints, le); at_most = omega (arith, ints) }
is_price Whole (pos m) above below = let le : m ≤ most_price = ltb-false _ _ above in
    record { at_least = omega (arith, ints); at_most = omega (arith, ints, le) }
is_price Whole (negsuc m) above below = let le = ltb-false _ _ above in
    record { at_least = omega (arith, ints, le); at_most = omega (arith, ints) }
