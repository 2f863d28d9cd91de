-- Products, sums and least ones of numbers within bounds.
use Rattle.test_tiny.proofs.Common.{ℕ, ◌*◌, ◌^◌, ◌<◌, ◌≤◌, ℤ, pos, negsuc, neg_ℤ, ◌*ℤ◌, arith, mul-le-mul, ints}
use Rattle.test_tiny.proofs.Common.{fits_signed_mul, unsigned_abs-mul, Width, FitsSigned, unsigned_abs, IsFrom}
use mir.Val.{hbits}

abs_within : (n : ℕ) (z : ℤ) → IsFrom (neg_ℤ (pos n)) (pos n) z → unsigned_abs z ≤ n
abs_within n (pos m) h = let e = h.at_most in omega (arith, ints, e)
abs_within n (negsuc m) h = let e = h.at_least in omega (arith, ints, e)

within_abs : (n : ℕ) (z : ℤ) → unsigned_abs z ≤ n → IsFrom (neg_ℤ (pos n)) (pos n) z
within_abs n (pos m) h = record { at_least = omega (arith, ints, h); at_most = omega (arith, ints, h) }
within_abs n (negsuc m) h = record { at_least = omega (arith, ints, h); at_most = omega (arith, ints, h) }

pub product_bound : (m n : ℕ) (x y : ℤ) → IsFrom (neg_ℤ (pos m)) (pos m) x → IsFrom (neg_ℤ (pos n)) (pos n) y →
    IsFrom (neg_ℤ (pos (m * n))) (pos (m * n)) (x *ℤ y)
product_bound m n x y h i =
    let a = abs_within m x h in
    let b = abs_within n y i in
    let e = unsigned_abs-mul x y in
    within_abs (m * n) (x *ℤ y) (let top = mul-le-mul a b in omega (arith, e, top))

pub product_fits : (w : Width) (m n : ℕ) (x y : ℤ) → IsFrom (neg_ℤ (pos m)) (pos m) x →
    IsFrom (neg_ℤ (pos n)) (pos n) y → m * n < 2 ^ hbits w → FitsSigned w (x *ℤ y)
product_fits w m n x y h i low = fits_signed_mul w x y m n (abs_within m x h) (abs_within n y i) low
