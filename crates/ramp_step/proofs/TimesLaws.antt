-- Products with the next number, the one before, and with 1 and -1.
use Rattle.ramp_step.proofs.Common.{◌≡◌, ap, arith, ℤ, pos, negsuc, ◌+ℤ◌, ◌-ℤ◌, ◌*ℤ◌, ints, one, *ℤ-zero, *ℤ-one}
use Rattle.ramp_step.proofs.Common.{mul-add, mul-sub}

pub times_one : (s : ℤ) → s *ℤ pos 1 ≡ s
unfolding one
times_one s = *ℤ-one s

pub times_next : (a x : ℤ) → a *ℤ (x +ℤ pos 1) ≡ a *ℤ x +ℤ a
times_next a x = omega (arith, ints, mul-add a x (pos 1), times_one a)

pub times_prev : (a x : ℤ) → a *ℤ (x -ℤ pos 1) ≡ a *ℤ x -ℤ a
times_prev a x = omega (arith, ints, mul-sub a x (pos 1), times_one a)

pub times_minus : (s : ℤ) → s *ℤ negsuc 0 ≡ pos 0 -ℤ s
times_minus s =
    let e : s *ℤ negsuc 0 ≡ s *ℤ (pos 0 -ℤ pos 1) = ap (λ (z : ℤ). s *ℤ z) (omega (arith, ints)) in
    omega (arith, ints, e, mul-sub s (pos 0) (pos 1), times_one s, *ℤ-zero s)

-- a product with the way from s is straight
pub straight_product : (p s x : ℤ) →
    ((p *ℤ (x -ℤ s)) +ℤ (p *ℤ (x -ℤ s))) ≡ ((p *ℤ ((x -ℤ pos 1) -ℤ s)) +ℤ (p *ℤ ((x +ℤ pos 1) -ℤ s)))
straight_product p s x =
    let before : (x -ℤ pos 1) -ℤ s ≡ (x -ℤ s) -ℤ pos 1 = omega (arith, ints) in
    let after : (x +ℤ pos 1) -ℤ s ≡ (x -ℤ s) +ℤ pos 1 = omega (arith, ints) in
    let a = ap (λ (z : ℤ). p *ℤ z) before in
    let b = ap (λ (z : ℤ). p *ℤ z) after in
    let c = times_prev p (x -ℤ s) in
    let d = times_next p (x -ℤ s) in
    omega (arith, ints)
