-- The values of a step are within the limits.
use Rattle.slope_list.proofs.Common.{arith, neg_ℤ, ℤ, pos, ◌+ℤ◌, ◌*ℤ◌, int_min, ints, clamps, IsFrom, IsOutput, IsCost}
use Rattle.slope_list.proofs.Common.{Step, IsFairStep}
use Rattle.plain_lists.proofs.SignedLaws.{IsWithin, product_within}

module _ (s : Step) (fair : IsFairStep s) (x : ℤ) (out : IsOutput x) where
  pub reserve_within : IsWithin 100000000000000 (s.reserve_price *ℤ int_min s.cap (s.ramp_up +ℤ x))
  reserve_within =
      let price : IsWithin 10000000 s.reserve_price =
      (let a = fair.reserve_price.at_least in let b = fair.reserve_price.at_most in
      record { at_least = omega (arith, ints, a); at_most = b }) in
      let most : IsFrom (pos 0) (pos 10000000) (int_min s.cap (s.ramp_up +ℤ x)) = (
      let a = fair.cap.at_least in
      let b = fair.cap.at_most in
      let u = fair.ramp_up.at_least in
      let l = out.at_least in
      record { at_least = omega (arith, ints, clamps, a, u, l); at_most = omega (arith, ints, clamps, b) }
      ) in
      product_within 10000000 10000000 s.reserve_price (int_min s.cap (s.ramp_up +ℤ x)) price most

  pub slope_within : IsWithin 200000000000000 (s.slope *ℤ x)
  slope_within =
      let slope : IsWithin 20000000 s.slope =
      (let a = fair.slope.at_least in let b = fair.slope.at_most in
      record { at_least = omega (arith, ints, a); at_most = b }) in
      product_within 20000000 10000000 s.slope x slope out

-- the value of a step at a power
pub level_within : (s : Step) → IsFairStep s → (value near x cost : ℤ) →
    IsFrom (neg_ℤ (pos 500000000000000000)) (pos 500000000000000000) value → IsOutput near → IsOutput x → IsCost cost
    → IsWithin 1000000000000000000
    (((value +ℤ neg_ℤ (s.reserve_price *ℤ int_min s.cap (s.ramp_up +ℤ near))) +ℤ s.slope *ℤ x) +ℤ cost)
level_within s fair value near x cost v n o c =
    let r = reserve_within s fair near n in
    let l = slope_within s fair x o in
    record { at_least = omega (arith, ints); at_most = omega (arith, ints) }
