-- The value of a step at a power, as the code computes it.
use Rattle.slope_list.proofs.Common.{◌≡◌, ap, ◌∙◌, arith, neg_ℤ, ℤ, pos, ◌+ℤ◌, ◌-ℤ◌, ◌*ℤ◌, FitsSigned, w64, int_min}
use Rattle.slope_list.proofs.Common.{ints, IsFrom, IsOutput, IsCost, Step, IsFairStep, IsTotal}
use Rattle.slope_list.proofs.BoundLaws.{reserve_within, slope_within}
use Rattle.slope_list.proofs.WrapLaws.{coded, total_fits, coded_is, output_total, price_total, slope_total}
use Rattle.slope_list.proofs.WrapLaws.{most_total}

module _ (s : Step) (fair : IsFairStep s) (value near x cost m : ℤ)
    (v : IsFrom (neg_ℤ (pos 500000000000000000)) (pos 500000000000000000) value)
    (n : IsOutput near) (o : IsOutput x) (k : IsCost cost) (m_is : m ≡ int_min s.cap (s.ramp_up +ℤ near)) where
  worth_within : IsFrom (neg_ℤ (pos 100000000000000)) (pos 100000000000000) (s.reserve_price *ℤ m)
  worth_within =
      let r = reserve_within s fair near n in
      let e = ap (λ (z : ℤ). s.reserve_price *ℤ z) m_is in
      record { at_least = omega (arith, ints); at_most = omega (arith, ints) }

  worth_total : IsTotal (s.reserve_price *ℤ m)
  worth_total = let r = worth_within in record { at_least = omega (arith, ints); at_most = omega (arith, ints) }

  value_total : IsTotal value
  value_total = record { at_least = omega (arith, ints); at_most = omega (arith, ints) }

  cost_total : IsTotal cost
  cost_total = record { at_least = omega (arith, ints); at_most = omega (arith, ints) }

  kinked_within : IsFrom (neg_ℤ (pos 600000000000000000)) (pos 600000000000000000) (value -ℤ s.reserve_price *ℤ m)
  kinked_within = let r = worth_within in record { at_least = omega (arith, ints); at_most = omega (arith, ints) }

  kinked_total : IsTotal (value -ℤ s.reserve_price *ℤ m)
  kinked_total = let r = kinked_within in record { at_least = omega (arith, ints); at_most = omega (arith, ints) }

  pay_total : IsTotal (s.slope *ℤ x)
  pay_total =
      let r = slope_within s fair x o in record { at_least = omega (arith, ints); at_most = omega (arith, ints) }

  paid_within : IsFrom (neg_ℤ (pos 700000000000000000)) (pos 700000000000000000)
      ((value -ℤ s.reserve_price *ℤ m) +ℤ s.slope *ℤ x)
  paid_within =
      let r = kinked_within in
      let t = slope_within s fair x o in
      record { at_least = omega (arith, ints); at_most = omega (arith, ints) }

  paid_total : IsTotal ((value -ℤ s.reserve_price *ℤ m) +ℤ s.slope *ℤ x)
  paid_total = let r = paid_within in record { at_least = omega (arith, ints); at_most = omega (arith, ints) }

  all_total : IsTotal (((value -ℤ s.reserve_price *ℤ m) +ℤ s.slope *ℤ x) +ℤ cost)
  all_total = let r = paid_within in record { at_least = omega (arith, ints); at_most = omega (arith, ints) }

  pub fits_worth : FitsSigned w64 (coded s.reserve_price *ℤ coded m)
  fits_worth = rw (coded_is s.reserve_price (price_total s fair), coded_is m (most_total s fair near n m m_is))
      (total_fits (s.reserve_price *ℤ m) worth_total)

  worth_is : coded (coded s.reserve_price *ℤ coded m) ≡ s.reserve_price *ℤ m
  worth_is = rw (coded_is s.reserve_price (price_total s fair), coded_is m (most_total s fair near n m m_is))
      (coded_is (s.reserve_price *ℤ m) worth_total)

  pub fits_kinked : FitsSigned w64 (coded value -ℤ coded (coded s.reserve_price *ℤ coded m))
  fits_kinked = rw (worth_is, coded_is value value_total) (total_fits (value -ℤ s.reserve_price *ℤ m) kinked_total)

  kinked_is : coded (coded value -ℤ coded (coded s.reserve_price *ℤ coded m)) ≡ value -ℤ s.reserve_price *ℤ m
  kinked_is = rw (worth_is, coded_is value value_total) (coded_is (value -ℤ s.reserve_price *ℤ m) kinked_total)

  pub fits_pay : FitsSigned w64 (coded s.slope *ℤ coded x)
  fits_pay = rw (coded_is s.slope (slope_total s fair), coded_is x (output_total x o))
      (total_fits (s.slope *ℤ x) pay_total)

  pay_is : coded (coded s.slope *ℤ coded x) ≡ s.slope *ℤ x
  pay_is = rw (coded_is s.slope (slope_total s fair), coded_is x (output_total x o)) (coded_is (s.slope *ℤ x) pay_total)

  pub fits_paid : FitsSigned w64
      (coded (coded value -ℤ coded (coded s.reserve_price *ℤ coded m)) +ℤ coded (coded s.slope *ℤ coded x))
  fits_paid = rw (kinked_is, pay_is) (total_fits ((value -ℤ s.reserve_price *ℤ m) +ℤ s.slope *ℤ x) paid_total)

  paid_is : coded (coded (coded value -ℤ coded (coded s.reserve_price *ℤ coded m)) +ℤ coded (coded s.slope *ℤ coded x))
      ≡ (value -ℤ s.reserve_price *ℤ m) +ℤ s.slope *ℤ x
  paid_is = rw (kinked_is, pay_is) (coded_is ((value -ℤ s.reserve_price *ℤ m) +ℤ s.slope *ℤ x) paid_total)

  pub fits_all : FitsSigned w64
      (coded (coded (coded value -ℤ coded (coded s.reserve_price *ℤ coded m)) +ℤ coded (coded s.slope *ℤ coded x))
      +ℤ coded cost)
  fits_all = rw (paid_is, coded_is cost cost_total)
      (total_fits (((value -ℤ s.reserve_price *ℤ m) +ℤ s.slope *ℤ x) +ℤ cost) all_total)

  pub level_is : coded
      (coded (coded (coded value -ℤ coded (coded s.reserve_price *ℤ coded m)) +ℤ coded (coded s.slope *ℤ coded x))
      +ℤ coded cost)
      ≡ (((value +ℤ neg_ℤ (s.reserve_price *ℤ int_min s.cap (s.ramp_up +ℤ near))) +ℤ s.slope *ℤ x) +ℤ cost)
  level_is =
      let e = ap (λ (z : ℤ). s.reserve_price *ℤ z) m_is in
      let f : (((value -ℤ s.reserve_price *ℤ m) +ℤ s.slope *ℤ x) +ℤ cost)
      ≡ (((value +ℤ neg_ℤ (s.reserve_price *ℤ int_min s.cap (s.ramp_up +ℤ near))) +ℤ s.slope *ℤ x) +ℤ cost) =
      omega (arith, ints) in
      rw (paid_is, coded_is cost cost_total)
      (coded_is (((value -ℤ s.reserve_price *ℤ m) +ℤ s.slope *ℤ x) +ℤ cost) all_total ∙ f)
