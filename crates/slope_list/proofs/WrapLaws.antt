-- Numbers that fit 64 bits are those that the code computes with.
use Rattle.slope_list.proofs.Common.{◌≡◌, true, false, arith, to_z, of_z, ℤ, ◌+ℤ◌, ◌-ℤ◌, ◌≤ℤ◌, ◌<ℤ◌}
use Rattle.slope_list.proofs.Common.{FitsSigned, w64, int_min, ints, clamps, to_z-of_z, IsOutput, IsPower}
use Rattle.slope_list.proofs.Common.{Step, IsFairStep, IsTotal, lt_z}

-- a number as the code has it
abbrev pub coded : ℤ → ℤ
coded z = to_z w64 (of_z w64 z)

pub total_fits : (z : ℤ) → IsTotal z → FitsSigned w64 z
total_fits z h = omega (arith, ints)

pub coded_is : (z : ℤ) → IsTotal z → coded z ≡ z
coded_is z h = to_z-of_z w64 z (total_fits z h)

pub output_total : (z : ℤ) → IsOutput z → IsTotal z
output_total z h = record { at_least = omega (arith, ints); at_most = omega (arith, ints) }

pub power_total : (z : ℤ) → IsPower z → IsTotal z
power_total z h = record { at_least = omega (arith, ints); at_most = omega (arith, ints) }

pub coded_add : (a b : ℤ) → IsTotal a → IsTotal b → IsTotal (a +ℤ b) → coded (coded a +ℤ coded b) ≡ a +ℤ b
coded_add a b p q r = rw (coded_is a p, coded_is b q) (coded_is (a +ℤ b) r)

pub coded_sub : (a b : ℤ) → IsTotal a → IsTotal b → IsTotal (a -ℤ b) → coded (coded a -ℤ coded b) ≡ a -ℤ b
coded_sub a b p q r = rw (coded_is a p, coded_is b q) (coded_is (a -ℤ b) r)

pub sum_total : (a b : ℤ) → IsOutput a → IsPower b → IsTotal (a +ℤ b)
sum_total a b h i =
    let p = h.at_least in let q = h.at_most in let r = i.at_least in let s = i.at_most in
    record { at_least = omega (arith, ints); at_most = omega (arith, ints) }

pub less_total : (a b : ℤ) → IsOutput a → IsPower b → IsTotal (a -ℤ b)
less_total a b h i =
    let p = h.at_least in let q = h.at_most in let r = i.at_least in let s = i.at_most in
    record { at_least = omega (arith, ints); at_most = omega (arith, ints) }

pub up_coded : (a b : ℤ) → IsOutput a → IsPower b → coded (coded a +ℤ coded b) ≡ a +ℤ b
up_coded a b h i = coded_add a b (output_total a h) (power_total b i) (sum_total a b h i)

pub down_coded : (a b : ℤ) → IsOutput a → IsPower b → coded (coded a -ℤ coded b) ≡ a -ℤ b
down_coded a b h i = coded_sub a b (output_total a h) (power_total b i) (less_total a b h i)

lt_of : (a b : ℤ) → lt_z a b ≡ true → a <ℤ b
lt_of a b h = grind (arith, ints)

ge_of : (a b : ℤ) → lt_z a b ≡ false → b ≤ℤ a
ge_of a b h = grind (arith, ints)

-- what a test says
pub test_true : (a b x y : ℤ) → x ≡ a → y ≡ b → lt_z x y ≡ true → a <ℤ b
test_true a b x y p q h = rw (p, q) at (lt_of x y h)

pub test_false : (a b x y : ℤ) → x ≡ a → y ≡ b → lt_z x y ≡ false → b ≤ℤ a
test_false a b x y p q h = rw (p, q) at (ge_of x y h)

pub fits_sum : (a b : ℤ) → IsOutput a → IsPower b → FitsSigned w64 (coded a +ℤ coded b)
fits_sum a b h i = rw (coded_is a (output_total a h), coded_is b (power_total b i))
    (total_fits (a +ℤ b) (sum_total a b h i))

pub fits_less : (a b : ℤ) → IsOutput a → IsPower b → FitsSigned w64 (coded a -ℤ coded b)
fits_less a b h i = rw (coded_is a (output_total a h), coded_is b (power_total b i))
    (total_fits (a -ℤ b) (less_total a b h i))

-- ---- the numbers of a step

module _ (s : Step) (fair : IsFairStep s) where
  pub price_total : IsTotal s.reserve_price
  price_total = record { at_least = omega (arith, ints); at_most = omega (arith, ints) }

  pub slope_total : IsTotal s.slope
  slope_total = record { at_least = omega (arith, ints); at_most = omega (arith, ints) }

  module _ (x : ℤ) (o : IsOutput x) where
    up_total : IsTotal (s.ramp_up +ℤ x)
    up_total =
        let a = fair.ramp_up.at_least in let b = fair.ramp_up.at_most in
        let d = o.at_least in let e = o.at_most in
        record { at_least = omega (arith, ints); at_most = omega (arith, ints) }

    pub coded_up : coded (coded s.ramp_up +ℤ coded x) ≡ s.ramp_up +ℤ x
    coded_up = coded_add s.ramp_up x (power_total s.ramp_up fair.ramp_up) (output_total x o) up_total

    pub fits_up : FitsSigned w64 (coded s.ramp_up +ℤ coded x)
    fits_up = rw (coded_is s.ramp_up (power_total s.ramp_up fair.ramp_up), coded_is x (output_total x o))
        (total_fits (s.ramp_up +ℤ x) up_total)

    pub most_total : (m : ℤ) → m ≡ int_min s.cap (s.ramp_up +ℤ x) → IsTotal m
    most_total m is =
        let a = fair.ramp_up.at_least in let b = fair.ramp_up.at_most in
        let d = o.at_least in let e = o.at_most in
        let f = fair.cap.at_least in let g = fair.cap.at_most in
        record { at_least = omega (arith, ints, clamps); at_most = omega (arith, ints, clamps) }
