-- The worth of the reserve is straight on both sides of its kink, and convex.
use Rattle.ramp_step.proofs.Common.{◌≡◌, ap, arith, inl, inr, ℤ, pos, ◌+ℤ◌, ◌-ℤ◌, ◌*ℤ◌, ◌≤ℤ◌, ◌⊎◌, int_min, ints}
use Rattle.ramp_step.proofs.Common.{clamps, IsStraight, IsConvex, reserve_term, mul-add, mul-mono_of}
use Rattle.ramp_step.proofs.TimesLaws.{times_next, times_prev}

pub kink_straight : (mu cap up a b : ℤ) → (b ≤ℤ (cap -ℤ up)) ⊎ ((cap -ℤ up) ≤ℤ a) →
    IsStraight a b (reserve_term mu cap up)
kink_straight mu cap up a b (inl left) x low high =
    let m : int_min cap (up +ℤ x) ≡ up +ℤ x = omega (arith, ints, clamps) in
    let m0 : int_min cap (up +ℤ (x -ℤ pos 1)) ≡ (up +ℤ x) -ℤ pos 1 = omega (arith, ints, clamps) in
    let m1 : int_min cap (up +ℤ (x +ℤ pos 1)) ≡ (up +ℤ x) +ℤ pos 1 = omega (arith, ints, clamps) in
    let e = ap (λ z. mu *ℤ z) m in
    let e0 = ap (λ z. mu *ℤ z) m0 in
    let e1 = ap (λ z. mu *ℤ z) m1 in
    let p = times_prev mu (up +ℤ x) in
    let q = times_next mu (up +ℤ x) in
    omega (arith, ints)
kink_straight mu cap up a b (inr right) x low high =
    let m : int_min cap (up +ℤ x) ≡ cap = omega (arith, ints, clamps) in
    let m0 : int_min cap (up +ℤ (x -ℤ pos 1)) ≡ cap = omega (arith, ints, clamps) in
    let m1 : int_min cap (up +ℤ (x +ℤ pos 1)) ≡ cap = omega (arith, ints, clamps) in
    let e = ap (λ z. mu *ℤ z) m in
    let e0 = ap (λ z. mu *ℤ z) m0 in
    let e1 = ap (λ z. mu *ℤ z) m1 in
    omega (arith, ints)

pub kink_convex : (mu cap up a b : ℤ) → pos 0 ≤ℤ mu → IsConvex a b (reserve_term mu cap up)
kink_convex mu cap up a b h x low high =
    let m0 = int_min cap (up +ℤ (x -ℤ pos 1)) in
    let m1 = int_min cap (up +ℤ x) in
    let m2 = int_min cap (up +ℤ (x +ℤ pos 1)) in
    let concave : (m0 +ℤ m2) ≤ℤ (m1 +ℤ m1) = omega (arith, ints, clamps) in
    let e0 = mul-add mu m0 m2 in
    let e1 = mul-add mu m1 m1 in
    let l = mul-mono_of mu (m0 +ℤ m2) (m1 +ℤ m1) h concave in
    omega (arith, ints)
