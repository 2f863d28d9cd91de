-- The list of values over all powers is the list of the function's values.
use Rattle.ramp_step.proofs.Common.{◌≡◌, ℕ, zero, suc, ◌+◌, ◌-◌, ◌<◌, List, length, get_or, refl, ap, ◌∙◌, arith, inl}
use Rattle.ramp_step.proofs.Common.{inr, cond, ℤ, pos, negsuc, ◌+ℤ◌, ◌-ℤ◌, ◌*ℤ◌, ◌≤ℤ◌, ◌<ℤ◌, ◌⊎◌, int_lt, int_div}
use Rattle.ramp_step.proofs.Common.{unsigned_abs, ints, by_lt_z, length-map-range_with_len, get_or-map-range_with_len}
use Rattle.ramp_step.proofs.Common.{Knot, knot, power, height, StandFor, IsInside, line_at, value_upto, values_of}
use Rattle.ramp_step.proofs.KnotLaws.{rises}
use Rattle.ramp_step.proofs.WindowLaws.{straight_line, steps}
use Rattle.ramp_step.proofs.DivLaws.{exact_div}

pub chosen : (a b : ℤ) (v w : ℤ) → ((a <ℤ b) × (cond (int_lt a b) v w ≡ v)) ⊎ ((b ≤ℤ a) × (cond (int_lt a b) v w ≡ w))
chosen a b v w = by_lt_z a b (λ l. inl (l, grind (arith, ints))) (λ l. inr (l, grind (arith, ints)))

-- the search by knots gives the function's value
pub value_upto_is : (ks : List Knot) (n : ℕ) (f : ℤ → ℤ) → StandFor ks n f → (k : ℕ) → k < n → (x : ℤ) →
    power ks 0 ≤ℤ x → x ≤ℤ power ks k → value_upto ks k x ≡ f x
value_upto_is ks n f s zero h x low high = s.meet 0 h ∙ ap f (omega (arith, ints))
value_upto_is ks n f s (suc k) h x low high =
    let e : power ks (suc k) ≡ power ks (k + 1) = ap (power ks) (omega arith) in
    let a = s.meet k (omega arith) in
    let b = s.meet (k + 1) (omega arith) in
    let rise = s.rise k (omega arith) in
    let straight = s.straight k (omega arith) in
    let slope = f (power ks k +ℤ pos 1) -ℤ f (power ks k) in
    let end = straight_line f (power ks k) (power ks (k + 1)) straight (power ks (k + 1)) (omega (arith, ints))
    (omega (arith, ints)) in
    let q : int_div (height ks (k + 1) -ℤ height ks k) (power ks (k + 1) -ℤ power ks k) ≡ slope =
    exact_div (height ks (k + 1) -ℤ height ks k) slope (power ks (k + 1) -ℤ power ks k) (omega (arith, ints))
    (omega (arith, ints)) in
    elim (chosen (power ks k) x (line_at (knot ks k) (knot ks (k + 1)) x) (value_upto ks k x)) [
      | inl p ↦
          let here = straight_line f (power ks k) (power ks (k + 1)) straight x (omega (arith, ints))
          (omega (arith, ints)) in
          let line : line_at (knot ks k) (knot ks (k + 1)) x ≡ height ks k +ℤ slope *ℤ (x -ℤ power ks k) =
          ap (λ z. height ks k +ℤ z *ℤ (x -ℤ power ks k)) q in
          p.1 ∙ line ∙ omega (arith, ints)
      | inr p ↦ p.1 ∙ value_upto_is ks n f s k (omega arith) x low p.0
    ]

-- ---- the list of values

abs_of : (z : ℤ) → pos 0 ≤ℤ z → pos (unsigned_abs z) ≡ z
abs_of (pos n) h = refl
abs_of (negsuc n) h = absurd (omega (arith, ints))

-- the list of values stands for f, from the first knot's power on
pub record HasValues (lo : ℤ) (values : List ℤ) (ks : List Knot) (n : ℕ) (f : ℤ → ℤ) : Type 0 where
  pub each : (i : ℕ) → i < length values → get_or values i (pos 0) ≡ f (lo +ℤ pos i)
  pub inside : (i : ℕ) → i < length values → IsInside ks n (lo +ℤ pos i)
  pub back : (x : ℤ) → IsInside ks n x → (i : ℕ) × (i < length values) × (x ≡ lo +ℤ pos i)

pub values_of_is : (ks : List Knot) (n : ℕ) (f : ℤ → ℤ) → StandFor ks n f →
    HasValues (power ks 0) (values_of ks n) ks n f
values_of_is ks zero f s = record {
  each = λ i h. absurd (omega arith);
  inside = λ i h. absurd (omega arith);
  back = λ x h. let some = h.some in absurd (omega arith);
}
values_of_is ks (suc m) f s =
    let p = power ks in
    let order = rises (suc m) p s.rise m 0 m (omega arith) (omega arith) in
    let count = unsigned_abs (p m -ℤ p 0) in
    let is = abs_of (p m -ℤ p 0) (omega (arith, ints)) in
    let at : ℕ → ℤ = λ i. value_upto ks m (p 0 +ℤ pos i) in
    let len = length-map-range_with_len at 0 (count + 1) in
    let last : p (suc m - 1) ≡ p m = ap p (omega arith) in
    record {
      each = λ i h. get_or-map-range_with_len at 0 (count + 1) i i (pos 0) (omega arith) (omega arith) ∙
          value_upto_is ks (suc m) f s m (omega arith) (p 0 +ℤ pos i) (omega (arith, ints)) (omega (arith, ints));
      inside = λ i h. record { some = omega arith; from_first = omega (arith, ints); to_last = omega (arith, ints) };
      back = λ x h.
          let from = h.from_first in
          let k = steps (p 0) x from in
          let e = k.1 in
          (k.0, omega (arith, ints), e);
    }
