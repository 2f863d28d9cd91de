-- What a block is worth fits its type, and the power of an on period lies within the cost points.
use Rattle.plan_check.proofs.Common.{◌≡◌, ℕ, suc, ◌<◌, ◌≤◌, ℤ, pos, ◌+ℤ◌, ◌-ℤ◌, ◌*ℤ◌, int_min, Bool, true, false, cond}
use Rattle.plan_check.proofs.Common.{length, ap, ◌∙◌, arith, w64, FitsSigned, ints, clamps, to_z-of_z, ThermalUnit}
use Rattle.plan_check.proofs.Common.{Schedule, IsFrom, IsThermalUnit, Spans, on_in, power_in, IsPeriod}
use Rattle.plan_check.proofs.Common.{IsThermalFeasible}
use Rattle.std.proofs.Math.IntN.{*ℤ_comm, *ℤ-zero}
use Rattle.plain_lists.proofs.IntLaws.{mul-mono_of}
use Rattle.plain_lists.proofs.SignedLaws.{fits64, stored}
use Rattle.plan_check.proofs.ThermalLaws.{above_on}

pub cond_at_most : (b : Bool) (n : ℕ) → cond b 0 (suc n) ≤ suc n
cond_at_most true n = omega arith
cond_at_most false n = omega arith

-- ---- what a block is worth

module _ (v p r : ℤ) (hv : IsFrom (pos 0) (pos 900000000000000000) v) (hp : IsFrom (pos 0) (pos 10000000) p)
    (hr : IsFrom (pos 0) (pos 1000000000) r) where
  pub product : IsFrom (pos 0) (pos 10000000000000000) (p *ℤ r)
  product =
      let low = mul-mono_of p (pos 0) r hp.at_least hr.at_least in
      let high = mul-mono_of r p (pos 10000000) hr.at_least hp.at_most in
      let most = mul-mono_of (pos 10000000) r (pos 1000000000) (omega (arith, ints)) hr.at_most in
      let a = *ℤ-zero p in
      let b = *ℤ_comm r p in
      let c = *ℤ_comm r (pos 10000000) in
      record { at_least = omega (arith, ints, low, a); at_most = omega (arith, ints, high, most, b, c) }

  product_is : stored p *ℤ stored r ≡ p *ℤ r
  product_is =
      let p_is = to_z-of_z w64 p (fits64 p (omega (arith, ints, hp.at_least)) (omega (arith, ints, hp.at_most))) in
      let r_is = to_z-of_z w64 r (fits64 r (omega (arith, ints, hr.at_least)) (omega (arith, ints, hr.at_most))) in
      ap (λ (z : ℤ). z *ℤ stored r) p_is ∙ ap (λ (z : ℤ). p *ℤ z) r_is

  pub product_fits : FitsSigned w64 (stored p *ℤ stored r)
  product_fits =
      let e = product_is in
      let w = product in
      fits64 (stored p *ℤ stored r) (omega (arith, ints, e, w.at_least)) (omega (arith, ints, e, w.at_most))

  sum_is : stored v +ℤ stored (stored p *ℤ stored r) ≡ v +ℤ (p *ℤ r)
  sum_is =
      let w = product in
      let v_is = to_z-of_z w64 v (fits64 v (omega (arith, ints, hv.at_least)) (omega (arith, ints, hv.at_most))) in
      let f = ap stored product_is ∙ to_z-of_z w64 (p *ℤ r)
      (fits64 (p *ℤ r) (omega (arith, ints, w.at_least)) (omega (arith, ints, w.at_most))) in
      omega (arith, ints, f, v_is)

  pub worth_fits : FitsSigned w64 (stored v +ℤ stored (stored p *ℤ stored r))
  worth_fits =
      let s = sum_is in
      let w = product in
      fits64 (stored v +ℤ stored (stored p *ℤ stored r)) (omega (arith, ints, s, w.at_least, hv.at_least))
      (omega (arith, ints, s, w.at_most, hv.at_most))

  pub worth_is : stored (stored v +ℤ stored (stored p *ℤ stored r)) ≡ v +ℤ (p *ℤ r)
  worth_is = to_z-of_z w64 (stored v +ℤ stored (stored p *ℤ stored r)) worth_fits ∙ sum_is

  pub worth_within : IsFrom (pos 0) (v +ℤ pos 10000000000000000) (stored (stored v +ℤ stored (stored p *ℤ stored r)))
  worth_within =
      let s = worth_is in
      let w = product in
      record { at_least = omega (arith, ints, s, w.at_least, hv.at_least); at_most = omega (arith, ints, s, w.at_most) }

-- ---- what is bought of a block, and what is left

module _ (v w r : ℤ) (hv : IsFrom (pos 0) (pos 4294967296) v) (hw : IsFrom (pos 0) (pos 1000000000) w)
    (least : r ≡ int_min v w) where
  pub bought_within : IsFrom (pos 0) (pos 1000000000) r
  bought_within = record {
    at_least = omega (arith, ints, clamps, least, hv.at_least, hw.at_least);
    at_most = omega (arith, ints, clamps, least, hw.at_most);
  }

  left_is : stored v -ℤ stored r ≡ v -ℤ r
  left_is =
      let b = bought_within in
      let v_is = to_z-of_z w64 v (fits64 v (omega (arith, ints, hv.at_least)) (omega (arith, ints, hv.at_most))) in
      let r_is = to_z-of_z w64 r (fits64 r (omega (arith, ints, b.at_least)) (omega (arith, ints, b.at_most))) in
      omega (arith, ints, v_is, r_is)

  pub left_fits : FitsSigned w64 (stored v -ℤ stored r)
  left_fits =
      let e = left_is in
      let b = bought_within in
      fits64 (stored v -ℤ stored r) (omega (arith, ints, e, hv.at_least, b.at_most))
      (omega (arith, ints, e, hv.at_most, b.at_least))

  pub rest_is : stored (stored v -ℤ stored r) ≡ v -ℤ int_min v w
  rest_is = to_z-of_z w64 (stored v -ℤ stored r) left_fits ∙ left_is ∙ ap (λ (z : ℤ). v -ℤ z) least

  pub rest_within : IsFrom (pos 0) (pos 4294967296) (stored (stored v -ℤ stored r))
  rest_within =
      let e = rest_is in
      record {
        at_least = omega (arith, ints, clamps, e, hv.at_least, hw.at_least);
        at_most =
            omega (arith, ints, clamps, e, hv.at_least, hv.at_most, hw.at_least);
      }

-- ---- the power of an on period lies within the cost points

pub power_spans : (g : ThermalUnit) (s : Schedule) (k : ℕ) → IsThermalUnit g → IsThermalFeasible g (length s.on) s →
    k < length s.on → on_in g s (suc k) ≡ true → Spans g.points (power_in s (suc k)) (power_in s (suc k))
power_spans g s k limits f lt on =
    let period : IsPeriod s (suc k) = record { from_one = omega arith; to_last = omega (arith, lt) } in
    let a = above_on g s k on in
    let low = f.dispatch.least (suc k) period on in
    let high = f.dispatch.greatest (suc k) period on in
    record {
      first = λ d. let p = limits.span.first d in omega (arith, ints, p, low, a);
      last = λ n d is. let p = limits.span.last n d is in omega (arith, ints, clamps, p, high, a);
    }
