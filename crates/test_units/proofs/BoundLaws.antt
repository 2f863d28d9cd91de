-- The values of a shape through a step: each part of it may be added.
use Rattle.test_units.proofs.Common.{◌≡◌, ℕ, ◌+◌, ◌≤◌, ℤ, pos, neg_ℤ, ◌+ℤ◌, ◌*ℤ◌, Option, Some, None, refl, ap, ◌∙◌}
use Rattle.test_units.proofs.Common.{subst, arith, option_map, int_min, ints, clamps, zero-*ℤ, curve_value}
use Rattle.test_units.proofs.Common.{reserve_term, IsSum, IsWindow, CanAddCurve, Table, value_of, CanAdd, Curve}
use Rattle.test_units.proofs.Common.{IsFrom, IsOutput, IsWithin, product_within, Step, IsFairStep, IsCostOf, IsKinked}
use Rattle.test_units.proofs.Common.{IsSmall}
use Rattle.spell_run.proofs.SumLaws.{added}

-- powers are outputs, and values at most n in magnitude
abbrev pub IsBounded : ℕ → Table → Type 0
IsBounded n f = (x v : ℤ) → value_of f x ≡ Some v → IsOutput x × IsWithin n v

-- ---- terms

same_map : (term : ℤ) → term ≡ pos 0 → (o : Option ℤ) → o ≡ option_map (λ v. v +ℤ term) o
same_map term z None = refl
same_map term z (Some v) = let e : v ≡ v +ℤ term = omega (arith, ints, z) in ap Some e

no_worth : (s : Step) (x : ℤ) → s.reserve_price ≡ pos 0 → reserve_term s.reserve_price s.cap s.ramp_up x ≡ pos 0
no_worth s x none =
    let m = int_min s.cap (s.ramp_up +ℤ x) in
    let e : s.reserve_price *ℤ m ≡ pos 0 = ap (λ (p : ℤ). p *ℤ m) none ∙ zero-*ℤ m in
    ap neg_ℤ e

-- where reserve isn't paid for, its worth is none
pub kink_of_none : (s : Step) (f : Table) → s.reserve_price ≡ pos 0 → IsKinked s f f
kink_of_none s f none x = same_map (reserve_term s.reserve_price s.cap s.ramp_up x) (no_worth s x none) (value_of f x)

pub negated_within : (n : ℕ) (z : ℤ) → IsWithin n z → IsWithin n (neg_ℤ z)
negated_within n z h = let a = h.at_least in let b = h.at_most in
    record { at_least = omega (arith, ints, b); at_most = omega (arith, ints, a) }

module _ (s : Step) (fair : IsFairStep s) (x : ℤ) (out : IsOutput x) where
  pub kink_within : IsWithin 100000000000000 (reserve_term s.reserve_price s.cap s.ramp_up x)
  kink_within =
      let price : IsWithin 10000000 s.reserve_price =
      (let a = fair.reserve_price.at_least in let b = fair.reserve_price.at_most in
      record { at_least = omega (arith, ints, a); at_most = b }) in
      let most : IsFrom (pos 0) (pos 10000000) (int_min s.cap (s.ramp_up +ℤ x)) = (
      let a = fair.cap.at_least in
      let b = fair.cap.at_most in
      let u = fair.ramp_up.at_least in
      let l = out.at_least in
      record { at_least = omega (arith, ints, clamps, a, u, l); at_most = omega (arith, ints, clamps, b) }
      ) in
      negated_within 100000000000000 (s.reserve_price *ℤ int_min s.cap (s.ramp_up +ℤ x))
      (product_within 10000000 10000000 s.reserve_price (int_min s.cap (s.ramp_up +ℤ x)) price most)

  pub slope_within : IsWithin 200000000000000 (s.slope *ℤ x)
  slope_within =
      let slope : IsWithin 20000000 s.slope =
      (let a = fair.slope.at_least in let b = fair.slope.at_most in
      record { at_least = omega (arith, ints, a); at_most = b }) in
      product_within 20000000 10000000 s.slope x slope out

-- ---- a term that is added

module _ (n m : ℕ) (term : ℤ → ℤ) (f : Table) (bounded : IsBounded n f)
    (within : (x : ℤ) → IsOutput x → IsWithin m (term x)) where
  pub can_sum : n + m ≤ 1000000000000000000 → CanAdd term f
  can_sum few x v h =
      let b = bounded x v h in
      let w = within x b.0 in
      let a = b.1.at_least in
      let c = b.1.at_most in
      let d = w.at_least in
      let e = w.at_most in
      (omega (arith, ints, a, d, few), omega (arith, ints, c, e, few))

  pub bounded_sum : (g : Table) → IsSum term f g → IsBounded (n + m) g
  bounded_sum g sum x v h =
      let u = added term x (sum x) h in
      let b = bounded x u.0 u.1 in
      let w = within x b.0 in
      let a = b.1.at_least in
      let c = b.1.at_most in
      let d = w.at_least in
      let e = w.at_most in
      let is = u.2 in
      (b.0, record { at_least = omega (arith, ints, a, d, is); at_most = omega (arith, ints, c, e, is) })

-- ---- through a step

module _ (s : Step) (fair : IsFairStep s) where
  pub bounded_window : (n : ℕ) (f g : Table) → IsBounded n f → IsWindow s.ramp_up s.ramp_down s.least s.most f g →
      IsBounded n g
  bounded_window n f g bounded window x v h =
      let r = window.reached x v h in
      let low = fair.least.at_least in
      let high = fair.most.at_most in
      let a = r.2.0 in
      let b = r.2.1 in
      (record { at_least = omega (arith, ints, low, a); at_most = omega (arith, ints, high, b) }, (bounded r.0 v r.1).1)

  pub can_kink : (f : Table) → IsSmall f → CanAdd (reserve_term s.reserve_price s.cap s.ramp_up) f
  can_kink f small = can_sum 500000000000000000 100000000000000 (reserve_term s.reserve_price s.cap s.ramp_up) f small
      (kink_within s fair) (omega arith)

  pub bounded_kink : (n : ℕ) (f g : Table) → IsBounded n f → IsKinked s f g → IsBounded (n + 100000000000000) g
  bounded_kink n f g bounded kink =
      bounded_sum n 100000000000000 (reserve_term s.reserve_price s.cap s.ramp_up) f bounded (kink_within s fair) g kink

  module _ (f g w : Table) (small : IsSmall f) (kink : IsKinked s f g)
      (window : IsWindow s.ramp_up s.ramp_down s.least s.most g w) where
    kinked_small : IsBounded 500100000000000000 g
    kinked_small x v h = bounded_kink 500000000000000000 f g small kink x v h

    window_small : IsBounded 500100000000000000 w
    window_small = bounded_window 500100000000000000 g w kinked_small window

    pub can_line : CanAdd (λ x. s.slope *ℤ x) w
    can_line = can_sum 500100000000000000 200000000000000 (λ x. s.slope *ℤ x) w window_small (slope_within s fair)
        (omega arith)

    module _ (l : Table) (line : IsSum (λ x. s.slope *ℤ x) w l) (c : Curve) (cost : IsCostOf s c) where
      line_small : IsBounded 500300000000000000 l
      line_small x v h = bounded_sum 500100000000000000 200000000000000 (λ x. s.slope *ℤ x) w window_small
          (slope_within s fair) l line x v h

      pub can_curve : CanAddCurve (curve_value c) (pos 0) l
      can_curve x v h =
          let u = added (λ x. s.slope *ℤ x) x (line x) h in
          let r = window.reached x u.0 u.1 in
          let k = cost.costs x r.2.0 r.2.1 in
          let at : x ≡ x +ℤ pos 0 = omega (arith, ints) in
          let b = (line_small x v h).1 in
          let p = b.at_least in
          let q = b.at_most in
          let d = k.2.at_least in
          let e = k.2.at_most in (
            k.0,
            subst (λ (y : ℤ). curve_value c y ≡ Some k.0) at k.1,
            (omega (arith, ints, p, d), omega (arith, ints, q, e)),
          )
