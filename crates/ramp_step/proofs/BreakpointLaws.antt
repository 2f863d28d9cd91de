-- Knots with whole slopes that don't fall are those that stand for a convex function.
use Rattle.ramp_step.proofs.Common.{◌≡◌, ℕ, zero, suc, ◌+◌, ◌-◌, ◌<◌, List, refl, sym, ap, ◌∙◌, arith, inl, inr, ℤ, pos}
use Rattle.ramp_step.proofs.Common.{◌+ℤ◌, ◌-ℤ◌, ◌*ℤ◌, ◌≤ℤ◌, ◌<ℤ◌, ints, by_lt_z, cases_lt, *ℤ-zero, Knot, knot, power}
use Rattle.ramp_step.proofs.Common.{height, IsStraight, IsConvex, StandFor, line_at, value_upto}
use Rattle.ramp_step.specs.Breakpoints.{slope_at, AreBreakpoints, BreakpointsAreShapes, ShapesAreBreakpoints}
use Rattle.ramp_step.proofs.TimesLaws.{times_one, times_prev, straight_product}
use Rattle.ramp_step.proofs.KnotLaws.{rises}
use Rattle.ramp_step.proofs.WindowLaws.{slopes, straight_line}
use Rattle.ramp_step.proofs.DivLaws.{exact_div}
use Rattle.ramp_step.proofs.CutLaws.{StandFor-none}
use Rattle.ramp_step.proofs.ValueLaws.{chosen}

-- a power of the interval, behind knot k and up to the next
pub record IsBehind (ks : List Knot) (m : ℕ) (x : ℤ) : Type 0 where
  pub at : ℕ
  pub bound : at < m
  pub from : power ks at <ℤ x
  pub to : x ≤ℤ power ks (at + 1)

module _ (ks : List Knot) (n : ℕ) (b : AreBreakpoints ks n) where
  order_of : (d i k : ℕ) → k ≡ i + d → k < n → power ks i ≤ℤ power ks k
  order_of = rises n (power ks) b.rise

  up_to_first : (m : ℕ) (x : ℤ) → m < n → x ≤ℤ power ks 0 → value_upto ks m x ≡ height ks 0
  up_to_first zero x h l = refl
  up_to_first (suc m) x h l =
      elim (chosen (power ks m) x (line_at (knot ks m) (knot ks (m + 1)) x) (value_upto ks m x)) [
        | inl p ↦ let past = p.0 in let o = order_of m 0 m (omega arith) (omega arith) in absurd (omega (arith, ints))
        | inr p ↦ p.1 ∙ up_to_first m x (omega arith) l
      ]

  in_part : (m k : ℕ) (x : ℤ) → m < n → k < m → power ks k <ℤ x → x ≤ℤ power ks (k + 1) →
      value_upto ks m x ≡ line_at (knot ks k) (knot ks (k + 1)) x
  in_part zero k x h i from to = absurd (omega arith)
  in_part (suc m) k x h i from to =
      elim (chosen (power ks m) x (line_at (knot ks m) (knot ks (m + 1)) x) (value_upto ks m x)) [
        | inl p ↦ elim (cases_lt k m) [
          | inl early ↦ let past = p.0 in let o = order_of (m - (k + 1)) (k + 1) m (omega arith) (omega arith) in
              absurd (omega (arith, ints))
          | inr last ↦ let e : m ≡ k = omega arith in p.1 ∙ ap (λ (j : ℕ). line_at (knot ks j) (knot ks (j + 1)) x) e
        ]
        | inr p ↦ elim (cases_lt k m) [
          | inl early ↦ p.1 ∙ in_part m k x (omega arith) early from to
          | inr last ↦ let e : power ks m ≡ power ks k = ap (power ks) (omega arith) in let left = p.0 in
              absurd (omega (arith, ints))
        ]
      ]

-- a power of the interval that isn't the first is behind some knot
pub behind : (ks : List Knot) (m : ℕ) (x : ℤ) → power ks 0 <ℤ x → x ≤ℤ power ks m → IsBehind ks m x
behind ks zero x low high = absurd (omega (arith, ints))
behind ks (suc m) x low high =
    by_lt_z (power ks m) x
    (λ past. record {
      at = m;
      bound = omega arith;
      from = past;
      to =
          let e : power ks (suc m) ≡ power ks (m + 1) = ap (power ks) (omega arith) in omega (arith, ints);
    })
    (λ left. let r = behind ks m x low left in let inside = r.bound in
    record { at = r.at; bound = omega arith; from = r.from; to = r.to })

module _ (ks : List Knot) (m : ℕ) (b : AreBreakpoints ks (suc m)) where
  -- the value at a knot
  meets : (k : ℕ) → k < suc m → value_upto ks m (power ks k) ≡ height ks k
  meets zero h = up_to_first ks (suc m) b m (power ks 0) (omega arith) (omega (arith, ints))
  meets (suc k) h =
      let e : power ks (suc k) ≡ power ks (k + 1) = ap (power ks) (omega arith) in
      let e' : height ks (suc k) ≡ height ks (k + 1) = ap (height ks) (omega arith) in
      let step = b.rise k (omega arith) in
      let v = in_part ks (suc m) b m k (power ks (suc k)) (omega arith) (omega arith) (omega (arith, ints))
      (omega (arith, ints)) in
      let w = b.whole k (omega arith) in
      let way : slope_at ks k *ℤ (power ks (suc k) -ℤ power ks k) ≡ slope_at ks k *ℤ (power ks (k + 1) -ℤ power ks k) =
      ap (λ (z : ℤ). slope_at ks k *ℤ (z -ℤ power ks k)) e in
      v ∙ omega (arith, ints)

  -- the value from a knot to the next
  on_part : (k : ℕ) (x : ℤ) → k + 1 < suc m → power ks k ≤ℤ x → x ≤ℤ power ks (k + 1) →
      value_upto ks m x ≡ height ks k +ℤ slope_at ks k *ℤ (x -ℤ power ks k)
  on_part k x h from to = by_lt_z (power ks k) x
      (λ past. in_part ks (suc m) b m k x (omega arith) (omega arith) past to)
      (λ upto.
      let here : x ≡ power ks k = omega (arith, ints) in
      let v = ap (value_upto ks m) here ∙ meets k (omega arith) in
      let none : slope_at ks k *ℤ (x -ℤ power ks k) ≡ slope_at ks k *ℤ pos 0 =
      ap (λ (z : ℤ). slope_at ks k *ℤ z) (omega (arith, ints)) in
      let z = *ℤ-zero (slope_at ks k) in
      v ∙ omega (arith, ints))

  straight_part : (k : ℕ) → k + 1 < suc m → IsStraight (power ks k) (power ks (k + 1)) (value_upto ks m)
  straight_part k h x from to =
      let v0 = on_part k (x -ℤ pos 1) h (omega (arith, ints)) (omega (arith, ints)) in
      let v1 = on_part k x h (omega (arith, ints)) (omega (arith, ints)) in
      let v2 = on_part k (x +ℤ pos 1) h (omega (arith, ints)) (omega (arith, ints)) in
      let line = straight_product (slope_at ks k) (power ks k) x in
      omega (arith, ints)

  -- at a knot between two others the slope doesn't fall
  convex_at : (k : ℕ) (x : ℤ) → k + 2 < suc m → x ≡ power ks (k + 1) →
      (value_upto ks m x +ℤ value_upto ks m x) ≤ℤ (value_upto ks m (x -ℤ pos 1) +ℤ value_upto ks m (x +ℤ pos 1))
  convex_at k x h here =
      let r0 = b.rise k (omega arith) in
      let next : power ks ((k + 1) + 1) ≡ power ks (k + 2) = ap (power ks) (omega arith) in
      let r1 = b.rise (k + 1) (omega arith) in
      let v0 = on_part k (x -ℤ pos 1) (omega arith) (omega (arith, ints)) (omega (arith, ints)) in
      let v1 = on_part k x (omega arith) (omega (arith, ints)) (omega (arith, ints)) in
      let v2 = on_part (k + 1) (x +ℤ pos 1) (omega arith) (omega (arith, ints)) (omega (arith, ints)) in
      let mid = meets (k + 1) (omega arith) in
      let same : value_upto ks m x ≡ value_upto ks m (power ks (k + 1)) = ap (value_upto ks m) here in
      let s = slope_at ks k in
      let t = slope_at ks (k + 1) in
      let back : s *ℤ ((x -ℤ pos 1) -ℤ power ks k) ≡ s *ℤ (x -ℤ power ks k) -ℤ s =
      ap (λ (z : ℤ). s *ℤ z) (omega (arith, ints)) ∙ times_prev s (x -ℤ power ks k) in
      let on : t *ℤ ((x +ℤ pos 1) -ℤ power ks (k + 1)) ≡ t =
      ap (λ (z : ℤ). t *ℤ z) (omega (arith, ints)) ∙ times_one t in
      let order = b.order k h in
      omega (arith, ints)

  convex_part : IsConvex (power ks 0) (power ks m) (value_upto ks m)
  convex_part x low high =
      let r = behind ks m x low (omega (arith, ints)) in
      let k = r.at in
      let from = r.from in
      by_lt_z x (power ks (k + 1))
      (λ within. let e = straight_part k (omega arith) x from within in omega (arith, ints))
      (λ knot. elim (cases_lt (k + 1) m) [
        | inl more ↦ convex_at k x (omega arith) (omega (arith, ints))
        | inr last ↦ let e : power ks (k + 1) ≡ power ks m = ap (power ks) (omega arith) in absurd (omega (arith, ints))
      ])

  pub StandFor-breakpoints : StandFor ks (suc m) (value_upto ks m)
  StandFor-breakpoints = record {
    rise = b.rise;
    meet = λ k h. sym (meets k h);
    straight = straight_part;
    convex = λ x low high. let e : power ks (suc m - 1) ≡ power ks m = ap (power ks) (omega arith) in
        convex_part x low (omega (arith, ints));
  }

pub IsShape-breakpoints : BreakpointsAreShapes
IsShape-breakpoints ks zero b = (λ x. x, StandFor-none ks zero (λ x. x) refl)
IsShape-breakpoints ks (suc m) b = (value_upto ks m, StandFor-breakpoints ks m b)

-- ---- and back

module _ (ks : List Knot) (n : ℕ) (f : ℤ → ℤ) (s : StandFor ks n f) where
  slope_is : (k : ℕ) → k + 1 < n → slope_at ks k ≡ f (power ks k +ℤ pos 1) -ℤ f (power ks k)
  slope_is k h =
      let a = s.meet k (omega arith) in
      let e = s.meet (k + 1) h in
      let rise = s.rise k h in
      let slope = f (power ks k +ℤ pos 1) -ℤ f (power ks k) in
      let end = straight_line f (power ks k) (power ks (k + 1)) (s.straight k h) (power ks (k + 1))
      (omega (arith, ints)) (omega (arith, ints)) in
      exact_div (height ks (k + 1) -ℤ height ks k) slope (power ks (k + 1) -ℤ power ks k) (omega (arith, ints))
      (omega (arith, ints))

  pub AreBreakpoints-of : AreBreakpoints ks n
  AreBreakpoints-of = record {
    rise = s.rise;
    whole = λ k h.
        let a = s.meet k (omega arith) in
        let e = s.meet (k + 1) h in
        let rise = s.rise k h in
        let end = straight_line f (power ks k) (power ks (k + 1)) (s.straight k h) (power ks (k + 1))
        (omega (arith, ints)) (omega (arith, ints)) in
        let p = ap (λ (z : ℤ). z *ℤ (power ks (k + 1) -ℤ power ks k)) (slope_is k h) in
        omega (arith, ints);
    order = λ k h.
        let a = slope_is k (omega arith) in
        let c = slope_is (k + 1) (omega arith) in
        let first = rises n (power ks) s.rise k 0 k (omega arith) (omega arith) in
        let r0 = s.rise k (omega arith) in
        let r1 = s.rise (k + 1) (omega arith) in
        let last = rises n (power ks) s.rise ((n - 1) - ((k + 1) + 1)) ((k + 1) + 1) (n - 1) (omega arith)
        (omega arith) in
        let o = slopes f (power ks 0) (power ks (n - 1)) s.convex (power ks k) (power ks (k + 1)) first
        (omega (arith, ints)) (omega (arith, ints)) in
        omega (arith, ints);
  }

pub AreBreakpoints-shape : ShapesAreBreakpoints
AreBreakpoints-shape ks n shape = AreBreakpoints-of ks n shape.0 shape.1
