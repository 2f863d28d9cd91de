-- The cost of a power on an edge, as the code computes it.
use Rattle.cost_curve.proofs.Common.{◌≡◌, ℕ, ◌<◌, ◌⊎◌, inl, inr, ℤ, pos, neg_ℤ, ◌+ℤ◌, ◌-ℤ◌, ◌*ℤ◌, ◌≤ℤ◌, ◌<ℤ◌, List}
use Rattle.cost_curve.proofs.Common.{length, sym, ap, ◌∙◌, subst, arith, w64, FitsSigned, true, false, int_le, ints}
use Rattle.cost_curve.proofs.Common.{to_z-of_z, Point, envelope, line_at, PowerCostsAreWithin, EnvelopeIsGreatest}
use Rattle.cost_curve.proofs.Common.{IsCost, IsFrom, IsPoint, IsPower, Spans, AreCostPoints, point_at, IsEdge, IsVertex}
use Rattle.cost_curve.proofs.Common.{fits64, stored}
use Rattle.cost_curve.proofs.EnvelopeValues.{Spans-ordered, envelope_value, IsEnvelope-before, IsEnvelope-after}

le_from_test : (a b : ℤ) → int_le a b ≡ true → a ≤ℤ b
le_from_test a b h = grind (arith, ints)

lt_from_test : (a b : ℤ) → int_le a b ≡ false → b <ℤ a
lt_from_test a b h = grind (arith, ints)

module _ (q : Point) (t w x : ℤ) (hq : IsPoint q)
    (price_limit : IsFrom (neg_ℤ (pos 20000000000001)) (pos 20000000000001) t) (width_limit : IsPower w)
    (hx : IsPower x)
    (line : IsFrom (neg_ℤ (pos 20000000000000)) (pos 20000000000000) (line_at (t -ℤ pos 1) x q)) where
  over_is : stored (stored x -ℤ stored q.at) ≡ x -ℤ q.at
  over_is =
      let a = hx.at_least in let b = hx.at_most in let c = hq.at.at_least in let d = hq.at.at_most in
      let x_is = to_z-of_z w64 x (fits64 x (omega (arith, ints, a)) (omega (arith, ints, b))) in
      let q_is = to_z-of_z w64 q.at (fits64 q.at (omega (arith, ints, c)) (omega (arith, ints, d))) in
      let e : stored x -ℤ stored q.at ≡ x -ℤ q.at = omega (arith, ints, x_is, q_is) in
      ap stored e ∙ to_z-of_z w64 (x -ℤ q.at)
      (fits64 (x -ℤ q.at) (omega (arith, ints, a, d)) (omega (arith, ints, b, c)))

  price_is : stored (stored t -ℤ pos 1) ≡ t -ℤ pos 1
  price_is =
      let a = price_limit.at_least in let b = price_limit.at_most in
      let t_is = to_z-of_z w64 t (fits64 t (omega (arith, ints, a)) (omega (arith, ints, b))) in
      let e : stored t -ℤ pos 1 ≡ t -ℤ pos 1 = omega (arith, ints, t_is) in
      ap stored e ∙ to_z-of_z w64 (t -ℤ pos 1) (fits64 (t -ℤ pos 1) (omega (arith, ints, a)) (omega (arith, ints, b)))

  product_is : stored (stored t -ℤ pos 1) *ℤ stored (stored x -ℤ stored q.at) ≡ (t -ℤ pos 1) *ℤ (x -ℤ q.at)
  product_is = ap (λ (z : ℤ). z *ℤ stored (stored x -ℤ stored q.at)) price_is ∙
      ap (λ (z : ℤ). (t -ℤ pos 1) *ℤ z) over_is

  pub product_fits : FitsSigned w64 (stored (stored t -ℤ pos 1) *ℤ stored (stored x -ℤ stored q.at))
  product_fits =
      let p = product_is in let a = line.at_least in let b = line.at_most in let c = hq.cost.at_least in
      let d = hq.cost.at_most in
      fits64 (stored (stored t -ℤ pos 1) *ℤ stored (stored x -ℤ stored q.at)) (omega (arith, ints, p, a, d))
      (omega (arith, ints, p, b, c))

  sum_is : stored q.cost +ℤ stored (stored (stored t -ℤ pos 1) *ℤ stored (stored x -ℤ stored q.at)) ≡ line_at
      (t -ℤ pos 1) x q
  sum_is =
      let c = hq.cost.at_least in let d = hq.cost.at_most in
      let q_is = to_z-of_z w64 q.cost (fits64 q.cost (omega (arith, ints, c)) (omega (arith, ints, d))) in
      let p_is = to_z-of_z w64 (stored (stored t -ℤ pos 1) *ℤ stored (stored x -ℤ stored q.at)) product_fits in
      let p = product_is in
      omega (arith, ints, q_is, p_is, p)

  pub cost_fits : FitsSigned w64
      (stored q.cost +ℤ stored (stored (stored t -ℤ pos 1) *ℤ stored (stored x -ℤ stored q.at)))
  cost_fits =
      let s = sum_is in let a = line.at_least in let b = line.at_most in
      fits64 (stored q.cost +ℤ stored (stored (stored t -ℤ pos 1) *ℤ stored (stored x -ℤ stored q.at)))
      (omega (arith, ints, s, a)) (omega (arith, ints, s, b))

  pub cost_is : stored (stored q.cost +ℤ stored (stored (stored t -ℤ pos 1) *ℤ stored (stored x -ℤ stored q.at)))
      ≡ line_at (t -ℤ pos 1) x q
  cost_is = to_z-of_z w64 _ cost_fits ∙ sum_is

  w_is : stored w ≡ w
  w_is = let a = width_limit.at_least in let b = width_limit.at_most in
      to_z-of_z w64 w (fits64 w (omega (arith, ints, a)) (omega (arith, ints, b)))

  rest_is : stored (stored (stored x -ℤ stored q.at) -ℤ stored w) ≡ (x -ℤ q.at) -ℤ w
  rest_is =
      let o = over_is in let v = w_is in
      let a = hx.at_least in let b = hx.at_most in let c = hq.at.at_least in let d = hq.at.at_most in
      let f = width_limit.at_least in let g = width_limit.at_most in
      let e : stored (stored x -ℤ stored q.at) -ℤ stored w ≡ (x -ℤ q.at) -ℤ w = omega (arith, ints, o, v) in
      ap stored e ∙ to_z-of_z w64 ((x -ℤ q.at) -ℤ w)
      (fits64 ((x -ℤ q.at) -ℤ w) (omega (arith, ints, a, d, g)) (omega (arith, ints, b, c, f)))

  pub near : int_le (stored (stored x -ℤ stored q.at)) (stored w) ≡ true → (x -ℤ q.at) ≤ℤ w
  near h = le_from_test (x -ℤ q.at) w
      (sym (ap (λ (z : ℤ). int_le z (stored w)) over_is ∙ ap (λ (z : ℤ). int_le (x -ℤ q.at) z) w_is) ∙ h)

  pub far : int_le (stored (stored x -ℤ stored q.at)) (stored w) ≡ false → w <ℤ (x -ℤ q.at)
  far h = lt_from_test (x -ℤ q.at) w
      (sym (ap (λ (z : ℤ). int_le z (stored w)) over_is ∙ ap (λ (z : ℤ). int_le (x -ℤ q.at) z) w_is) ∙ h)

  pub total_fits : FitsSigned w64
      (stored (stored q.cost +ℤ stored (stored (stored t -ℤ pos 1) *ℤ stored (stored x -ℤ stored q.at))) +ℤ stored
      (stored (stored x -ℤ stored q.at) -ℤ stored w))
  total_fits =
      let s = cost_is in let r = rest_is in let a = line.at_least in let b = line.at_most in
      let c = hx.at_least in let d = hx.at_most in let f = hq.at.at_least in let g = hq.at.at_most in
      let i = width_limit.at_least in let j = width_limit.at_most in
      fits64 _ (omega (arith, ints, s, r, a, c, g, j)) (omega (arith, ints, s, r, b, d, f, i))

  pub total_is : stored
      (stored (stored q.cost +ℤ stored (stored (stored t -ℤ pos 1) *ℤ stored (stored x -ℤ stored q.at))) +ℤ stored
      (stored (stored x -ℤ stored q.at) -ℤ stored w)) ≡ line_at (t -ℤ pos 1) x q +ℤ ((x -ℤ q.at) -ℤ w)
  total_is = let s = cost_is in let r = rest_is in let t_is = to_z-of_z w64 _ total_fits in
      omega (arith, ints, s, r, t_is)

-- ---- on an edge

module _ (greatest : EnvelopeIsGreatest) (costs : PowerCostsAreWithin) (ps : List Point) (are : AreCostPoints ps)
    (i j : ℕ) (i_in : i < length ps) (j_in : j < length ps) (k t w : ℤ) (v : IsVertex ps k (point_at ps i))
    (e : IsEdge (point_at ps i) (length ps) ps (point_at ps j) t w)
    (x : ℤ) (from : (point_at ps i).at ≤ℤ x) (to : x ≤ℤ (point_at ps j).at) where
  span : Spans ps x x
  span = Spans-ordered ps are.ordered i j x i_in j_in from to

  near_or_far : ((x -ℤ (point_at ps i).at) ≤ℤ w) ⊎ (w ≤ℤ (x -ℤ (point_at ps i).at))
  near_or_far = grind (arith, ints)

  pub x_power : IsPower x
  x_power =
      let a = (are.points i (record { at = pos 0; cost = pos 0 }) i_in).at.at_least in
      let b = (are.points j (record { at = pos 0; cost = pos 0 }) j_in).at.at_most in
      record { at_least = omega (arith, ints, a, from); at_most = omega (arith, ints, b, to) }

  pub line_within : IsFrom (neg_ℤ (pos 20000000000000)) (pos 20000000000000) (line_at (t -ℤ pos 1) x (point_at ps i))
  line_within =
      let limit = costs ps x are.some are.points span in
      let low = limit.at_least in
      let high = limit.at_most in
      let a = (are.points i (record { at = pos 0; cost = pos 0 }) i_in).at.at_least in
      let b = (are.points j (record { at = pos 0; cost = pos 0 }) j_in).at.at_most in
      let wide = e.slope.least in
      elim near_or_far [
        | inl h ↦
            let is = envelope_value greatest ps are x (line_at (t -ℤ pos 1) x (point_at ps i)) span
            (IsEnvelope-before ps i j i_in j_in k t w v e x from to h) in
            record { at_least = omega (arith, ints, is, low); at_most = omega (arith, ints, is, high) }
        | inr h ↦
            let is = envelope_value greatest ps are x
            (line_at (t -ℤ pos 1) x (point_at ps i) +ℤ ((x -ℤ (point_at ps i).at) -ℤ w)) span
            (IsEnvelope-after ps i j i_in j_in k t w v e x from to h) in
            record {
              at_least = omega (arith, ints, is, low, a, b, to, wide);
              at_most =
                  omega (arith, ints, is, high, h);
            }
      ]

  -- a number that is what the code promises is the envelope
  pub edge_value : (r : ℤ) → ((x -ℤ (point_at ps i).at) ≤ℤ w → r ≡ line_at (t -ℤ pos 1) x (point_at ps i)) →
      (w ≤ℤ (x -ℤ (point_at ps i).at) → r ≡ line_at (t -ℤ pos 1) x (point_at ps i) +ℤ ((x -ℤ (point_at ps i).at) -ℤ w))
      → r ≡ envelope ps x
  edge_value r before after =
      elim near_or_far [
        | inl h ↦ before h ∙
            sym (envelope_value greatest ps are x (line_at (t -ℤ pos 1) x (point_at ps i)) span
            (IsEnvelope-before ps i j i_in j_in k t w v e x from to h))
        | inr h ↦ after h ∙
            sym (envelope_value greatest ps are x
            (line_at (t -ℤ pos 1) x (point_at ps i) +ℤ ((x -ℤ (point_at ps i).at) -ℤ w)) span
            (IsEnvelope-after ps i j i_in j_in k t w v e x from to h))
      ]

  pub edge_limit : (r : ℤ) → r ≡ envelope ps x → IsCost r
  edge_limit r is = subst IsCost (sym is) (costs ps x are.some are.points span)
