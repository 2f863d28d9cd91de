-- The slope from a point to one of more power: a quotient of whole numbers, rounded up.
use Rattle.cost_curve.proofs.Common.{◌≡◌, ℕ, zero, suc, ◌/◌, ◌≤◌, ℤ, pos, negsuc, neg_ℤ, ◌+ℤ◌, ◌-ℤ◌, ◌*ℤ◌, ◌≤ℤ◌, ◌<ℤ◌}
use Rattle.cost_curve.proofs.Common.{refl, sym, ap, ◌∙◌, subst, arith, w64, FitsSigned, of_z, ints, to_z-of_z}
use Rattle.cost_curve.proofs.Common.{pos-*ℤ-pos, negsuc-*ℤ-pos, suc_ℤ-*ℤ, pred_ℤ-*ℤ, +ℤ_one, -ℤ_one, int_div_euclid}
use Rattle.cost_curve.proofs.Common.{int_rem_euclid, Point, mul-sub, IsFrom, IsPoint, IsWithin, fits64, stored, IsSlope}
use Rattle.std.proofs.Math.Nat.{div-le_self}

natural : (d : ℤ) → pos 1 ≤ℤ d → (n : ℕ) × (d ≡ pos n) × (1 ≤ n)
natural (pos n) h = (n, refl, omega (arith, ints, h))
natural (negsuc n) h = absurd (omega (arith, ints, h))

-- ---- the quotient whose remainder isn't negative

whole_at : (a : ℤ) (n : ℕ) → 1 ≤ n → (int_div_euclid a (pos n) *ℤ pos n) +ℤ int_rem_euclid a (pos n) ≡ a
whole_at (pos a) n h = omega (arith, ints, pos-*ℤ-pos (a / n) n)
whole_at (negsuc a) n h = omega (arith, ints, negsuc-*ℤ-pos (a / n) n)

below_at : (a : ℤ) (n : ℕ) → 1 ≤ n → int_rem_euclid a (pos n) <ℤ pos n
below_at (pos a) n h = omega (arith, ints)
below_at (negsuc a) n h = omega (arith, ints)

quotient_at : (m : ℕ) (a : ℤ) (n : ℕ) → IsWithin m a → IsWithin m (int_div_euclid a (pos n))
quotient_at m (pos a) n h = let low = h.at_least in let high = h.at_most in let d = div-le_self a n in
    record { at_least = omega (arith, ints, low); at_most = omega (arith, ints, high, d) }
quotient_at m (negsuc a) n h = let low = h.at_least in let high = h.at_most in let d = div-le_self a n in
    record { at_least = omega (arith, ints, low, d); at_most = omega (arith, ints, high) }

least_at : (a : ℤ) (n : ℕ) → 1 ≤ n → pos 0 ≤ℤ int_rem_euclid a (pos n)
least_at (pos a) n h = omega (arith, ints)
least_at (negsuc a) n h = omega (arith, ints)

module _ (a d : ℤ) (h : pos 1 ≤ℤ d) where
  pub euclid_least : pos 0 ≤ℤ int_rem_euclid a d
  euclid_least = let n = natural d h in subst (λ z. pos 0 ≤ℤ int_rem_euclid a z) (sym n.1) (least_at a n.0 n.2)

  pub euclid_whole : (int_div_euclid a d *ℤ d) +ℤ int_rem_euclid a d ≡ a
  euclid_whole = let n = natural d h in
      subst (λ z. (int_div_euclid a z *ℤ z) +ℤ int_rem_euclid a z ≡ a) (sym n.1) (whole_at a n.0 n.2)

  pub euclid_below : int_rem_euclid a d <ℤ d
  euclid_below = let n = natural d h in subst (λ z. int_rem_euclid a z <ℤ z) (sym n.1) (below_at a n.0 n.2)

  pub euclid_within : (m : ℕ) → IsWithin m a → IsWithin m (int_div_euclid a d)
  euclid_within m w = let n = natural d h in
      subst (λ z. IsWithin m (int_div_euclid a z)) (sym n.1) (quotient_at m a n.0 w)

-- ---- products with a price and with the next one

pub next_times : (k z : ℤ) → (k +ℤ pos 1) *ℤ z ≡ (k *ℤ z) +ℤ z
next_times k z = ap (λ (j : ℤ). j *ℤ z) (+ℤ_one k) ∙ suc_ℤ-*ℤ k z

pub before_times : (k z : ℤ) → (k -ℤ pos 1) *ℤ z ≡ (k *ℤ z) -ℤ z
before_times k z = ap (λ (j : ℤ). j *ℤ z) (-ℤ_one k) ∙ pred_ℤ-*ℤ k z

-- ---- the slope

module _ (q p : Point) (price rest : ℤ) (whole : (price *ℤ (p.at -ℤ q.at)) +ℤ rest ≡ p.cost -ℤ q.cost) where
  pub IsSlope-even : q.at <ℤ p.at → rest ≡ pos 0 → IsSlope q p price (pos 0)
  IsSlope-even rising none =
      let split = mul-sub price p.at q.at in
      record {
        meets = omega (arith, ints, split, whole, none);
        least = omega (arith, ints);
        most =
            omega (arith, ints, rising);
      }

  pub IsSlope-up : pos 1 ≤ℤ rest → rest <ℤ (p.at -ℤ q.at) → IsSlope q p (price +ℤ pos 1) ((p.at -ℤ q.at) -ℤ rest)
  IsSlope-up some below =
      let split = mul-sub price p.at q.at in
      let p_next = next_times price p.at in
      let q_next = next_times price q.at in
      record {
        meets = omega (arith, ints, split, whole, p_next, q_next);
        least = omega (arith, ints, below);
        most =
            omega (arith, ints, some);
      }

-- ---- the same of what the code computes, where points are within their limits

zero_bits : (z : ℤ) → pos 0 ≤ℤ z → of_z w64 z ≡ 0 → z ≡ pos 0
zero_bits (pos n) h e = ap pos e
zero_bits (negsuc n) h e = absurd (omega (arith, ints, h))

some_bits : (z : ℤ) → pos 0 ≤ℤ z → (of_z w64 z ≡ 0 → ⊥) → pos 1 ≤ℤ z
some_bits (pos zero) h e = absurd (e refl)
some_bits (pos (suc n)) h e = omega (arith, ints)
some_bits (negsuc n) h e = absurd (omega (arith, ints, h))

module _ (q p : Point) (hq : IsPoint q) (hp : IsPoint p) (rising : q.at <ℤ p.at) (price rest : ℤ)
    (price_is : price ≡ int_div_euclid (stored (stored p.cost -ℤ stored q.cost)) (stored (stored p.at -ℤ stored q.at)))
    (rest_is : rest ≡ int_rem_euclid (stored (stored p.cost -ℤ stored q.cost)) (stored (stored p.at -ℤ stored q.at)))
  where
    pub run_is : stored (stored p.at -ℤ stored q.at) ≡ p.at -ℤ q.at
    run_is =
        let a = to_z-of_z w64 p.at
        (fits64 p.at (omega (arith, ints, hp.at.at_least)) (omega (arith, ints, hp.at.at_most))) in
        let b = to_z-of_z w64 q.at
        (fits64 q.at (omega (arith, ints, hq.at.at_least)) (omega (arith, ints, hq.at.at_most))) in
        let e : stored p.at -ℤ stored q.at ≡ p.at -ℤ q.at = omega (arith, ints, a, b) in
        ap stored e ∙ to_z-of_z w64 (p.at -ℤ q.at)
        (fits64 (p.at -ℤ q.at) (omega (arith, ints, hq.at.at_most, hp.at.at_least))
        (omega (arith, ints, hq.at.at_least, hp.at.at_most)))

    rise_is : stored (stored p.cost -ℤ stored q.cost) ≡ p.cost -ℤ q.cost
    rise_is =
        let a = to_z-of_z w64 p.cost
        (fits64 p.cost (omega (arith, ints, hp.cost.at_least)) (omega (arith, ints, hp.cost.at_most))) in
        let b = to_z-of_z w64 q.cost
        (fits64 q.cost (omega (arith, ints, hq.cost.at_least)) (omega (arith, ints, hq.cost.at_most))) in
        let e : stored p.cost -ℤ stored q.cost ≡ p.cost -ℤ q.cost = omega (arith, ints, a, b) in
        ap stored e ∙ to_z-of_z w64 (p.cost -ℤ q.cost)
        (fits64 (p.cost -ℤ q.cost) (omega (arith, ints, hq.cost.at_most, hp.cost.at_least))
        (omega (arith, ints, hq.cost.at_least, hp.cost.at_most)))

    quotient : price ≡ int_div_euclid (p.cost -ℤ q.cost) (p.at -ℤ q.at)
    quotient = price_is ∙ ap (λ (a : ℤ). int_div_euclid a (stored (stored p.at -ℤ stored q.at))) rise_is ∙
        ap (λ (d : ℤ). int_div_euclid (p.cost -ℤ q.cost) d) run_is

    remainder : rest ≡ int_rem_euclid (p.cost -ℤ q.cost) (p.at -ℤ q.at)
    remainder = rest_is ∙ ap (λ (a : ℤ). int_rem_euclid a (stored (stored p.at -ℤ stored q.at))) rise_is ∙
        ap (λ (d : ℤ). int_rem_euclid (p.cost -ℤ q.cost) d) run_is

    some_run : pos 1 ≤ℤ (p.at -ℤ q.at)
    some_run = omega (arith, ints, rising)

    whole : (price *ℤ (p.at -ℤ q.at)) +ℤ rest ≡ p.cost -ℤ q.cost
    whole =
        let e = ap (λ (z : ℤ). z *ℤ (p.at -ℤ q.at)) quotient in
        let w = euclid_whole (p.cost -ℤ q.cost) (p.at -ℤ q.at) some_run in
        let r = remainder in
        omega (arith, ints, e, r, w)

    rest_below : rest <ℤ (p.at -ℤ q.at)
    rest_below = let b = euclid_below (p.cost -ℤ q.cost) (p.at -ℤ q.at) some_run in let r = remainder in
        omega (arith, ints, r, b)

    rest_least : pos 0 ≤ℤ rest
    rest_least = let b = euclid_least (p.cost -ℤ q.cost) (p.at -ℤ q.at) some_run in let r = remainder in
        omega (arith, ints, r, b)

    rest_fits : FitsSigned w64 rest
    rest_fits = let b = rest_below in let l = rest_least in
        fits64 rest (omega (arith, ints, l)) (omega (arith, ints, b, hq.at.at_least, hp.at.at_most))

    price_within : IsFrom (neg_ℤ (pos 20000000000000)) (pos 20000000000000) price
    price_within =
        let w : IsWithin 20000000000000 (p.cost -ℤ q.cost) =
        record {
          at_least = omega (arith, ints, hq.cost.at_most, hp.cost.at_least);
          at_most =
              omega (arith, ints, hq.cost.at_least, hp.cost.at_most);
        } in
        subst (λ z. IsFrom (neg_ℤ (pos 20000000000000)) (pos 20000000000000) z) (sym quotient)
        (euclid_within (p.cost -ℤ q.cost) (p.at -ℤ q.at) some_run 20000000000000 w)

    price_fits : FitsSigned w64 price
    price_fits = let b = price_within in fits64 price (omega (arith, ints, b.at_least)) (omega (arith, ints, b.at_most))

    price_is_stored : stored price ≡ price
    price_is_stored = to_z-of_z w64 price price_fits

    pub next_fits : FitsSigned w64 (stored price +ℤ pos 1)
    next_fits = let b = price_within in let s = price_is_stored in
        fits64 (stored price +ℤ pos 1) (omega (arith, ints, b.at_least, s)) (omega (arith, ints, b.at_most, s))

    next_is : stored (stored price +ℤ pos 1) ≡ price +ℤ pos 1
    next_is = to_z-of_z w64 (stored price +ℤ pos 1) next_fits ∙ ap (λ (z : ℤ). z +ℤ pos 1) price_is_stored

    width_is : pos 1 ≤ℤ rest → stored (stored (stored p.at -ℤ stored q.at) -ℤ stored rest) ≡ (p.at -ℤ q.at) -ℤ rest
    width_is some =
        let b = rest_below in
        let r = to_z-of_z w64 rest rest_fits in
        let e : stored (stored p.at -ℤ stored q.at) -ℤ stored rest ≡ (p.at -ℤ q.at) -ℤ rest =
        omega (arith, ints, run_is, r) in
        ap stored e ∙ to_z-of_z w64 ((p.at -ℤ q.at) -ℤ rest)
        (fits64 ((p.at -ℤ q.at) -ℤ rest) (omega (arith, ints, b))
        (omega (arith, ints, some, hq.at.at_least, hp.at.at_most)))

    pub even_slope : of_z w64 rest ≡ 0 → IsSlope q p (stored price) (pos 0)
    even_slope none = subst (λ z. IsSlope q p z (pos 0)) (sym price_is_stored)
        (IsSlope-even q p price rest whole rising (zero_bits rest rest_least none))

    pub even_price : IsFrom (neg_ℤ (pos 20000000000001)) (pos 20000000000001) (stored price)
    even_price = let b = price_within in let s = price_is_stored in
        record { at_least = omega (arith, ints, b.at_least, s); at_most = omega (arith, ints, b.at_most, s) }

    module _ (some : of_z w64 rest ≡ 0 → ⊥) where
      pub up_slope : IsSlope q p (stored (stored price +ℤ pos 1))
          (stored (stored (stored p.at -ℤ stored q.at) -ℤ stored rest))
      up_slope =
          let one = some_bits rest rest_least some in
          subst (λ z. IsSlope q p z (stored (stored (stored p.at -ℤ stored q.at) -ℤ stored rest))) (sym next_is)
          (subst (λ z. IsSlope q p (price +ℤ pos 1) z) (sym (width_is one))
          (IsSlope-up q p price rest whole one rest_below))

      pub up_price : IsFrom (neg_ℤ (pos 20000000000001)) (pos 20000000000001) (stored (stored price +ℤ pos 1))
      up_price = let b = price_within in let s = next_is in
          record { at_least = omega (arith, ints, b.at_least, s); at_most = omega (arith, ints, b.at_most, s) }

      pub up_width : IsFrom (pos 0) (pos 1000000000) (stored (stored (stored p.at -ℤ stored q.at) -ℤ stored rest))
      up_width =
          let one = some_bits rest rest_least some in
          let w = width_is one in
          let b = rest_below in
          record {
            at_least = omega (arith, ints, b, w);
            at_most =
                omega (arith, ints, one, w, hq.at.at_least, hp.at.at_most);
          }
