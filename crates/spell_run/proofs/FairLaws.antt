-- The numbers of a unit's step are within limits, and the curve of its points is a cost of the step.
use Rattle.spell_run.proofs.Common
use Common.{◌≡◌, ℕ, suc, ◌-◌, ◌<◌, ◌⊎◌, inl, inr, ℤ, pos, neg_ℤ, ◌+ℤ◌, ◌-ℤ◌, ◌≤ℤ◌, Bool, true, false, cond, List}
use Common.{length, Some, refl, sym, ap, ◌∙◌, arith, w64, FitsSigned, slice_get, int_min, to_z-of_z, bounded}
use Common.{signed, get_or_from_slice_get, IsCostCurve, AreCostPoints, EnvelopeIsWithinCostLimit, end_of}
use Common.{IsLimitedCurve, same_some, Curve, ThermalUnit, PriceLists, envelope, IsFrom, IsPower, IsOutput, IsCost}
use Common.{IsThermalUnit, ArePrices, int_at, fits_within, IsWithin, Step, cap_at, step_at, IsFairStep, IsCostOf}
use Rattle.plain_lists.proofs.SignedLaws.{stored, stored_is}
use Rattle.uc_model.specs.declared.units.Point.{Point}
use Rattle.spell_run.proofs.StepLaws.{under_cap, under_most, cost_on}

pub read_is : (xs : List ℤ) (k : ℕ) {v : ℤ} → slice_get xs k ≡ Some v → v ≡ int_at xs k
read_is xs k {v = v} h = sym (get_or_from_slice_get xs k v (pos 0) h)

abbrev pub IsStep : Step → Step → Type 0
IsStep a b = a ≡ b

-- ---- limits

pub cap_out : (g : ThermalUnit) (starts stops : Bool) → IsThermalUnit g → IsOutput (cap_at g starts stops)
cap_out g true true unit = record {
  at_least = (let c = unit.stop_limit.at_least in omega bounded);
  at_most = omega bounded;
}
cap_out g true false unit = record { at_least = omega bounded; at_most = omega bounded }
cap_out g false true unit = record { at_least = omega bounded; at_most = omega bounded }
cap_out g false false unit = record { at_least = omega bounded; at_most = omega bounded }

most_out : (g : ThermalUnit) (π : PriceLists) (k : ℕ) (starts stops : Bool) → IsThermalUnit g →
    IsOutput (step_at g π k starts stops).most
most_out g π k starts true unit = least_of (cap_out g starts true unit)
  where
    least_of : {c : ℤ} → IsOutput c → IsOutput (int_min c (g.min_power +ℤ g.ramp_down))
    least_of o = record { at_least = omega bounded; at_most = omega bounded }
most_out g π k starts false unit = cap_out g starts false unit

pub step_fair : {g : ThermalUnit} {π : PriceLists} {k : ℕ} (starts stops : Bool) → IsThermalUnit g → ArePrices π →
    k < length π.energy → IsFairStep (step_at g π k starts stops)
step_fair {g = g} {π = π} {k = k} starts stops unit prices within =
    let e = prices.energy k (pos 0) within in
    let r = prices.reserve k (pos 0) (omega arith) in
    record {
      least = record { at_least = unit.min_power.at_least; at_most = omega signed };
      most = most_out g π k starts stops unit;
      cap = cap_out g starts stops unit;
      ramp_up = unit.ramp_up;
      ramp_down = unit.ramp_down;
      reserve_price = r;
      slope = record { at_least = omega signed; at_most = omega signed };
    }

-- ---- numbers as they are stored

pub power_stored : {z : ℤ} → IsPower z → stored z ≡ z
power_stored h = stored_is _ (record { at_least = omega signed; at_most = omega signed })

pub output_stored : {z : ℤ} → IsOutput z → stored z ≡ z
output_stored h = stored_is _ (record { at_least = omega signed; at_most = omega signed })

-- the greatest power before a stop, as it is stored
pub most_chosen : {g : ThermalUnit} {cap result : ℤ} → IsThermalUnit g → FitsSigned w64 cap → FitsSigned w64 result →
    result ≡ int_min (stored cap) (stored (stored g.min_power +ℤ stored g.ramp_down)) →
    stored result ≡ int_min cap (g.min_power +ℤ g.ramp_down)
most_chosen {g = g} {cap = cap} {result = result} unit fits fits' is =
    let low = power_stored unit.min_power in
    let down = power_stored unit.ramp_down in
    let sum : stored (g.min_power +ℤ g.ramp_down) ≡ g.min_power +ℤ g.ramp_down = stored_is _
    (record { at_least = omega signed; at_most = omega signed }) in
    let top = to_z-of_z w64 cap fits in
    let here = to_z-of_z w64 result fits' in
    cc

-- the numbers of a step as they are stored
module _ {g : ThermalUnit} {π : PriceLists} {k : ℕ} (starts stops : Bool) (unit : IsThermalUnit g)
    (prices : ArePrices π) (within : k < length π.energy)
    {cap most energy reserve : ℤ} (cap_is : cap ≡ cap_at g starts stops)
    (most_is : most ≡ cond stops (int_min (stored cap) (g.min_power +ℤ g.ramp_down)) (stored cap))
    (energy_is : energy ≡ int_at π.energy k) (reserve_is : reserve ≡ int_at π.reserve k) where
  energy_within : IsFrom (neg_ℤ (pos 10000000)) (pos 10000000) energy
  energy_within = rw energy_is (prices.energy k (pos 0) within)

  reserve_within : IsFrom (pos 0) (pos 10000000) reserve
  reserve_within = rw reserve_is (prices.reserve k (pos 0) (omega arith))

  reserve_stored : stored reserve ≡ reserve
  reserve_stored = output_stored reserve_within

  slope_within : IsWithin 9000000000000000000 (reserve -ℤ energy)
  slope_within =
      let r = reserve_within in
      let e = energy_within in
      record { at_least = omega signed; at_most = omega signed }

  slope_same : stored reserve -ℤ stored energy ≡ reserve -ℤ energy
  slope_same =
      let r = reserve_stored in
      let near = energy_within in
      let e : stored energy ≡ energy = stored_is _
      (record { at_least = omega signed; at_most = omega signed }) in
      cc

  pub slope_fits : FitsSigned w64 (stored reserve -ℤ stored energy)
  slope_fits = rw slope_same (fits_within w64 9000000000000000000 _ slope_within (omega arith))

  cap_stored : stored cap ≡ cap_at g starts stops
  cap_stored = output_stored (rw cap_is (cap_out g starts stops unit)) ∙ cap_is

  most_at : most ≡ (step_at g π k starts stops).most
  most_at = most_is ∙ ap (λ z. cond stops (int_min z (g.min_power +ℤ g.ramp_down)) z) cap_stored

  most_stored : stored most ≡ (step_at g π k starts stops).most
  most_stored = output_stored (rw most_at (most_out g π k starts stops unit)) ∙ most_at

  pub step_stored : IsStep (record {
    least = stored g.min_power;
    most = stored most;
    cap = stored cap;
    ramp_up = stored g.ramp_up;
    ramp_down = stored g.ramp_down;
    reserve_price = stored reserve;
    slope = stored (stored reserve -ℤ stored energy);
  }) (step_at g π k starts stops)
  step_stored =
      rw (
        slope_same,
        stored_is _ slope_within,
        reserve_stored,
        energy_is,
        reserve_is,
        most_stored,
        cap_stored,
        power_stored unit.min_power,
        power_stored unit.ramp_up,
        power_stored unit.ramp_down,
      )

-- ---- the curve

module _ (g : ThermalUnit) (c : Curve) (unit : IsThermalUnit g) (curve : IsCostCurve g.points c)
    (law : EnvelopeIsWithinCostLimit)
  where
    points : AreCostPoints g.points
    points = record {
      some = unit.some_point;
      count = unit.point_count;
      points = unit.points;
      ordered = unit.points_ordered;
    }

    abbrev origin : Point
    origin = record { at = pos 0; cost = pos 0 }

    limited : IsLimitedCurve c
    limited =
        let n = length g.points - 1 in
        let last : suc n ≡ length g.points = omega arith in
        let low : IsPower c.at = rw (curve.starts origin) (unit.points 0 origin (omega arith)).at in
        let high : IsPower (end_of c.at c.blocks.items) =
        rw (curve.ends n origin last) (unit.points n origin (omega arith)).at in
        record {
          blocks = curve.blocks;
          first_place = (omega signed, omega signed);
          last_place = (omega signed, omega signed);
          values = λ x v h.
              let spans = curve.inside x (rw h refl) in
              let e : v ≡ envelope g.points x = same_some h (curve.value x spans) in
              let cost : IsCost v = rw e (law g.points x points spans) in
              (omega signed, omega signed);
        }

    pub cost_of_step : (π : PriceLists) (k : ℕ) (starts stops : Bool) → pos 0 ≤ℤ int_at π.reserve k →
        IsCostOf (step_at g π k starts stops) c
    cost_of_step π k starts stops price = record {
      limited = limited;
      costs = λ x low high.
          let under = (under_cap g starts stops (under_most g π k starts stops high).0).most in
          let on = cost_on π k unit price curve low under in
          (envelope g.points x, on, law g.points x points (curve.inside x (rw on refl)));
    }

-- what a call that makes a step and one that asks for it share
pub cost_is : {g : ThermalUnit} {π : PriceLists} {k : ℕ} (starts stops : Bool) {s : Step} {c : Curve} →
    IsStep s (step_at g π k starts stops) → IsThermalUnit g → ArePrices π → k < length π.energy →
    IsCostCurve g.points c → EnvelopeIsWithinCostLimit → IsCostOf s c
cost_is {g = g} {π = π} {k = k} starts stops {c = c} is unit prices within curve law =
    rw is (cost_of_step g c unit curve law π k starts stops (prices.reserve k (pos 0) (omega arith)).at_least)

-- a step before a stop that differs in the range of the power alone
module _ (g : ThermalUnit) (π : PriceLists) (k : ℕ) {starts starts' : Bool} {last : Step}
    (last_is : IsStep last (step_at g π k starts true)) (same : starts ≡ starts') where
  pub alike_of : {on : Step} → IsStep on (step_at g π k starts false) →
      (on.reserve_price ≡ pos 0) ⊎ (last.cap ≡ on.cap) →
      (int_at π.reserve k ≡ pos 0) ⊎ (cap_at g starts' true ≡ cap_at g starts' false)
  alike_of on_is (inl free) = inl (cc)
  alike_of on_is (inr alike) =
      inr (rw same at (sym (ap (λ s. s.cap) last_is) ∙ alike ∙ ap (λ (s : Step). s.cap) on_is))

  pub range_moved : IsFairStep last → (P : ℤ → ℤ → Type 0) → P (stored last.least) (stored last.most) →
      P g.min_power (step_at g π k starts' true).most
  range_moved fair P here =
      let low : stored last.least ≡ g.min_power = output_stored fair.least ∙
      ap (λ s. s.least) last_is in
      let high : stored last.most ≡ (step_at g π k starts' true).most =
      output_stored fair.most ∙ ap (λ s. s.most) last_is ∙
      ap (λ b. (step_at g π k b true).most) same in
      rw low at (rw high at here)
