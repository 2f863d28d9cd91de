-- Earnings are the sum of what each period earns, and a feasible schedule gives no more than the greatest power.
use Rattle.test_tiny.proofs.Common.{◌≡◌, ℕ, suc, ◌<◌, Bool, true, false, cond, pos, ◌+ℤ◌, ◌-ℤ◌, ◌≤ℤ◌, length, refl, ap}
use Rattle.test_tiny.proofs.Common.{arith, ints, clamps, slice_index, slice_index_or, ThermalUnit, Thermal, PriceLists}
use Rattle.test_tiny.proofs.Common.{Schedule, earnings, IsThermalUnit, IsPeriod, IsThermalFeasible, sum_below}
use Rattle.test_tiny.proofs.Common.{revenue_in, production_in, start_in, net_in}
use Rattle.plain_lists.proofs.IntLaws.{sum_below-add, sum_below-sub}

-- ---- earnings as one sum

pub earnings-net : (g : ThermalUnit) (π : PriceLists) (s : Schedule) (n : ℕ) → n ≡ length s.on →
    sum_below n (net_in g π s) ≡ earnings (Thermal g) π s
earnings-net g π s n is =
    let a = sum_below-sub n (revenue_in π s) (λ k. production_in g s k +ℤ start_in g s k) in
    let b = sum_below-add n (production_in g s) (start_in g s) in
    let p = ap (λ (m : ℕ). sum_below m (production_in g s)) is in
    let i = ap (λ (m : ℕ). sum_below m (revenue_in π s)) is in
    let t = ap (λ (m : ℕ). sum_below m (start_in g s)) is in
    omega (arith, ints, a, b, p, i, t)

-- ---- a feasible schedule

-- the power and the reserve of a period are together at most the greatest power
pub power_and_reserve : (g : ThermalUnit) (s : Schedule) (n : ℕ) → IsThermalUnit g → IsThermalFeasible g n s → (k : ℕ) →
    k < n →
    (pos (slice_index s.power k) +ℤ pos (slice_index s.reserve k)) ≤ℤ g.max_power
power_and_reserve g s n unit h k low =
    let long = h.schedule.on in
    let period : IsPeriod s (suc k) = record { from_one = omega arith; to_last = omega (arith, low, long) } in
    elim (slice_index_or s.on k false) as (λ b. slice_index_or s.on k false ≡ b →
    (pos (slice_index s.power k) +ℤ pos (slice_index s.reserve k)) ≤ℤ g.max_power) [
      | true ↦ λ on.
          let e = ap (λ (b : Bool). cond b (pos (slice_index s.power k) -ℤ g.min_power) (pos 0)) on in
          let most = h.dispatch.greatest (suc k) period on in
          omega (arith, ints, clamps, e, most)
      | false ↦ λ off.
          let none = h.schedule.off k low off in
          let p = ap pos none.0 in
          let r = ap pos none.1 in
          let least = unit.min_power.at_least in
          let range = unit.range in
          omega (arith, ints, p, r, least, range)
    ] refl
