-- What prices pay for the power and the reserve of a schedule.
use Rattle.price_settle.proofs.Common.{◌≡◌, ℕ, suc, ℤ, neg_ℤ, ◌+ℤ◌, ◌-ℤ◌, ◌*ℤ◌, length, ap, arith, ints, ThermalUnit}
use Rattle.price_settle.proofs.Common.{RenewableUnit, BidUnit, Thermal, Flat, Bid, PriceLists, Schedule, revenue}
use Rattle.price_settle.proofs.Common.{AreOneLength, power_in, reserve_in, int_at, sum_below, mul-neg, paid_for}
use Rattle.plain_lists.proofs.IntLaws.{sum_below-same, sum_below-add, sum_below-sub}

module _ (π : PriceLists) (s : Schedule) (one : AreOneLength s) where
  abbrev energy : ℕ → ℤ
  energy k = int_at π.energy k *ℤ power_in s (suc k)

  abbrev reserve : ℕ → ℤ
  reserve k = int_at π.reserve k *ℤ reserve_in s (suc k)

  energy_is : paid_for π.energy s.power ≡ sum_below (length s.on) energy
  energy_is = ap (λ (n : ℕ). sum_below n energy) one.power

  reserve_is : paid_for π.reserve s.reserve ≡ sum_below (length s.on) reserve
  reserve_is = ap (λ (n : ℕ). sum_below n reserve) one.reserve

  pub thermal_paid : (g : ThermalUnit) →
      revenue (Thermal g) π s ≡ paid_for π.energy s.power +ℤ paid_for π.reserve s.reserve
  thermal_paid g =
      let add = sum_below-add (length s.on) energy reserve in
      let a = energy_is in
      let b = reserve_is in
      omega (arith, ints, add, a, b)

  pub flat_paid : (r : RenewableUnit) → revenue (Flat r) π s ≡ paid_for π.energy s.power +ℤ paid_for π.reserve s.reserve
  flat_paid r =
      let add = sum_below-add (length s.on) energy reserve in
      let a = energy_is in
      let b = reserve_is in
      omega (arith, ints, add, a, b)

  pub bid_paid : (b : BidUnit) → revenue (Bid b) π s ≡ paid_for π.reserve s.reserve -ℤ paid_for π.energy s.power
  bid_paid b =
      let same = sum_below-same (length s.on) (λ k. (int_at π.energy k *ℤ neg_ℤ (power_in s (suc k))) +ℤ reserve k)
      (λ k. reserve k -ℤ energy k)
      (λ k lt. let e = mul-neg (int_at π.energy k) (power_in s (suc k)) in omega (arith, ints, e)) in
      let apart = sum_below-sub (length s.on) reserve energy in
      let a = energy_is in
      let d = reserve_is in
      omega (arith, ints, same, apart, a, d)
