-- What a schedule earns is what it costs, period by period, turned round.
use Rattle.unit_program.proofs.Common.{◌≡◌, ℕ, suc, ◌<◌, cond, ℤ, pos, neg_ℤ, ◌+ℤ◌, ◌-ℤ◌, ◌*ℤ◌, ap}
use Rattle.unit_program.proofs.Common.{inl, inr, IsFalse, signed, cases_Bool, *ℤ-zero, ThermalUnit, Thermal, PriceLists}
use Rattle.unit_program.proofs.Common.{Schedule, envelope, on_in, power_in, reserve_in, starts_in, time_down}
use Rattle.unit_program.proofs.Common.{IsSchedule, start_cost_of, earnings, int_at, sum_below-same}
use Rattle.unit_program.proofs.Common.{sum_below-add, sum_below-sub, period_cost, paid}

module _ (g : ThermalUnit) (π : PriceLists) (s : Schedule) where
  abbrev income : ℕ → ℤ
  income k = (int_at π.energy k *ℤ power_in s (suc k)) +ℤ (int_at π.reserve k *ℤ reserve_in s (suc k))

  abbrev production : ℕ → ℤ
  production k = cond (on_in g s (suc k)) (envelope g.points (power_in s (suc k))) (pos 0)

  abbrev starting : ℕ → ℤ
  starting k = cond (starts_in g s (suc k)) (start_cost_of g.lags (time_down g s k)) (pos 0)

  income-off : (k : ℕ) → power_in s (suc k) ≡ pos 0 → reserve_in s (suc k) ≡ pos 0 → income k ≡ pos 0
  income-off k p r = rw (p, r, *ℤ-zero (int_at π.energy k), *ℤ-zero (int_at π.reserve k))

  each : (k : ℕ) → (IsFalse (on_in g s (suc k)) → income k ≡ pos 0) →
      period_cost g π s k ≡ (production k -ℤ income k) +ℤ starting k
  each k none = elim (cases_Bool (on_in g s (suc k))) [
    | inl on ↦ ap (λ (z : ℤ). z +ℤ starting k) (rw on)
    | inr off ↦ ap (λ (z : ℤ). z +ℤ starting k) (rw (off, none off))
  ]

  -- what it earns at the prices is the sum of its periods' costs, turned round
  pub earnings-paid : (periods : ℕ) → IsSchedule periods s → earnings (Thermal g) π s ≡ neg_ℤ (paid g π s periods)
  earnings-paid periods h =
      let none : (k : ℕ) → k < periods → IsFalse (on_in g s (suc k)) → income k ≡ pos 0 = λ k low off.
      let r = h.off k low off in income-off k (ap pos r.0) (ap pos r.1) in
      let a = sum_below-same periods (period_cost g π s) (λ k. (production k -ℤ income k) +ℤ starting k)
      (λ k low. each k (none k low)) in
      let b = sum_below-add periods (λ k. production k -ℤ income k) starting in
      let c = sum_below-sub periods production income in
      rw h.on (omega signed)
