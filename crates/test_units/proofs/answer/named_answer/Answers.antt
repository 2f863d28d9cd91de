use Rattle.test_units.proofs.Common.{◌≡◌, ℕ, Some, None, ℤ, length, refl, IfNone, thermal_of, prices_of, cost_at}
use Rattle.test_units.proofs.Common.{IsOffRun, ◌∙◌, sym, arith}
use Rattle.test_units.proofs.Lemmas.{none_right}
use Rattle.test_units.proofs.answer.named_answer.Goals as goal

pub returns-in_default-clause-none : goal.returns-in_default-clause-none
returns-in_default-clause-none g c =
    let u = c.args.unit.now in
    let rows = c.args.rows.now in
    let T = length c.args.prices.now.energy.items in
    let told = rw c.len-periods.ensures at c.least_cost_end_of_horizon.ensures.none in
    let none : (l : ℕ) (v : ℤ) → cost_at rows l ≡ Some v → IsOffRun (thermal_of u) l T → ⊥ =
    elim (c.least_cost_end_of_horizon.result) as (λ o. c.least_cost_end_of_horizon.result ≡ o →
    IfNone o ((l : ℕ) (v : ℤ) → cost_at rows l ≡ Some v → IsOffRun (thermal_of u) l T → ⊥) → (l : ℕ) (v : ℤ) →
    cost_at rows l ≡ Some v → IsOffRun (thermal_of u) l T → ⊥) [
      | None ↦ λ is h. h
      | Some x ↦ λ is h. absurd (c.in_default.not-Some x is)
    ] refl told in
    none_right (thermal_of u) (prices_of c.args.prices.now) T refl (cost_at rows) u.valid.ramp_up.at_least
    u.valid.ramp_down.at_least c.requires.filled.table.complete none

pub write_best-requires-clause-end : goal.write_best-requires-clause-end
write_best-requires-clause-end g c = rw c.len-periods.ensures at c.in-Some.ensures.some

pub write_best-requires-clause-earliest : goal.write_best-requires-clause-earliest
write_best-requires-clause-earliest g c = rw c.len-periods.ensures at c.in-Some.ensures.earliest

pub least_cost_end_of_horizon-requires-clause-periods : goal.least_cost_end_of_horizon-requires-clause-periods
least_cost_end_of_horizon-requires-clause-periods g c = c.len-periods.ensures ∙ sym c.requires.horizon

pub least_cost_end_of_horizon-requires-clause-room : goal.least_cost_end_of_horizon-requires-clause-room
least_cost_end_of_horizon-requires-clause-room g c =
    let room = c.requires.room in
    let periods = c.len-periods.ensures in
    omega (arith, room, periods)
