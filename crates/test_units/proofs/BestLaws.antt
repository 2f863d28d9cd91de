-- Where the table has no end, there is no schedule.
use Rattle.test_units.proofs.Common.{◌≡◌, ℕ, suc, Option, Some, ℤ, pos, ◌≤ℤ◌, length, ThermalUnit, PriceLists, Schedule}
use Rattle.test_units.proofs.Common.{IsOffRun, IsComplete, IsThermalFeasible}
use Rattle.unit_program.proofs.ShapeLaws.{table_is_least}

module _ (g : ThermalUnit) (π : PriceLists) (periods : ℕ) (horizon : periods ≡ length π.energy) (ends : ℕ → Option ℤ)
    (ramp_up : pos 0 ≤ℤ g.ramp_up) (ramp_down : pos 0 ≤ℤ g.ramp_down)
    (complete : IsComplete g π periods (suc periods) ends) where
  -- no end, no schedule
  pub none_right : ((l : ℕ) (v : ℤ) → ends l ≡ Some v → IsOffRun g l periods → ⊥) → (s : Schedule) →
      IsThermalFeasible g periods s → ⊥
  none_right none s right =
      let r = table_is_least g π ends periods s right complete in
      none r.0 r.3.0 r.3.1 r.2
