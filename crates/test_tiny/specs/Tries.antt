-- What trying schedules in the order for ties keeps (this project's profile).
use Rattle.std.specs.Prelude.{◌≡◌, ℕ, ◌≤◌, ◌⊎◌, ℤ, ◌<ℤ◌, Bool, IsTrue, IsFalse, length}
use Rattle.uc_model.specs.Data.{ThermalUnit, Thermal, PriceLists, Schedule}
use Rattle.uc_model.specs.Earnings.{earnings}
use Rattle.uc_model.specs.Schedules.{IsThermalFeasible}
use Rattle.test_tiny.specs.Counts.{schedules_after}

-- of the schedules that have at least so many after them, the first of the best, where there is a
-- feasible one
pub record IsKept (g : ThermalUnit) (π : PriceLists) (most left : ℕ) (found : Bool) (s : Schedule)
    (earned : ℤ) : Type 0 where
  pub none : IsFalse found → (other : Schedule) → IsThermalFeasible g (length π.energy) other →
      left ≤ schedules_after most other → ⊥
  pub feasible : IsTrue found → IsThermalFeasible g (length π.energy) s
  pub earns : IsTrue found → earnings (Thermal g) π s ≡ earned
  pub tried : IsTrue found → left ≤ schedules_after most s
  pub first : IsTrue found → (other : Schedule) → IsThermalFeasible g (length π.energy) other →
      left ≤ schedules_after most other →
      (earnings (Thermal g) π other <ℤ earned)
      ⊎ ((earnings (Thermal g) π other ≡ earned)
      × (schedules_after most other ≤ schedules_after most s))
