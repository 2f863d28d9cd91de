-- What holding the commitments of a plan does. Each law is the clause of a public function of its
-- name.
use Rattle.std.specs.Prelude.{◌≡◌, ◌↔◌, ℕ, ℤ, ◌≤ℤ◌, List, length, map}
use Rattle.uc_model.specs.Data.{ThermalUnit, NamedThermalUnit, PriceLists, Schedule, Market}
use Rattle.uc_model.specs.Data.{unit_count}
use Rattle.uc_model.specs.Limits.{ArePrices, IsMarket}
use Rattle.uc_model.specs.Schedules.{IsThermalFeasible}
use Rattle.uc_model.specs.Systems.{IsFeasiblePlan, plan_cost, IsDualValue}
use Rattle.plan_settle.specs.FixedCase.{held_unit, fixed_market}

-- a schedule is feasible for the held unit exactly where it is feasible for the unit as given and
-- has the commitment that is held
abbrev pub SchedulesOfFixedUnitKeepItsCommitment : Type 0
SchedulesOfFixedUnitKeepItsCommitment =
    (g : ThermalUnit) (n : ℕ) (held s : Schedule) → IsThermalFeasible g n held →
    IsThermalFeasible (held_unit g held) n s ↔ (IsThermalFeasible g n s × (s.on ≡ held.on))

-- the fixed case is within the limits and has as many units, with the same cost points; the plan is
-- feasible for it at the same cost, and at all prices within the limits its dual value is between
-- that of the case as given and that cost
pub record IsFixing (m : Market) (plan : List Schedule) : Type 0 where
  pub market : IsMarket (fixed_market m plan)
  pub count : unit_count (fixed_market m plan) ≡ unit_count m
  pub points : map (λ (n : NamedThermalUnit). n.unit.points) (fixed_market m plan).thermal
      ≡ map (λ (n : NamedThermalUnit). n.unit.points) m.thermal
  pub feasible : IsFeasiblePlan (fixed_market m plan) plan
  pub cost : plan_cost (fixed_market m plan) plan ≡ plan_cost m plan
  pub rises : (π : PriceLists) (value fixed : ℤ) → ArePrices π → length π.energy ≡ m.periods →
      IsDualValue m π value → IsDualValue (fixed_market m plan) π fixed → value ≤ℤ fixed
  pub at_most : (π : PriceLists) (fixed : ℤ) → ArePrices π → length π.energy ≡ m.periods →
      IsDualValue (fixed_market m plan) π fixed → fixed ≤ℤ plan_cost m plan

abbrev pub PlanStaysFeasibleWithFixedCommitments : Type 0
PlanStaysFeasibleWithFixedCommitments =
    (m : Market) (plan : List Schedule) → IsMarket m → IsFeasiblePlan m plan → IsFixing m plan
