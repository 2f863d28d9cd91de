-- What follows a power doesn't ask how that power was reached: the dispatch rules of pglib-uc
-- (Knueven, Ostrowski and Watson) look at the power before a period alone. So a period of one spell
-- may be put behind a run of another spell that ends where that one does before it. Each law is the
-- clause of a public function.
use Rattle.std.specs.Prelude.{◌≡◌, ℕ, suc, ◌<◌, ◌≤◌, ℤ, ◌+ℤ◌, Some, length}
use Rattle.slope_list.specs.Table.{Table, value_of}
use Rattle.uc_model.specs.Data.{ThermalUnit, PriceLists, Schedule}
use Rattle.uc_model.specs.Limits.{IsThermalUnit}
use Rattle.spell_run.specs.Frontier.{IsFrontier}
use Rattle.spell_run.specs.Spells.{IsDispatch, spell_cost}
use Rattle.unit_rows.specs.NetCosts.{net_cost}
use Rattle.spell_run.specs.Steps.{level, IsRun}

-- a run from `other` to period suc k ends where d does: it costs v up to period k, and what d costs
-- in period suc k
pub record IsRunOn (g : ThermalUnit) (π : PriceLists) (first other k : ℕ) (d : Schedule) (v : ℤ) :
    Type 0 where
  pub run : Schedule
  pub keeps : IsRun g other (suc k) run
  pub ends : level g other run (suc k) ≡ level g first d (suc k)
  pub cost : spell_cost g π other (suc k) run ≡ v +ℤ net_cost g π d (suc k)

-- the same of a dispatch
pub record IsDispatchOn (g : ThermalUnit) (π : PriceLists) (other k : ℕ) (d : Schedule) (v : ℤ) :
    Type 0 where
  pub dispatch : Schedule
  pub keeps : IsDispatch g (length π.energy) other (suc k) dispatch
  pub cost : spell_cost g π other (suc k) dispatch ≡ v +ℤ net_cost g π d (suc k)

-- f has a value where d is at the end of period k, so its run goes on as d does
abbrev pub RunsMeetingAtPowerContinueAlike : Type 0
RunsMeetingAtPowerContinueAlike =
    (g : ThermalUnit) (π : PriceLists) (first other k : ℕ) (f : Table) (d : Schedule) (v : ℤ) →
    first ≤ suc k → other ≤ k → k < length π.energy →
    IsFrontier g π other k f → value_of f (level g first d k) ≡ Some v → IsRun g first (suc k) d →
    IsRunOn g π first other k d v

abbrev pub DispatchesMeetingAtPowerContinueAlike : Type 0
DispatchesMeetingAtPowerContinueAlike =
    (g : ThermalUnit) (π : PriceLists) (first other k : ℕ) (f : Table) (d : Schedule) (v : ℤ) →
    IsThermalUnit g → first ≤ suc k → other ≤ k → k < length π.energy →
    IsFrontier g π other k f → value_of f (level g first d k) ≡ Some v →
    IsDispatch g (length π.energy) first (suc k) d → IsDispatchOn g π other k d v

-- a dispatch keeps the rules of a run
abbrev pub DispatchesAreRuns : Type 0
DispatchesAreRuns =
    (g : ThermalUnit) (periods first k : ℕ) (d : Schedule) → IsThermalUnit g → first ≤ suc k →
    IsDispatch g periods first (suc k) d → IsRun g first (suc k) d
