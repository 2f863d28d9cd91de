-- Entries of a unit with one weight, or one schedule, put in place of another (this project's
-- profile). Places count from 0.
use Rattle.std.specs.Prelude.{◌≡◌, ℕ, zero, suc, ℤ, List, [], ◌∷◌, map, Some, slice_get}
use Rattle.uc_model.specs.Data.{ThermalUnit, NamedThermalUnit, Schedule, Market}
use Rattle.uc_model.specs.Schedules.{IsThermalFeasible}
use Rattle.plain_lists.specs.Sums.{int_at}
use Rattle.gap_proof.specs.Mixtures.{WeighedSchedule}
use Rattle.bundle_columns.specs.Mixing.{AreKept}

-- the weight of the entry at an index
abbrev pub weight_at : List WeighedSchedule → ℕ → ℤ
weight_at entries index = int_at (map (λ (e : WeighedSchedule). e.weight) entries) index

-- the entries with another weight at an index
abbrev pub reweighed : List WeighedSchedule → ℕ → ℤ → List WeighedSchedule
reweighed [] index weight = []
reweighed (e ∷ es) zero weight = record e { weight = weight } ∷ es
reweighed (e ∷ es) (suc index) weight = e ∷ reweighed es index weight

-- and with another schedule there
abbrev pub rescheduled : List WeighedSchedule → ℕ → Schedule → List WeighedSchedule
rescheduled [] index s = []
rescheduled (e ∷ es) zero s = record e { schedule = s } ∷ es
rescheduled (e ∷ es) (suc index) s = e ∷ rescheduled es index s

-- a schedule is feasible for the thermal unit of a number, counted from 0, and there is one
pub record IsFitAt (m : Market) (number : ℕ) (s : Schedule) : Type 0 where
  pub unit : NamedThermalUnit
  pub is : slice_get m.thermal number ≡ Some unit
  pub feasible : IsThermalFeasible unit.unit m.periods s

-- what was kept of a unit is kept after a change
abbrev pub StaysKept : List WeighedSchedule → List WeighedSchedule → Type 0
StaysKept before after =
    (periods places : ℕ) (g : ThermalUnit) →
    AreKept periods places g before → AreKept periods places g after
