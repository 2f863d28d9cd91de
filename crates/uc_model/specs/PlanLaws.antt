-- Units by their numbers, and the lists of a feasible plan. Each law is the clause of a public
-- function of its name.
use Rattle.std.specs.Prelude.{◌≡◌, ℕ, ◌+◌, Some, List, length, slice_get}
use Rattle.uc_model.specs.Data.{Thermal, Flat, Bid, NamedThermalUnit, NamedRenewableUnit}
use Rattle.uc_model.specs.Data.{NamedBidUnit, Schedule, Market, units, unit_count}
use Rattle.uc_model.specs.Laws.{HasPlanShape}
use Rattle.uc_model.specs.Systems.{IsFeasiblePlan}

-- a unit's number counts the thermal units first, then the renewable ones, then the bids
pub record NumbersUnits (m : Market) : Type 0 where
  pub count : length (units m) ≡ unit_count m
  pub thermal : (i : ℕ) (n : NamedThermalUnit) → slice_get m.thermal i ≡ Some n →
      slice_get (units m) i ≡ Some (Thermal n.unit)
  pub flat : (i : ℕ) (n : NamedRenewableUnit) → slice_get m.flat i ≡ Some n →
      slice_get (units m) (length m.thermal + i) ≡ Some (Flat n.unit)
  pub bids : (i : ℕ) (n : NamedBidUnit) → slice_get m.bids i ≡ Some n →
      slice_get (units m) ((length m.thermal + length m.flat) + i) ≡ Some (Bid n.unit)

abbrev pub UnitNumbersGoByKind : Type 0
UnitNumbersGoByKind = (m : Market) → NumbersUnits m

-- a feasible plan has a schedule over the horizon for each unit, and only thermal units are off or
-- give reserve
abbrev pub FeasiblePlansHaveShape : Type 0
FeasiblePlansHaveShape =
    (m : Market) (plan : List Schedule) → IsFeasiblePlan m plan → HasPlanShape m plan
