-- What the parts of a unit and of a case keep while they are read: limits and counts.
use Rattle.std.specs.Prelude.{◌≡◌, ℕ, ◌≤◌, ◌≤ℤ◌, length}
use Rattle.std.specs.List.{All}
use Rattle.uc_model.specs.declared.limits.TheConstants.{MOST_LAGS, MOST_OF_A_KIND}
use Rattle.uc_model.specs.Limits.{IsPower, IsOutput, IsTime}
use Rattle.uc_model.specs.Limits.{IsThermalUnit, IsRenewableUnit, IsBidUnit}
use Rattle.uc_model.specs.Data.{NamedThermalUnit, NamedRenewableUnit, NamedBidUnit}
use Rattle.uc_field.specs.Kept.{AreLags, IsPointList}
use Rattle.uc_case.specs.Cases.{AllUnits, HorizonNeeds}
use Rattle.uc_case.specs.Tables.{UnitLists}
use Rattle.uc_case.specs.declared.parts.Output.{Output}
use Rattle.uc_case.specs.declared.parts.Ramps.{Ramps}
use Rattle.uc_case.specs.declared.parts.Past.{Past}

pub record IsRange (o : Output) : Type 0 where
  pub least : IsPower o.least
  pub most : IsOutput o.most
  pub range : o.least ≤ℤ o.most

pub record AreRamps (r : Ramps) : Type 0 where
  pub up : IsPower r.up
  pub down : IsPower r.down
  pub start : IsPower r.start
  pub stop : IsPower r.stop

pub record IsPast (p : Past) : Type 0 where
  pub min_up : IsTime p.min_up
  pub some_up : 1 ≤ p.min_up
  pub min_down : IsTime p.min_down
  pub some_down : 1 ≤ p.min_down
  pub power : IsOutput p.power
  pub up : IsTime p.up
  pub down : IsTime p.down

pub record AreUnitLists (o : Output) (periods : ℕ) (l : UnitLists) : Type 0 where
  pub lag_count : length l.lags ≤ MOST_LAGS
  pub lags : AreLags l.lags
  pub points : IsPointList l.points o.least o.most
  pub window : length l.window ≡ periods

-- a unit over the periods of its case
abbrev pub IsThermalOf : ℕ → NamedThermalUnit → Type 0
IsThermalOf periods n = IsThermalUnit n.unit × (length n.unit.window ≡ periods)

abbrev pub IsRenewableOf : ℕ → NamedRenewableUnit → Type 0
IsRenewableOf periods n = IsRenewableUnit n.unit × (length n.unit.least ≡ periods)

abbrev pub IsBidOf : ℕ → NamedBidUnit → Type 0
IsBidOf periods n = IsBidUnit n.unit × (length n.unit.blocks ≡ periods)

-- a demand and a required reserve for each of so many periods
pub record AreNeeds (periods : ℕ) (n : HorizonNeeds) : Type 0 where
  pub demand_count : length n.demand ≡ periods
  pub demand : All IsPower n.demand
  pub reserves_count : length n.reserves ≡ periods
  pub reserves : All IsPower n.reserves

-- the units and bids of a case over so many periods
pub record AreAllUnits (periods : ℕ) (us : AllUnits) : Type 0 where
  pub thermal_count : length us.thermal ≤ MOST_OF_A_KIND
  pub flat_count : length us.flat ≤ MOST_OF_A_KIND
  pub bid_count : length us.bids ≤ MOST_OF_A_KIND
  pub thermal : All (IsThermalOf periods) us.thermal
  pub flat : All (IsRenewableOf periods) us.flat
  pub bids : All (IsBidOf periods) us.bids
