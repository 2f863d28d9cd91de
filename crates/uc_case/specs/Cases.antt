-- The table of a case file: the case of a value, or the fault of the first test that fails
-- (pglib-uc; bids and limits are this project's profile). Keys that no table names are skipped.
use Rattle.std.specs.Prelude.{ℕ, ℤ, Bool, ◌&&◌, ◌==◌, nat_lt, List, [], length, Option, Some, None, Ok}
use Rattle.uc_model.specs.declared.kinds.Kind.{Kind}
use Rattle.uc_model.specs.declared.kinds.Kind.TheVariants.{Case, Thermal, Renewable, Bid}
use Rattle.uc_model.specs.declared.limits.TheConstants.{MOST_PERIODS, MOST_OF_A_KIND}
use Rattle.uc_model.specs.Data.{NamedThermalUnit, NamedRenewableUnit, NamedBidUnit, Market}
use Rattle.uc_text.specs.Values.{Value}
use Rattle.uc_text.specs.Pairs.{Pair}
use Rattle.uc_field.specs.Sites.{fault, field_at, site}
use Rattle.uc_text.specs.Words.{◌>>=◌, ◌>>◌, refuse, each, position}
use Rattle.uc_field.specs.Forms.{Read, Keys, keys, key, key_or_none, object, time_within}
use Rattle.uc_field.specs.Lists.{powers}
use Rattle.uc_case.specs.Tables.{thermal_unit, renewable_unit, bid_unit}
use Rattle.uc_field.specs.declared.fault.CaseCode.TheVariants.{TooLarge, NoUnits, NoPeriods}
use Rattle.uc_field.specs.declared.fault.Field.{Field}
use Rattle.uc_field.specs.declared.fault.Field.TheVariants.{Whole, TimePeriods, Demand}
use Rattle.uc_field.specs.declared.fault.Field.TheVariants.{Reserves, ThermalGenerators}
use Rattle.uc_field.specs.declared.fault.Field.TheVariants.{RenewableGenerators, DemandBids}
use Rattle.uc_field.specs.declared.fault.Site.{Site}

unfoldable pub thermal : ℕ → Site → Pair → Read NamedThermalUnit
thermal periods at m = do
  u ← thermal_unit periods at m.value
  Ok (record { name = m.name; unit = u })

unfoldable pub renewable : ℕ → Site → Pair → Read NamedRenewableUnit
renewable periods at m = do
  u ← renewable_unit periods at m.value
  Ok (record { name = m.name; unit = u })

unfoldable pub bid : ℕ → Site → Pair → Read NamedBidUnit
bid periods at m = do
  u ← bid_unit periods at m.value
  Ok (record { name = m.name; unit = u })

-- members in file order, each at the site of its position
abbrev pub each_member : {A : Type 0} → Field → Kind → (Site → Pair → Read A)
    → List Pair → Read (List A)
each_member field kind read ms = each (λ before. read (site field kind (position before))) [] ms

-- an object by name
unfoldable pub units : {A : Type 0} → Field → Kind → (Site → Pair → Read A)
    → Site → Value → Read (List A)
units field kind read at v = do
  ms ← object at v
  refuse (fault at TooLarge) (nat_lt MOST_OF_A_KIND (length ms))
  each_member field kind read ms

-- an absent one is an empty one
unfoldable pub bids : ℕ → Site → Option Value → Read (List NamedBidUnit)
bids periods at None = Ok []
bids periods at (Some v) = units DemandBids Bid (bid periods) at v

abbrev pub whole : Site
whole = site Whole Case 0

-- the units and bids of a case
pub record AllUnits : Type 0 where
  pub thermal : List NamedThermalUnit
  pub flat : List NamedRenewableUnit
  pub bids : List NamedBidUnit

unfoldable pub all_units : ℕ → Keys → Read AllUnits
all_units periods c = do
  thermal ← key c ThermalGenerators (units ThermalGenerators Thermal (thermal periods))
  flat ← key c RenewableGenerators (units RenewableGenerators Renewable (renewable periods))
  bids ← key_or_none c DemandBids (bids periods)
  Ok (record { thermal = thermal; flat = flat; bids = bids })

unfoldable pub horizon : Keys → Read ℕ
horizon c = do
  periods ← key c TimePeriods (time_within MOST_PERIODS)
  refuse (fault (field_at whole TimePeriods) NoPeriods) (periods == 0)
  Ok periods

-- what each period wants
pub record HorizonNeeds : Type 0 where
  pub demand : List ℤ
  pub reserves : List ℤ

unfoldable pub needs : ℕ → Keys → Read HorizonNeeds
needs periods c = do
  demand ← key c Demand (powers periods)
  reserves ← key c Reserves (powers periods)
  Ok (record { demand = demand; reserves = reserves })

abbrev pub no_unit : AllUnits → Bool
no_unit us = length us.thermal == 0 && length us.flat == 0

abbrev pub joined_case : ℕ → HorizonNeeds → AllUnits → Market
joined_case periods n us = record {
  periods = periods;
  demand = n.demand;
  reserves = n.reserves;
  thermal = us.thermal;
  flat = us.flat;
  bids = us.bids;
}

unfoldable pub keyed_case : Keys → Read Market
keyed_case c = do
  periods ← horizon c
  n ← needs periods c
  us ← all_units periods c
  refuse (fault (field_at whole RenewableGenerators) NoUnits) (no_unit us)
  Ok (joined_case periods n us)

unfoldable pub case_of : Value → Read Market
case_of v = do
  ms ← object whole v
  keyed_case (keys whole ms)
