-- The plain data of what is read in parts: the items of its lists.
use Rattle.std.specs.Prelude.{map}
use Rattle.uc_model.specs.PlainUnits.{named_thermal_of, named_renewable_of, named_bid_of}
use Rattle.uc_case.specs.Cases.{AllUnits, HorizonNeeds}
use Rattle.uc_case.specs.Tables.{UnitLists}
use Rattle.uc_case.specs.declared.parts.Lists.{Lists}
use Rattle.uc_case.specs.declared.parts.Needs.{Needs}
use Rattle.uc_case.specs.declared.parts.Units.{Units}

abbrev pub lists_of : Lists → UnitLists
lists_of l = record { lags = l.lags.items; points = l.points.items; window = l.window.items }

abbrev pub needs_of : Needs → HorizonNeeds
needs_of n = record { demand = n.demand.items; reserves = n.reserves.items }

abbrev pub units_of : Units → AllUnits
units_of u = record {
  thermal = map named_thermal_of u.thermal.items;
  flat = map named_renewable_of u.flat.items;
  bids = map named_bid_of u.bids.items;
}
