-- What a bench is made for, and what it holds once a unit's least end is found (this project's
-- profile).
use Rattle.std.specs.Prelude.{ℕ, ◌+◌, ◌*◌, ◌<◌, ◌≤◌, length}
use Rattle.slope_list.specs.Slopes.{space_of}
use Rattle.uc_model.specs.Data.{ThermalUnit, PriceLists}
use Rattle.unit_program.specs.declared.bench.Bench.{Bench}
use Rattle.unit_table.specs.Limits.{IsEndWithin}
use Rattle.unit_table.specs.Live.{HaveRoom, HasRoomFor, AreTraces, left_at}
use Rattle.unit_rows.specs.Rows.{cost_at, first_at}
use Rattle.unit_table.specs.RunningSpells.{CanBacktrack}
use Rattle.unit_rows.specs.declared.table.Entry.{Entry}

-- its parts suffice for the answers of a unit with so many cost points over so many periods
pub record IsBenchFor (periods points : ℕ) (b : Bench) : Type 0 where
  pub blocks : 2 * points ≤ length b.curve.blocks.items + b.curve.blocks.spare
  pub count : periods < length b.spells.items
  pub space : periods * (2 * points + 3) ≤ space_of b.shared.spare
  pub room : HaveRoom (space_of b.shared.spare) b.spells.items
  pub log : HasRoomFor periods b.shared.log
  pub rows : periods < length b.table.items
  pub origins : periods < length b.origins.list.items
  pub roster : periods < length b.roster.firsts.items
  pub limits : periods < length b.limits.items

-- a bench serves fewer periods and points too
abbrev pub BenchSufficesForFewerPeriods : Type 0
BenchSufficesForFewerPeriods =
    (periods points fewer less : ℕ) (b : Bench) → fewer ≤ periods → less ≤ points →
    IsBenchFor periods points b → IsBenchFor fewer less b

-- its table has this end as the least, and its log has what backtracking needs
pub record HasWayFrom (u : ThermalUnit) (π : PriceLists) (end : Entry) (b : Bench) : Type 0 where
  pub least : IsEndWithin u π b.table.items end.last end.cost
  pub backtracks :
      CanBacktrack u π (length π.energy) (cost_at b.table.items) (first_at b.table.items)
      (left_at b.shared.log.items b.spells.items)
  pub traces : AreTraces b.shared.log.items b.spells.items
  pub rows : length π.energy < length b.table.items
  pub spells : length π.energy < length b.spells.items
