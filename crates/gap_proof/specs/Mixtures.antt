-- Mixtures of schedules of thermal units. Such a mixture is the pseudo-schedule of the bundle
-- literature (Dubost, Gonzalez and Lemarechal 2005): the primal side of the dual, as the master
-- problem of Dantzig and Wolfe finds it. Whole weights are this project's profile.
use Rattle.std.specs.Prelude.{◌≡◌, ℕ, ℤ, pos, ◌<ℤ◌, ◌≤ℤ◌, List, map, length}
use Rattle.std.specs.List.{All, AllZip}
use Rattle.uc_model.specs.Data.{ThermalUnit, NamedThermalUnit, Schedule, Market}
use Rattle.plain_lists.specs.Ranges.{IsFrom}
use Rattle.uc_model.specs.PlainUnits.{schedule_of}
use Rattle.uc_model.specs.Schedules.{IsThermalFeasible}
use Rattle.plain_lists.specs.Sums.{total}
use Rattle.gap_proof.specs.declared.mixtures.Entry.{Entry}
use Rattle.gap_proof.specs.declared.mixtures.Mixture.{Mixture}
use Rattle.plain_lists.specs.Reserved.{Reserved}

-- a schedule of a thermal unit, and how often it counts
pub record WeighedSchedule : Type 0 where
  pub weight : ℤ
  pub schedule : Schedule

-- for each thermal unit, in file order, some schedules, whose weights sum to the whole
pub record MixtureLists : Type 0 where
  pub whole : ℤ
  pub entries : List (List WeighedSchedule)

-- ---- what the program keeps

abbrev pub entry_of : Entry → WeighedSchedule
entry_of e = record { weight = e.weight; schedule = schedule_of e.response }

abbrev pub entries_of : Reserved Entry → List WeighedSchedule
entries_of l = map entry_of l.items

abbrev pub mixture_of : Mixture → MixtureLists
mixture_of x = record { whole = x.weight; entries = map entries_of x.thermal.items }

-- ---- what a mixture keeps

-- a unit's weights: none is below 0, and they sum to the whole
pub record AreShares (whole : ℤ) (entries : List WeighedSchedule) : Type 0 where
  pub from_zero : All (λ (e : WeighedSchedule). pos 0 ≤ℤ e.weight) entries
  pub whole_is : total (map (λ (e : WeighedSchedule). e.weight) entries) ≡ whole

-- a unit's entries: such weights, and schedules that are feasible for the unit
pub record AreMixed (periods : ℕ) (whole : ℤ) (g : ThermalUnit)
    (entries : List WeighedSchedule) : Type 0 where
  pub shares : AreShares whole entries
  pub feasible : All (λ (e : WeighedSchedule). IsThermalFeasible g periods e.schedule) entries

-- a whole above 0, and such entries for each thermal unit. Nothing is said of demand and of the
-- required reserve: entries of different units need not balance.
pub record IsMixture (m : Market) (x : MixtureLists) : Type 0 where
  pub some : pos 0 <ℤ x.whole
  pub mixed : AllZip (λ (n : NamedThermalUnit) (entries : List WeighedSchedule).
      AreMixed m.periods x.whole n.unit entries) m.thermal x.entries

-- ---- what is read of a mixture before its schedules are checked

-- three lists over the horizon
pub record IsOver (periods : ℕ) (s : Schedule) : Type 0 where
  pub on : length s.on ≡ periods
  pub power : length s.power ≡ periods
  pub reserve : length s.reserve ≡ periods

pub record AreEntries (periods : ℕ) (whole : ℤ) (entries : List WeighedSchedule) : Type 0 where
  pub shares : AreShares whole entries
  pub over : All (λ (e : WeighedSchedule). IsOver periods e.schedule) entries

-- the greatest whole
abbrev pub most_whole : ℤ
most_whole = pos 1000000000000

pub record HasMixtureShape (m : Market) (x : MixtureLists) : Type 0 where
  pub whole : IsFrom (pos 1) most_whole x.whole
  pub entries : AllZip (λ (n : NamedThermalUnit) (entries : List WeighedSchedule).
      AreEntries m.periods x.whole entries) m.thermal x.entries
