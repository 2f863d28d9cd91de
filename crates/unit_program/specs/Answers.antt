-- The answer of a unit (best responses are those of Gribik, Hogan and Pope 2007).
use Rattle.std.specs.Prelude.{◌≡◌, ℕ, ⊤, suc, length, Some, slice_get, slice_index}
use Rattle.uc_model.specs.declared.units.Answered.{Answered}
use Rattle.uc_model.specs.declared.units.Flow.{Flow}
use Rattle.uc_model.specs.Data.{AnyUnit, Thermal, Flat, Bid, PriceLists, Schedule, Market, units}
use Rattle.uc_model.specs.Earnings.{amount_of, earnings, supply_in}
use Rattle.uc_model.specs.PlainUnits.{schedule_of}
use Rattle.uc_model.specs.Runs.{Fits}
use Rattle.uc_model.specs.Schedules.{IsFeasible}
use Rattle.unit_program.specs.Benches.{IsBenchFor}
use Rattle.unit_program.specs.declared.bench.Bench.{Bench}

-- the unit isn't without a feasible schedule over so many periods
abbrev pub CanBeAnswered : AnyUnit → ℕ → Type 0
CanBeAnswered u periods = ((s : Schedule) → IsFeasible u periods s → ⊥) → ⊥

-- the bench suffices for the answers of the unit over so many periods
abbrev pub Suffices : ℕ → AnyUnit → Bench → Type 0
Suffices periods (Thermal g) b = IsBenchFor periods (length g.points) b
Suffices periods (Flat r) b = ⊤
Suffices periods (Bid d) b = ⊤

-- the response fits the prices, and this is what it earns
pub record IsResponse (u : AnyUnit) (π : PriceLists) (a : Answered) : Type 0 where
  pub fit : Fits u π (schedule_of a.response)
  pub earned : earnings u π (schedule_of a.response) ≡ a.earned

-- a response of the unit that fits the prices, what it earns, and which way its powers count
pub record IsAnswerAt (m : Market) (π : PriceLists) (number : ℕ) (flow : Flow) (a : Answered)
    : Type 0 where
  pub unit : AnyUnit
  pub is : slice_get (units m) number ≡ Some unit
  pub fit : Fits unit π (schedule_of a.response)
  pub earned : a.earned ≡ earnings unit π (schedule_of a.response)
  pub supply : (k : ℕ) → supply_in unit (schedule_of a.response) (suc k)
      ≡ amount_of flow (slice_index (schedule_of a.response).power k)
