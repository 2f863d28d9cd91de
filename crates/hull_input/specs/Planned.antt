-- What a command works on: a case with a feasible schedule.
use Rattle.std.specs.Prelude.{◌≡◌, ℤ, List}
use Rattle.board_core.specs.Setups.{setup_of}
use Rattle.board_core.specs.declared.terms.Terms.{Terms}
use Rattle.board_store.specs.Board.{Setup}
use Rattle.uc_model.specs.Data.{Market, Schedule}
use Rattle.uc_model.specs.PlainCases.{market_of, schedules_of}
use Rattle.uc_model.specs.Systems.{IsFeasiblePlan, plan_cost}
use Rattle.hull_input.specs.declared.input.Input.{Input}
use Rattle.hull_input.specs.declared.input.SearchInput.{SearchInput}

-- a case, a schedule of all its units, and what that costs
pub record PlannedCase : Type 0 where
  pub market : Market
  pub plan : List Schedule
  pub cost : ℤ

-- what a contract sees of an input
abbrev pub planned_of : Input → PlannedCase
planned_of input =
    record { market = market_of input.case; plan = schedules_of input.plan; cost = input.cost }

-- what the board of a run was made for
abbrev pub planned_in : Setup → PlannedCase
planned_in b = record { market = b.market; plan = b.plan; cost = b.cost }

-- what a run works on
abbrev pub planned_run : Terms → PlannedCase
planned_run terms = planned_in (setup_of terms)

-- what a search works on
abbrev pub planned_search : SearchInput → PlannedCase
planned_search search = planned_of search.input

-- the schedule is feasible, and this is its cost
pub record IsPlanned (input : Input) : Type 0 where
  pub feasible : IsFeasiblePlan (market_of input.case) (schedules_of input.plan)
  pub cost : input.cost ≡ plan_cost (market_of input.case) (schedules_of input.plan)
