-- What a board may be made for (the limits are this project's profile).
use Rattle.std.specs.Prelude.{◌≡◌, ◌*◌, ◌≤◌}
use Rattle.board_store.specs.Board.{Setup}
use Rattle.uc_model.specs.Data.{unit_count}
use Rattle.plain_lists.specs.declared.limits.TheConstants.{MOST_PROPOSALS, MOST_AHEAD}
use Rattle.plain_lists.specs.declared.limits.TheConstants.{MOST_CALLERS, MOST_WORK}
use Rattle.uc_model.specs.Limits.{IsMarket}
use Rattle.uc_model.specs.PlainCases.{market_of, schedules_of}
use Rattle.uc_model.specs.Systems.{IsFeasiblePlan, plan_cost}
use Rattle.board_core.specs.declared.terms.Terms.{Terms}

-- a case, a feasible plan with its cost, and numbers within the limits
pub record IsSetup (b : Setup) : Type 0 where
  pub market : IsMarket b.market
  pub feasible : IsFeasiblePlan b.market b.plan
  pub cost : b.cost ≡ plan_cost b.market b.plan
  pub some_budget : 1 ≤ b.budget
  pub budget : b.budget ≤ MOST_PROPOSALS
  pub some_ahead : 1 ≤ b.ahead
  pub ahead : b.ahead ≤ MOST_AHEAD
  pub some_caller : 1 ≤ b.callers
  pub callers : b.callers ≤ MOST_CALLERS
  pub size : b.budget * unit_count b.market * b.market.periods ≤ MOST_WORK

abbrev pub setup_of : Terms → Setup
setup_of t = record {
  market = market_of t.case;
  plan = schedules_of t.plan;
  cost = t.cost;
  budget = t.budget;
  ahead = t.ahead;
  callers = t.callers;
}
