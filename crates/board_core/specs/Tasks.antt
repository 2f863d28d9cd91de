-- The task that a claim leaves (this project's profile).
use Rattle.std.specs.Prelude.{◌≡◌, ℕ, Some, slice_get}
use Rattle.board_store.specs.Board.{Content}
use Rattle.board_store.specs.Calls.{own_prices}
use Rattle.board_store.specs.Rounds.{ClaimReply, Finished, Halted, GivenTask, NotYet}
use Rattle.uc_model.specs.Data.{Schedule, units}
use Rattle.uc_model.specs.PlainCases.{task_unit}
use Rattle.uc_model.specs.PlainUnits.{prices_of}
use Rattle.uc_model.specs.Schedules.{IsFeasible}
use Rattle.uc_model.specs.declared.cases.Task.{Task}

-- the task of a proposal and a unit number: its prices, and its unit, which has some feasible
-- schedule
pub record IsOwnTask (c : Content) (n u : ℕ) (t : Task) : Type 0 where
  pub proposal : t.proposal ≡ n
  pub number : t.unit ≡ u
  pub prices : prices_of t.prices ≡ own_prices c n
  pub unit : slice_get (units c.setup.market) u ≡ Some (task_unit t)
  pub some_schedule : Schedule
  pub feasible : IsFeasible (task_unit t) c.setup.market.periods some_schedule

-- what a claim leaves where there was another task before: the task that it gives, or that other
-- one
abbrev pub LeavesTask : Content → ClaimReply → Task → Task → Type 0
LeavesTask c Finished before after = after ≡ before
LeavesTask c Halted before after = after ≡ before
LeavesTask c (GivenTask n u) before after = IsOwnTask c n u after
LeavesTask c NotYet before after = after ≡ before
