-- Sizes that the totals and values of a legal history keep, so that no sum of them leaves 128 bits
-- (this project's profile).
use Rattle.std.specs.Prelude.{◌≡◌, ℕ, ◌<◌, ◌≤◌, ◌≤ℤ◌, List, length, slice_index_or}
use Rattle.std.specs.List.{All}
use Rattle.board_store.specs.Board.{Setup, Answer, rules_of, schedules_in, earned_in}
use Rattle.board_store.specs.Board.{IsLegalHistory}
use Rattle.board_store.specs.Rounds.{Event, posts, answers, rows_of}
use Rattle.uc_model.specs.Data.{Market, units}
use Rattle.uc_model.specs.Limits.{IsMarket, ArePrices}
pub use Rattle.uc_model.specs.Limits.{IsTotal, IsSum, IsWorth}
use Rattle.uc_model.specs.PriceRule.{Proposal}
use Rattle.plain_lists.specs.Sums.{total}
use Rattle.uc_model.specs.Systems.{IsFeasiblePlan, plan_cost, total_power, total_reserve}

-- the totals of a proposal's answers, as many as there are
pub record AreWithin (b : Setup) (h : List (Event Answer)) (n : ℕ) : Type 0 where
  pub supply : (k : ℕ) →
      IsTotal (total_power (units b.market) (schedules_in (answers (rules_of b) (posts h) n)) k)
  pub reserve : (k : ℕ) →
      IsTotal (total_reserve (units b.market) (schedules_in (answers (rules_of b) (posts h) n)) k)
  pub earned : IsSum (total (earned_in (answers (rules_of b) (posts h) n)))

abbrev pub TotalsAreWithin : Type 0
TotalsAreWithin =
    (b : Setup) (h : List (Event Answer)) → IsMarket b.market → IsLegalHistory b h → (n : ℕ) →
    AreWithin b h n

-- a row over the horizon
pub record IsRowWithin (m : Market) (r : Proposal) : Type 0 where
  pub prices : ArePrices r.prices
  pub horizon : length r.prices.energy ≡ m.periods
  pub supply_length : length r.supply ≡ m.periods
  pub reserve_length : length r.reserve ≡ m.periods
  pub supply : All IsTotal r.supply
  pub reserve : All IsTotal r.reserve
  pub value : IsWorth r.value

abbrev pub RowsOfHistoryAreWithinLimits : Type 0
RowsOfHistoryAreWithinLimits =
    (b : Setup) (h : List (Event Answer)) → IsMarket b.market → 1 ≤ b.ahead → IsLegalHistory b h →
    (k : ℕ) (d : Proposal) → k < length (rows_of (rules_of b) (posts h)) →
    IsRowWithin b.market (slice_index_or (rows_of (rules_of b) (posts h)) k d)

-- no row's value is above the cost of the plan (Gribik, Hogan and Pope 2007)
abbrev pub RowsAreAtMostCost : Type 0
RowsAreAtMostCost =
    (b : Setup) (h : List (Event Answer)) → IsMarket b.market → 1 ≤ b.ahead → IsLegalHistory b h →
    IsFeasiblePlan b.market b.plan → b.cost ≡ plan_cost b.market b.plan →
    (k : ℕ) (d : Proposal) → k < length (rows_of (rules_of b) (posts h)) →
    (slice_index_or (rows_of (rules_of b) (posts h)) k d).value ≤ℤ b.cost
