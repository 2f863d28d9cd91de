-- The board of a unit commitment case: a board of rounds whose rows are proposals (this project's
-- profile).
use Rattle.std.specs.Prelude.{◌≡◌, ℕ, ℤ, pos, ◌-ℤ◌, Some, List, [], map, slice_get}
use Rattle.std.specs.List.{range_with_len}
use Rattle.board_store.specs.Rounds.{Rules, Event, IsLegal}
use Rattle.uc_model.specs.Data.{AnyUnit, PriceLists, Schedule, Market, units, unit_count}
use Rattle.uc_model.specs.Earnings.{earnings}
use Rattle.uc_model.specs.PriceRule.{Proposal, price_rule, is_settled}
use Rattle.uc_model.specs.Runs.{Fits}
use Rattle.plain_lists.specs.Sums.{total}
use Rattle.uc_model.specs.Systems.{total_power, total_reserve, worth_of_demand}

-- what a board is made for: a case, a feasible plan and its cost, how many proposals there may be,
-- how many of them are open ahead of the closed ones, and how many callers there are
pub record Setup : Type 0 where
  pub market : Market
  pub plan : List Schedule
  pub cost : ℤ
  pub budget : ℕ
  pub ahead : ℕ
  pub callers : ℕ

-- an answer: what the unit does, and what that earns
pub record Answer : Type 0 where
  pub schedule : Schedule
  pub earned : ℤ

abbrev pub no_answer : Answer
no_answer = record { schedule = record { on = []; power = []; reserve = [] }; earned = pos 0 }

abbrev pub schedules_in : List Answer → List Schedule
schedules_in answers = map (λ (a : Answer). a.schedule) answers

abbrev pub earned_in : List Answer → List ℤ
earned_in answers = map (λ (a : Answer). a.earned) answers

-- the row that the answers of all units make at prices: its value is the dual value with what the
-- answers earn in place of what the best schedules earn (Gribik, Hogan and Pope 2007)
abbrev pub row_of : Market → PriceLists → List Answer → Proposal
row_of m π answers = record {
  prices = π;
  value = worth_of_demand m π -ℤ total (earned_in answers);
  supply = map (total_power (units m) (schedules_in answers)) (range_with_len 0 m.periods);
  reserve = map (total_reserve (units m) (schedules_in answers)) (range_with_len 0 m.periods);
}

abbrev pub rules_of : Setup → Rules PriceLists Proposal Answer
rules_of b = record {
  units = unit_count b.market;
  budget = b.budget;
  ahead = b.ahead;
  callers = b.callers;
  price = price_rule b.market b.cost b.ahead;
  row = row_of b.market;
  settled = is_settled b.market b.cost;
  missing = no_answer;
}

-- the answer fits the unit of that number at the prices, with what it earns
pub record IsRight (fits : AnyUnit → PriceLists → Schedule →
    Type 0) (m : Market) (u : ℕ) (π : PriceLists) (a : Answer) : Type 0 where
  pub unit : AnyUnit
  pub is : slice_get (units m) u ≡ Some unit
  pub fit : fits unit π a.schedule
  pub earned : earnings unit π a.schedule ≡ a.earned

-- each event is what the machine makes of a call at the events before it, and each answer that was
-- taken is right
abbrev pub IsLegalFor : (AnyUnit → PriceLists → Schedule → Type 0) → Setup → List (Event Answer) →
    Type 0
IsLegalFor fits b h = IsLegal (rules_of b) (IsRight fits b.market) h

abbrev pub IsLegalHistory : Setup → List (Event Answer) → Type 0
IsLegalHistory b h = IsLegalFor Fits b h

-- what a contract sees of a board: what it was made for, and its events
pub record Content : Type 0 where
  pub setup : Setup
  pub events : List (Event Answer)
