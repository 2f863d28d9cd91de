-- How large the powers, costs and earnings of schedules within the limits can be, so that no sum
-- leaves its type (this project's profile). Each law is the clause of a public function of its
-- name.
use Rattle.std.specs.Prelude.{◌≡◌, ℕ, suc, ◌≤◌, ℤ, pos, neg_ℤ, ◌≤ℤ◌, List, length}
use Rattle.std.specs.List.{All, AllZip}
use Rattle.uc_model.specs.declared.units.Lag.{Lag}
use Rattle.uc_model.specs.declared.units.Point.{Point}
use Rattle.uc_model.specs.declared.limits.TheConstants.{MOST_PERIODS}
use Rattle.uc_model.specs.Data.{AnyUnit, Thermal, Flat, Bid, PriceLists, Schedule, Market, units}
use Rattle.uc_model.specs.Earnings.{start_cost_of, cost_of, supply_in, earnings}
use Rattle.uc_model.specs.Envelope.{envelope}
use Rattle.uc_model.specs.Limits.{IsLag, IsPoint, IsCost, Spans, IsUnit, IsMarket, ArePrices}
use Rattle.uc_model.specs.Limits.{IsTotal, IsUnitCost, IsEarned, IsSum, IsWorth, IsStartCost}
use Rattle.uc_model.specs.Schedules.{reserve_in, IsFeasible}
use Rattle.plain_lists.specs.Sums.{total}
use Rattle.uc_model.specs.Systems.{total_power, total_reserve, IsFeasiblePlan, plan_cost}
use Rattle.uc_model.specs.Systems.{IsDualValue, worth_of_demand}

-- the most and the least that a unit gives to the system in a period, by its kind
abbrev pub most_given : AnyUnit → ℤ
most_given (Thermal g) = pos 10000000
most_given (Flat r) = pos 1000000000
most_given (Bid b) = pos 0

abbrev pub least_given : AnyUnit → ℤ
least_given (Thermal g) = pos 0
least_given (Flat r) = pos 0
least_given (Bid b) = neg_ℤ (pos 1000000000)

-- what a schedule gives at place k of the horizon is within that
pub record GivesWithin (u : AnyUnit) (s : Schedule) (k : ℕ) : Type 0 where
  pub least : least_given u ≤ℤ supply_in u s (suc k)
  pub most : supply_in u s (suc k) ≤ℤ most_given u
  pub reserve : reserve_in s (suc k) ≤ℤ pos 10000000

-- ---- one unit

abbrev pub StartCostsAreWithin : Type 0
StartCostsAreWithin =
    (lags : List Lag) (down : ℕ) → All IsLag lags → IsStartCost (start_cost_of lags down)

abbrev pub PowerCostsAreWithin : Type 0
PowerCostsAreWithin =
    (ps : List Point) (x : ℤ) → 1 ≤ length ps → All IsPoint ps → Spans ps x x →
    IsCost (envelope ps x)

abbrev pub OutputsAreWithin : Type 0
OutputsAreWithin =
    (u : AnyUnit) (s : Schedule) (n : ℕ) → IsUnit u → IsFeasible u n s →
    (k : ℕ) → GivesWithin u s k

abbrev pub UnitScheduleCostsAreWithin : Type 0
UnitScheduleCostsAreWithin =
    (u : AnyUnit) (s : Schedule) (n : ℕ) → n ≤ MOST_PERIODS → IsUnit u → IsFeasible u n s →
    IsUnitCost (cost_of u s)

abbrev pub EarningsAreWithin : Type 0
EarningsAreWithin =
    (u : AnyUnit) (π : PriceLists) (s : Schedule) → IsUnit u → ArePrices π →
    IsFeasible u (length π.energy) s → IsEarned (earnings u π s)

-- ---- all units of a case

-- each unit of a case is within the limits of its kind
abbrev pub UnitsAreWithin : Type 0
UnitsAreWithin = (m : Market) → IsMarket m → All IsUnit (units m)

-- the totals of schedules that are each within their unit's limits, feasible or not
abbrev pub PowerAndReserveTotalsAreWithin : Type 0
PowerAndReserveTotalsAreWithin =
    (m : Market) (plan : List Schedule) → IsMarket m →
    AllZip (λ u s. (k : ℕ) → GivesWithin u s k) (units m) plan →
    (k : ℕ) → IsTotal (total_power (units m) plan k) × IsTotal (total_reserve (units m) plan k)

-- at most as many earnings as a case has units, each within the limit of one
abbrev pub EarnedSumsAreWithin : Type 0
EarnedSumsAreWithin =
    (m : Market) (earned : List ℤ) → IsMarket m → length earned ≤ length (units m) →
    All IsEarned earned → IsSum (total earned)

abbrev pub PlanCostsAreWithin : Type 0
PlanCostsAreWithin =
    (m : Market) (plan : List Schedule) → IsMarket m → IsFeasiblePlan m plan →
    IsSum (plan_cost m plan)

-- what demand and required reserve are worth is far below what all units may earn
abbrev pub DemandWorthIsWithin : Type 0
DemandWorthIsWithin =
    (m : Market) (π : PriceLists) → IsMarket m → ArePrices π → length π.energy ≡ m.periods →
    IsSum (worth_of_demand m π)

abbrev pub DualValuesAreWithin : Type 0
DualValuesAreWithin =
    (m : Market) (π : PriceLists) (value : ℤ) → IsMarket m → ArePrices π →
    length π.energy ≡ m.periods → IsDualValue m π value → IsWorth value
