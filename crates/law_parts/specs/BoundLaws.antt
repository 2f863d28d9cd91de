-- What a bound by rows says of all prices in its box. Each law is the clause of a public
-- function of its name.
use Rattle.std.specs.Prelude.{◌≡◌, ℕ, ◌-◌, ◌*◌, ◌<◌, ◌≤◌, ℤ, pos, neg_ℤ, ◌≤ℤ◌, Some, List}
use Rattle.std.specs.Prelude.{length, slice_get}
use Rattle.std.specs.List.{All, AllZip}
use Rattle.uc_model.specs.Data.{PriceLists, Schedule, Market, units}
use Rattle.plain_lists.specs.Ranges.{IsFrom}
use Rattle.uc_model.specs.Limits.{ArePrices, IsMarket, price_limit}
use Rattle.uc_model.specs.PriceRule.{Proposal}
use Rattle.uc_model.specs.Runs.{HasTotals, Fits, IsRun}
use Rattle.uc_model.specs.Systems.{IsDualValue}
use Rattle.gap_proof.specs.CertifiedBound.{AreWeights, price_at, low_end, high_end, certified_bound}
use Rattle.gap_proof.specs.Candidates.{RowRange, IsFirstLeast, prices_of_row}
use Rattle.gap_proof.specs.PlaneSums.{IsRowWithin}

-- a row of a run, but for where its prices come from: its value is the dual value of its prices,
-- and its totals are those of one answer per unit
pub record IsAnswered (m : Market) (r : Proposal) : Type 0 where
  pub horizon : length r.prices.energy ≡ m.periods
  pub value : IsDualValue m r.prices r.value
  pub schedules : List Schedule
  pub answers : AllZip (λ u s. Fits u r.prices s) (units m) schedules
  pub totals : HasTotals m schedules r

-- prices over the horizon, each within its limits: none below 0 for reserve
pub record ArePriced (m : Market) (π : PriceLists) : Type 0 where
  pub horizon : length π.energy ≡ m.periods
  pub reserve_horizon : length π.reserve ≡ m.periods
  pub energy : All (IsFrom (neg_ℤ price_limit) price_limit) π.energy
  pub reserve : All (IsFrom (pos 0) price_limit) π.reserve

-- prices over the horizon, each within the limits and the radius of the centre's price
pub record IsInBox (m : Market) (centre : PriceLists) (radius : ℤ) (π : PriceLists) : Type 0 where
  pub horizon : length π.energy ≡ m.periods
  pub inside : (j : ℕ) → j < 2 * m.periods →
      IsFrom (low_end m centre radius j) (high_end m centre radius j) (price_at m π j)

-- no prices in the box have a dual value above the bound, whatever the weights
abbrev pub BoundHolds : Type 0
BoundHolds =
    (m : Market) (rows : List Proposal) (weights : List ℤ) (centre : PriceLists) (radius : ℤ)
    (π : PriceLists) (value : ℤ) →
    All (IsAnswered m) rows → AreWeights rows weights →
    IsInBox m centre radius π → IsDualValue m π value →
    value ≤ℤ certified_bound m rows weights centre radius

-- so the bound round a row is at least that row's value
abbrev pub BoundReachesCentre : Type 0
BoundReachesCentre =
    (m : Market) (rows : List Proposal) (weights : List ℤ) (centre : Proposal) (radius : ℤ) →
    All (IsAnswered m) rows → AreWeights rows weights →
    IsAnswered m centre → ArePrices centre.prices → pos 0 ≤ℤ radius →
    centre.value ≤ℤ certified_bound m rows weights centre.prices radius

-- the bound of the best range holds round its centre
abbrev pub BestBoundHolds : Type 0
BestBoundHolds =
    (m : Market) (rows : List Proposal) (centre : ℕ) (radius : ℤ) (range : RowRange) (bound : ℤ)
    (π : PriceLists) (value : ℤ) →
    All (IsAnswered m) rows → 1 ≤ centre → centre ≤ length rows →
    IsFirstLeast m rows centre radius range bound →
    IsInBox m (prices_of_row rows centre) radius π → IsDualValue m π value → value ≤ℤ bound

-- and it is at least the centre's value
abbrev pub BestBoundReachesCentre : Type 0
BestBoundReachesCentre =
    (m : Market) (rows : List Proposal) (centre : ℕ) (row : Proposal) (radius : ℤ)
    (range : RowRange) (bound : ℤ) →
    All (IsAnswered m) rows → 1 ≤ centre → slice_get rows (centre - 1) ≡ Some row →
    ArePrices row.prices → pos 0 ≤ℤ radius →
    IsFirstLeast m rows centre radius range bound → row.value ≤ℤ bound

-- What the best bound round a row says: it is at least that row's value, and no prices within the
-- radius of the row's, and within the limits, have a dual value above it.
pub record IsBoundRound (m : Market) (centre : Proposal) (radius bound : ℤ) : Type 0 where
  pub reached : centre.value ≤ℤ bound
  pub holds : (π : PriceLists) (value : ℤ) →
      IsInBox m centre.prices radius π → IsDualValue m π value → value ≤ℤ bound

-- the best bound round a row of a run says so
abbrev pub RunBoundsHold : Type 0
RunBoundsHold =
    (m : Market) (cost : ℤ) (budget ahead : ℕ) (rows : List Proposal) (centre : ℕ) (row : Proposal)
    (radius : ℤ) (range : RowRange) (bound : ℤ) →
    1 ≤ ahead → pos 0 ≤ℤ radius → IsRun Fits m cost budget ahead rows →
    1 ≤ centre → slice_get rows (centre - 1) ≡ Some row →
    IsFirstLeast m rows centre radius range bound → IsBoundRound m row radius bound

-- the prices of each row of a run are such prices
abbrev pub RunPricesAreWithin : Type 0
RunPricesAreWithin =
    (m : Market) (cost : ℤ) (budget ahead : ℕ) (rows : List Proposal) (k : ℕ) (row : Proposal) →
    1 ≤ ahead → IsRun Fits m cost budget ahead rows → slice_get rows k ≡ Some row →
    ArePriced m row.prices

-- answered rows are of the sizes that the calls ask for
abbrev pub AnsweredRowsAreWithin : Type 0
AnsweredRowsAreWithin =
    (m : Market) (r : Proposal) → IsMarket m → ArePrices r.prices → IsAnswered m r →
    IsRowWithin m r
