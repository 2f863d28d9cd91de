-- What one period of a schedule costs, or is worth to a buyer (this project's profile).
use Rattle.std.specs.Prelude.{ℕ, suc, ℤ, pos, if◌then◌else◌, List, map}
use Rattle.uc_model.specs.Data.{AnyUnit, Thermal, Bid, NamedThermalUnit, NamedBidUnit, ThermalUnit}
use Rattle.uc_model.specs.Data.{BidUnit, Schedule, Market}
use Rattle.uc_model.specs.Earnings.{start_cost_of, worth_of}
use Rattle.uc_model.specs.Envelope.{envelope}
use Rattle.plain_lists.specs.Sums.{total, zip_with}
use Rattle.uc_model.specs.Schedules.{on_in, power_in, starts_in, time_down, blocks_at}

abbrev pub production_at : ThermalUnit → Schedule → ℕ → ℤ
production_at g s k = if on_in g s (suc k) then envelope g.points (power_in s (suc k)) else pos 0

abbrev pub start_cost_at : ThermalUnit → Schedule → ℕ → ℤ
start_cost_at g s k =
    if starts_in g s (suc k) then start_cost_of g.lags (time_down g s k) else pos 0

abbrev pub worth_at : BidUnit → Schedule → ℕ → ℤ
worth_at b s k = worth_of (blocks_at b k) (power_in s (suc k))

abbrev pub thermal_units : Market → List AnyUnit
thermal_units m = map (λ (n : NamedThermalUnit). Thermal n.unit) m.thermal

abbrev pub bid_units : Market → List AnyUnit
bid_units m = map (λ (n : NamedBidUnit). Bid n.unit) m.bids

-- the sum of a term over units with their schedules, as far as there are both
abbrev pub sum_over : (AnyUnit → Schedule → ℤ) → List AnyUnit → List Schedule → ℤ
sum_over f us ss = total (zip_with f us ss)
