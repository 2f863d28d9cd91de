-- A bound on the dual value of all prices near a proposal's. The dual (Gribik, Hogan and Pope
-- 2007) is concave in the prices, and what the totals of a row lack is a subgradient of it there:
-- by the subgradient inequality of convex analysis the row's value and subgradient give a plane
-- that is nowhere below the dual. So does the mean of such planes by any weights, which is the
-- aggregated cut of the cutting-plane method, and over a box of prices its greatest height stands
-- at a corner. The box and the unit of the weights are this project's profile.
--
-- Price places count from 0: the energy prices of all periods, and then their reserve prices.
use Rattle.std.specs.Prelude.{◌≡◌, ℕ, ◌-◌, ◌*◌, ℤ, pos, neg_ℤ, ◌+ℤ◌, ◌-ℤ◌, ◌*ℤ◌, ◌≤ℤ◌, ◌<ℤ◌, List}
use Rattle.std.specs.Prelude.{length, if◌then◌else◌, nat_lt, unsigned_abs}
use Rattle.std.specs.Int.{int_min, int_max}
use Rattle.std.specs.List.{All}
use Rattle.uc_model.specs.Data.{PriceLists, Market}
use Rattle.uc_model.specs.Limits.{price_limit}
use Rattle.uc_model.specs.PriceRule.{Proposal}
use Rattle.plain_lists.specs.Sums.{int_at, total, sum_below, floor_div, zip_with}

-- the price at an index, and the lowest that it may be; the highest is one for all
abbrev pub price_at : Market → PriceLists → ℕ → ℤ
price_at m π j =
    if nat_lt j m.periods then int_at π.energy j else int_at π.reserve (j - m.periods)

abbrev pub lowest_price : Market → ℕ → ℤ
lowest_price m j = if nat_lt j m.periods then neg_ℤ price_limit else pos 0

-- what the totals of a row lack: the entry of the subgradient, also where the price is at a limit
abbrev pub slope_at : Market → Proposal → ℕ → ℤ
slope_at m r j =
    if nat_lt j m.periods then int_at m.demand j -ℤ int_at r.supply j
    else int_at m.reserves (j - m.periods) -ℤ int_at r.reserve (j - m.periods)

-- where the row's plane stands at prices of 0
abbrev pub height_of : Market → Proposal → ℤ
height_of m r =
    r.value -ℤ sum_below (2 * m.periods) (λ j. slope_at m r j *ℤ price_at m r.prices j)

-- the sum of a number over the rows, each taken as often as its weight says
abbrev pub weighted : (Proposal → ℤ) → List ℤ → List Proposal → ℤ
weighted f weights rows = total (zip_with (λ (w : ℤ) (r : Proposal). w *ℤ f r) weights rows)

-- one weight per row, none below 0, with a sum above 0
pub record AreWeights (rows : List Proposal) (weights : List ℤ) : Type 0 where
  pub count : length weights ≡ length rows
  pub from_zero : All (λ (w : ℤ). pos 0 ≤ℤ w) weights
  pub some : pos 0 <ℤ total weights

-- the ends of a price's interval: within the radius of the centre's price, and within the limits
abbrev pub low_end : Market → PriceLists → ℤ → ℕ → ℤ
low_end m centre radius j = int_max (lowest_price m j) (price_at m centre j -ℤ radius)

abbrev pub high_end : Market → PriceLists → ℤ → ℕ → ℤ
high_end m centre radius j = int_min price_limit (price_at m centre j +ℤ radius)

-- the most that slopes add anywhere in the box
abbrev pub most_over : Market → PriceLists → ℤ → (ℕ → ℤ) → ℤ
most_over m centre radius slopes =
    sum_below (2 * m.periods) (λ j. int_max
    (slopes j *ℤ low_end m centre radius j) (slopes j *ℤ high_end m centre radius j))

-- the greatest height over the box of the mean of the rows' planes, rounded down
unfoldable pub certified_bound : Market → List Proposal → List ℤ → PriceLists → ℤ → ℤ
certified_bound m rows weights centre radius =
    floor_div (weighted (height_of m) weights rows
    +ℤ most_over m centre radius (λ j. weighted (λ (r : Proposal). slope_at m r j) weights rows))
    (unsigned_abs (total weights))
