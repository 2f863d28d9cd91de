-- The tables of the fields of a case file that are lists: each test in order, with its fault
-- (pglib-uc; windows, blocks and limits are this project's profile).
use Rattle.std.specs.Prelude.{ℕ, ◌-◌, Bool, true, not, ◌||◌, ◌==◌, int_lt, nat_lt}
use Rattle.std.specs.Prelude.{List, length, map, if◌then◌else◌, ℤ}
use Rattle.std.specs.Prelude.{codes, Option, Some, None, replicate, Ok, slice_get}
use Rattle.std.specs.Option.{option_map, option_map_or}
use Rattle.uc_model.specs.declared.units.Lag.{Lag}
use Rattle.uc_model.specs.declared.units.Point.{Point}
use Rattle.uc_model.specs.declared.units.Block.{Block}
use Rattle.uc_model.specs.declared.units.Mark.{Mark}
use Rattle.uc_model.specs.declared.units.Mark.TheVariants.{Free, MustOff, MustOn}
use Rattle.uc_model.specs.declared.limits.TheConstants.{MOST_LAGS, MOST_POINTS}
use Rattle.uc_model.specs.declared.limits.TheConstants.{MOST_BLOCKS, POWER_LIMIT}
use Rattle.plain_lists.specs.Sums.{total}
use Rattle.uc_text.specs.Values.{Value, scalar, null, number}
use Rattle.uc_text.specs.Pairs.{Pair}
use Rattle.uc_text.specs.Inside.{list_in, bit_of}
use Rattle.uc_text.specs.Magnitudes.{most_power, most_price}
use Rattle.uc_field.specs.Sites.{fault}
use Rattle.uc_text.specs.Words.{◌>>=◌, ◌>>◌, refuse, need, last_is}
use Rattle.uc_field.specs.Forms.{Read, part, at_item, items, few, full}
use Rattle.uc_field.specs.Forms.{object, amount, power, cost, start_cost, time}
use Rattle.uc_field.specs.declared.fault.CaseCode.TheVariants.{TooLarge, CurveOrder}
use Rattle.uc_field.specs.declared.fault.CaseCode.TheVariants.{CurveEnds, LagOrder}
use Rattle.uc_field.specs.declared.fault.CaseCode.TheVariants.{WindowShape, BlockOrder}
use Rattle.uc_field.specs.declared.fault.Site.{Site}

-- ---- startup

unfoldable pub lag_in : Site → List Lag → List Pair → Read Lag
lag_in at before o = do
  lag ← part at (codes "lag") time o
  cost ← part at (codes "cost") start_cost o
  refuse (fault at LagOrder) (last_is (λ (b : Lag). nat_lt lag b.lag) before)
  Ok (record { lag = lag; cost = cost })

unfoldable pub lag : Site → List Lag → Value → Read Lag
lag at before v = do
  o ← object at v
  lag_in at before o

unfoldable pub startup : Site → Value → Read (List Lag)
startup at v = few (at_item lag) MOST_LAGS at v

-- ---- piecewise_production

unfoldable pub point_in : Site → List Point → List Pair → Read Point
point_in at before o = do
  mw ← part at (codes "mw") (power most_power) o
  cost ← part at (codes "cost") cost o
  refuse (fault at CurveOrder) (last_is (λ (b : Point). int_lt mw b.at) before)
  Ok (record { at = mw; cost = cost })

unfoldable pub point : Site → List Point → Value → Read Point
point at before v = do
  o ← object at v
  point_in at before o

-- there is no first point at most at low, or no last point at least at high
abbrev pub ends_miss : ℤ → ℤ → List Point → Bool
ends_miss low high ps =
    option_map_or (λ (p : Point). int_lt low p.at) (slice_get ps 0) true
    || option_map_or (λ (p : Point). int_lt p.at high) (slice_get ps (length ps - 1)) true

unfoldable pub piecewise : ℤ → ℤ → Site → Value → Read (List Point)
piecewise low high at v = do
  ps ← few (at_item point) MOST_POINTS at v
  refuse (fault at CurveEnds) (ends_miss low high ps)
  Ok ps

-- ---- kilowatts of each period

-- a power of a list, whatever stands before it
abbrev pub one_power : Site → List ℤ → Value → Read ℤ
one_power at before = power most_power at

unfoldable pub powers : ℕ → Site → Value → Read (List ℤ)
powers periods at v = do
  vs ← full periods at v
  items one_power at vs

-- ---- commitment

abbrev pub mark_in : Value → Option Mark
mark_in (scalar null) = Some Free
mark_in (scalar (number d)) = option_map (λ on. if on then MustOn else MustOff) (bit_of d)
mark_in _ = None

abbrev pub mark : Site → List Mark → Value → Read Mark
mark at before v = need (fault at WindowShape) (mark_in v)

unfoldable pub window_items : ℕ → Site → Value → Read (List Value)
window_items periods at v = do
  vs ← need (fault at WindowShape) (list_in v)
  refuse (fault at WindowShape) (not (length vs == periods))
  Ok vs

unfoldable pub window : ℕ → Site → Value → Read (List Mark)
window periods at v = do
  vs ← window_items periods at v
  items mark at vs

-- an absent one leaves every period free
unfoldable pub commitment : ℕ → Site → Option Value → Read (List Mark)
commitment periods at None = Ok (replicate periods Free)
commitment periods at (Some v) = window periods at v

-- ---- blocks

-- in money for a kilowatt and period
abbrev pub price : Site → Value → Read ℤ
price = amount 3 most_price

unfoldable pub block_in : Site → List Block → List Pair → Read Block
block_in at before o = do
  mw ← part at (codes "mw") (power most_power) o
  price ← part at (codes "price") price o
  refuse (fault at BlockOrder) (last_is (λ (b : Block). int_lt b.price price) before)
  Ok (record { width = mw; price = price })

unfoldable pub block : Site → List Block → Value → Read Block
block at before v = do
  o ← object at v
  block_in at before o

-- the blocks of one period: all their faults are at the period's site
unfoldable pub period_blocks : Site → List (List Block) → Value → Read (List Block)
period_blocks at before v = do
  bs ← few block MOST_BLOCKS at v
  refuse (fault at TooLarge) (int_lt POWER_LIMIT (total (map (λ (b : Block). b.width) bs)))
  Ok bs

unfoldable pub blocks : ℕ → Site → Value → Read (List (List Block))
blocks periods at v = do
  vs ← full periods at v
  items period_blocks at vs
