-- What all up to a period may cost where the whole is to cost no more than an amount: a bound in
-- the sense of branch and bound (Land and Doig 1960). What is above its limit can't become the
-- answer, whatever follows (this project's profile).
use Rattle.std.specs.Prelude.{◌≡◌, ℕ, suc, ◌<◌, ℤ, pos, ◌+ℤ◌, ◌≤ℤ◌, int_le, if◌then◌else◌, length}
use Rattle.std.specs.Prelude.{Option, Some, None}
use Rattle.uc_model.specs.Data.{ThermalUnit, PriceLists, Schedule}
use Rattle.uc_model.specs.Schedules.{power_in, reserve_in}
use Rattle.unit_rows.specs.NetCosts.{net_cost}

-- power and reserve of period suc k are within the unit's range
pub record IsInRange (g : ThermalUnit) (d : Schedule) (k : ℕ) : Type 0 where
  pub least : g.min_power ≤ℤ power_in d (suc k)
  pub most : (power_in d (suc k) +ℤ reserve_in d (suc k)) ≤ℤ g.max_power

-- the last limit is the amount; a limit doesn't rise, and what is above it stays above whatever a
-- period earns
pub record AreLimits (g : ThermalUnit) (π : PriceLists) (most : ℤ) (limits : ℕ → ℤ) : Type 0 where
  pub end : limits (length π.energy) ≡ most
  pub falls : (k : ℕ) → k < length π.energy → limits (suc k) ≤ℤ limits k
  pub step : (k : ℕ) (d : Schedule) → k < length π.energy → IsInRange g d k →
      limits (suc k) ≤ℤ (limits k +ℤ net_cost g π d (suc k))

-- a row within the limit, and the first number above the limit in place of any other
abbrev pub cap_of_row : ℤ → Option ℤ → Option ℤ
cap_of_row limit None = Some (limit +ℤ pos 1)
cap_of_row limit (Some v) = if int_le v limit then Some v else Some (limit +ℤ pos 1)

abbrev pub capped : (ℕ → ℤ) → (ℕ → Option ℤ) → ℕ → Option ℤ
capped limits ends l = cap_of_row (limits l) (ends l)
