-- Which price a period starts at, from the units' full-load prices and powers (this project's
-- profile).
use Rattle.std.specs.Prelude.{◌≡◌, ℕ, ◌≤◌, ◌<◌, ◌⊎◌, ℤ, pos, ◌≤ℤ◌, ◌<ℤ◌, int_le, if◌then◌else◌}
use Rattle.std.specs.Prelude.{unsigned_abs, List, [], map, length, slice_index_or}
use Rattle.std.specs.List.{Contains, sum_by}
use Rattle.std.specs.List.Sorted.{IsPermutation}
use Rattle.price_space.specs.declared.start.Priced.{Priced}
use Rattle.uc_model.specs.Data.{ThermalUnit, NamedThermalUnit, NamedRenewableUnit, Market}
use Rattle.uc_model.specs.PriceRule.{full_load_price}
use Rattle.plain_lists.specs.Sums.{int_at, total}

abbrev pub priced_of : ThermalUnit → Priced
priced_of g = record { price = full_load_price g; power = g.max_power }

abbrev pub priced_units_of : Market → List Priced
priced_units_of m = map (λ (n : NamedThermalUnit). priced_of n.unit) m.thermal

-- what the renewable units give at most in a period
abbrev pub renewable_power_of : Market → ℕ → ℤ
renewable_power_of m k = total (map (λ (n : NamedRenewableUnit). int_at n.unit.most k) m.flat)

-- a unit's power where its price is at most that, and 0 otherwise
abbrev pub power_at : ℤ → Priced → ℕ
power_at p u = if int_le u.price p then unsigned_abs u.power else 0

abbrev pub IsRising : List Priced → Type 0
IsRising xs =
    (i j : ℕ) (d : Priced) → i ≤ j → j < length xs →
    (slice_index_or xs i d).price ≤ℤ (slice_index_or xs j d).price

-- the market's units with no price above the one after it
pub record AreRisingUnits (m : Market) (xs : List Priced) : Type 0 where
  pub permutation : IsPermutation (priced_units_of m) xs
  pub rising : IsRising xs

-- s is the least price up to which the units give what is short
pub record IsLeastReaching (xs : List Priced) (short s : ℤ) : Type 0 where
  pub member : Contains (map (λ (u : Priced). u.price) xs) s
  pub reaches : short ≤ℤ pos (sum_by (power_at s) xs)
  pub least : (k : ℕ) (d : Priced) → k < length xs →
      short ≤ℤ pos (sum_by (power_at (slice_index_or xs k d).price) xs) →
      s ≤ℤ (slice_index_or xs k d).price

-- they never do, and s is the greatest price
pub record IsGreatestShort (xs : List Priced) (short s : ℤ) : Type 0 where
  pub member : Contains (map (λ (u : Priced). u.price) xs) s
  pub none : (k : ℕ) (d : Priced) → k < length xs →
      pos (sum_by (power_at (slice_index_or xs k d).price) xs) <ℤ short
  pub greatest : (k : ℕ) (d : Priced) → k < length xs → (slice_index_or xs k d).price ≤ℤ s

-- there is no unit, and s is 0
pub record IsWithoutUnits (xs : List Priced) (s : ℤ) : Type 0 where
  pub none : xs ≡ []
  pub nothing : s ≡ pos 0

abbrev pub IsStartPrice : List Priced → ℤ → ℤ → Type 0
IsStartPrice xs short s =
    IsLeastReaching xs short s ⊎ (IsGreatestShort xs short s ⊎ IsWithoutUnits xs s)
