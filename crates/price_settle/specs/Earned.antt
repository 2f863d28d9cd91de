-- What a plan earns, and the reserve that it has above the requirement (Gribik, Hogan and Pope
-- 2007).
use Rattle.std.specs.Prelude.{ℕ, ℤ, pos, ◌-ℤ◌, ◌*ℤ◌, List, length, slice_index}
use Rattle.uc_model.specs.Data.{AnyUnit, PriceLists, Schedule, Market, units}
use Rattle.uc_model.specs.Earnings.{earnings}
use Rattle.plain_lists.specs.Sums.{int_at, sum_below, zip_with}
use Rattle.uc_model.specs.Systems.{total_reserve}

-- what prices pay for the amounts of all periods
abbrev pub paid_for : List ℤ → List ℕ → ℤ
paid_for prices amounts =
    sum_below (length amounts) (λ k. int_at prices k *ℤ pos (slice_index amounts k))

-- what each unit earns in the plan
abbrev pub earned_in : Market → List Schedule → PriceLists → List ℤ
earned_in m plan π = zip_with (λ (u : AnyUnit) (s : Schedule). earnings u π s) (units m) plan

-- the reserve of all units above the requirement at an index
abbrev pub surplus_at : Market → List Schedule → ℕ → ℤ
surplus_at m plan k = total_reserve (units m) plan k -ℤ int_at m.reserves k
