-- Sums over schedules in one period (pglib-uc).
use Rattle.std.specs.Prelude.{ℕ, suc, ℤ, List, map}
use Rattle.uc_model.specs.Data.{Schedule}
use Rattle.uc_model.specs.Schedules.{power_in, reserve_in}
use Rattle.plain_lists.specs.Sums.{total}

-- the sum of the powers, and of the reserves, at an index
abbrev pub powers_at : List Schedule → ℕ → ℤ
powers_at ss k = total (map (λ (s : Schedule). power_in s (suc k)) ss)

abbrev pub reserves_at : List Schedule → ℕ → ℤ
reserves_at ss k = total (map (λ (s : Schedule). reserve_in s (suc k)) ss)
