-- What a period that a unit is on in costs, less what the prices pay for its power and reserve.
use Rattle.std.specs.Prelude.{ℕ, zero, suc, ℤ, pos, ◌+ℤ◌, ◌-ℤ◌, ◌*ℤ◌}
use Rattle.uc_model.specs.Data.{ThermalUnit, PriceLists, Schedule}
use Rattle.uc_model.specs.Envelope.{envelope}
use Rattle.uc_model.specs.Schedules.{power_in, reserve_in}
use Rattle.plain_lists.specs.Sums.{int_at}

-- the production cost of a power less what the prices pay for it and a reserve, in the period at
-- that place
abbrev pub net_cost_at : ThermalUnit → PriceLists → ℕ → ℤ → ℤ → ℤ
net_cost_at g π index power reserve =
    envelope g.points power -ℤ ((int_at π.energy index *ℤ power)
    +ℤ (int_at π.reserve index *ℤ reserve))

-- the same of a period of a dispatch
abbrev pub net_cost : ThermalUnit → PriceLists → Schedule → ℕ → ℤ
net_cost g π d zero = pos 0
net_cost g π d (suc k) = net_cost_at g π k (power_in d (suc k)) (reserve_in d (suc k))
