-- What a thermal unit's schedule earns in each period (Gribik, Hogan and Pope 2007).
use Rattle.std.specs.Prelude.{ℕ, suc, ℤ, pos, ◌+ℤ◌, ◌-ℤ◌, ◌*ℤ◌, if◌then◌else◌}
use Rattle.uc_model.specs.Data.{ThermalUnit, PriceLists, Schedule}
use Rattle.uc_model.specs.Earnings.{start_cost_of}
use Rattle.uc_model.specs.Envelope.{envelope}
use Rattle.uc_model.specs.Schedules.{on_in, power_in, reserve_in, starts_in, time_down}
use Rattle.plain_lists.specs.Sums.{int_at}

-- what the prices pay in the period at place k
abbrev pub revenue_in : PriceLists → Schedule → ℕ → ℤ
revenue_in π s k =
    (int_at π.energy k *ℤ power_in s (suc k)) +ℤ (int_at π.reserve k *ℤ reserve_in s (suc k))

-- what its power costs
abbrev pub production_in : ThermalUnit → Schedule → ℕ → ℤ
production_in g s k = if on_in g s (suc k) then envelope g.points (power_in s (suc k)) else pos 0

-- what a start costs in it
abbrev pub start_in : ThermalUnit → Schedule → ℕ → ℤ
start_in g s k = if starts_in g s (suc k) then start_cost_of g.lags (time_down g s k) else pos 0

-- what is earned in it
abbrev pub net_in : ThermalUnit → PriceLists → Schedule → ℕ → ℤ
net_in g π s k = revenue_in π s k -ℤ (production_in g s k +ℤ start_in g s k)
