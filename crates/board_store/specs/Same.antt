-- Parts of a thermal unit that are compared together, and lists of numbers as far as they are the
-- same.
use Rattle.std.specs.Prelude.{◌≡◌, ℕ, ◌<◌, ◌≤◌, ℤ, List, length}
use Rattle.uc_model.specs.Data.{ThermalUnit}
use Rattle.plain_lists.specs.Sums.{int_at}

abbrev pub HaveSamePowers : ThermalUnit → ThermalUnit → Type 0
HaveSamePowers a b =
    (a.min_power ≡ b.min_power) × (a.max_power ≡ b.max_power) × (a.ramp_up ≡ b.ramp_up)
    × (a.ramp_down ≡ b.ramp_down)
    × (a.start_limit ≡ b.start_limit) × (a.stop_limit ≡ b.stop_limit) × (a.power0 ≡ b.power0)

abbrev pub HaveSameTimes : ThermalUnit → ThermalUnit → Type 0
HaveSameTimes a b =
    (a.must_run ≡ b.must_run) × (a.min_up ≡ b.min_up) × (a.min_down ≡ b.min_down) × (a.on0 ≡ b.on0)
    × (a.up0 ≡ b.up0) × (a.down0 ≡ b.down0)

-- the first k numbers of two lists, which both have as many, are the same
pub record AreSame (own given : List ℤ) (k : ℕ) : Type 0 where
  pub own_long : k ≤ length own
  pub given_long : k ≤ length given
  pub same : (i : ℕ) → i < k → int_at own i ≡ int_at given i
