-- A spell is a run of on periods, first to last. One that goes on from before the horizon has first
-- 0: period 0 is its first, and where it has no period of the horizon its last is 0 too. A time off
-- is the periods after a last one. The rules are those of pglib-uc (Knueven, Ostrowski and Watson)
-- and the commitment window of this project's profile.
use Rattle.std.specs.Prelude.{◌≡◌, ℕ, zero, suc, ◌+◌, ◌-◌, ◌<◌, ◌≤◌, ℤ, pos, ◌+ℤ◌, ◌-ℤ◌, ◌≤ℤ◌}
use Rattle.std.specs.Prelude.{if◌then◌else◌, IsTrue}
use Rattle.std.specs.Int.{int_min}
use Rattle.uc_model.specs.declared.units.Mark.TheVariants.{MustOff, MustOn}
use Rattle.uc_model.specs.Data.{ThermalUnit, PriceLists, Schedule}
use Rattle.uc_model.specs.Schedules.{on_in, starts_in, time_down, mark_in}
use Rattle.uc_model.specs.Earnings.{start_cost_of}
use Rattle.plain_lists.specs.Sums.{sum_below}
use Rattle.unit_rows.specs.NetCosts.{net_cost}

-- for how many periods the unit has been on at the end of a spell, those before the horizon counted
abbrev pub on_time : ThermalUnit → ℕ → ℕ → ℕ
on_time g zero last = g.up0 + last
on_time g (suc k) last = last - k

-- for how many periods it has been off at the end of period k, where last is its last on period
abbrev pub off_time : ThermalUnit → ℕ → ℕ → ℕ
off_time g zero k = if g.on0 then k else g.down0 + k
off_time g (suc l) k = k - suc l

-- the unit may be on from first to last, and off after it where that is before the end
pub record IsSpell (g : ThermalUnit) (periods first last : ℕ) : Type 0 where
  pub order : first ≤ last
  pub end : last ≤ periods
  pub goes_on : first ≡ 0 → IsTrue g.on0
  pub marks : (t : ℕ) → 1 ≤ t → first ≤ t → t ≤ last → mark_in g.window t ≡ MustOff → ⊥
  pub min_up : last < periods → g.min_up ≤ on_time g first last

-- the unit may be off in the periods after last to k
pub record IsOffRun (g : ThermalUnit) (last k : ℕ) : Type 0 where
  pub order : last ≤ k
  pub must_run : IsTrue g.must_run → k ≤ last
  pub marks : (t : ℕ) → last < t → t ≤ k → mark_in g.window t ≡ MustOn → ⊥

-- and a start may be in the period after k
pub record IsGap (g : ThermalUnit) (last k : ℕ) : Type 0 where
  pub off : IsOffRun g last k
  pub min_down : g.min_down ≤ off_time g last k

-- the cost of a start in the period after k
abbrev pub start_cost_after : ThermalUnit → ℕ → ℕ → ℤ
start_cost_after g last k = start_cost_of g.lags (off_time g last k)

-- what a period adds to the net cost of a schedule
abbrev pub period_cost : ThermalUnit → PriceLists → Schedule → ℕ → ℤ
period_cost g π s k =
    (if on_in g s (suc k) then net_cost g π s (suc k) else pos 0)
    +ℤ (if starts_in g s (suc k) then start_cost_of g.lags (time_down g s k) else pos 0)

-- net costs and start costs of periods 1 to t
abbrev pub paid : ThermalUnit → PriceLists → Schedule → ℕ → ℤ
paid g π s t = sum_below t (period_cost g π s)

-- a unit that is on before the horizon may stop in period 1, as far as its output goes
pub record StopsAtOnce (g : ThermalUnit) : Type 0 where
  pub cap : g.power0 ≤ℤ int_min g.stop_limit g.max_power
  pub down : (g.power0 -ℤ g.min_power) ≤ℤ g.ramp_down
  pub up : (pos 0 -ℤ (g.power0 -ℤ g.min_power)) ≤ℤ g.ramp_up
