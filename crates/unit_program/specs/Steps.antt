-- The commitment rules of pglib-uc, and of the window (this project's profile), by single steps
-- from a period to the next, with the time that the unit has been on or off.
use Rattle.std.specs.Prelude.{◌≡◌, ℕ, zero, suc, ◌≤◌, Bool, if◌then◌else◌, IsTrue, IsFalse}
use Rattle.uc_model.specs.declared.units.Mark.TheVariants.{MustOff, MustOn}
use Rattle.uc_model.specs.Data.{ThermalUnit, Schedule}
use Rattle.uc_model.specs.Schedules.{on_in, time_down, mark_in}

-- for how many periods x has held at the end of period t; n is that number for period 0
abbrev pub held : (ℕ → Bool) → ℕ → ℕ → ℕ
held x n zero = if x 0 then n else 0
held x n (suc k) = if x (suc k) then suc (held x n k) else 0

-- for how many periods the unit has been on at the end of period t, those before the horizon
-- counted
abbrev pub time_up : ThermalUnit → Schedule → ℕ → ℕ
time_up g s t = held (on_in g s) g.up0 t

-- what the commitment rules ask of the step from period k to the next
pub record IsStep (g : ThermalUnit) (s : Schedule) (k : ℕ) : Type 0 where
  pub must_run : IsTrue g.must_run → IsTrue (on_in g s (suc k))
  pub stop : IsTrue (on_in g s k) → IsFalse (on_in g s (suc k)) → g.min_up ≤ time_up g s k
  pub start : IsFalse (on_in g s k) → IsTrue (on_in g s (suc k)) → g.min_down ≤ time_down g s k
  pub must_on : mark_in g.window (suc k) ≡ MustOn → IsTrue (on_in g s (suc k))
  pub must_off : mark_in g.window (suc k) ≡ MustOff → IsFalse (on_in g s (suc k))
