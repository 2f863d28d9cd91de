-- A schedule that keeps the rules of pglib-uc up to a last on period: what backtracking has at hand
-- after each spell that it writes.
use Rattle.std.specs.Prelude.{◌≡◌, ℕ, suc, ◌<◌, ◌≤◌, ℤ, pos, ◌+ℤ◌, ◌-ℤ◌, ◌≤ℤ◌, IsTrue, IsFalse}
use Rattle.std.specs.Prelude.{true, false}
use Rattle.std.specs.Int.{int_min}
use Rattle.uc_model.specs.Data.{ThermalUnit, PriceLists, Schedule}
use Rattle.uc_model.specs.Schedules.{on_in, above_min, above_with_reserve, reserve_in, power_in}
use Rattle.uc_model.specs.Schedules.{starts_in, stops_in, cap_of}
use Rattle.unit_program.specs.Steps.{IsStep, time_up}
use Rattle.spell_run.specs.Spells.{over_min}
use Rattle.unit_rows.specs.Spells.{paid}

-- what the dispatch rules ask of the step from period k to the next
pub record IsDispatchStep (g : ThermalUnit) (s : Schedule) (k : ℕ) : Type 0 where
  pub least : IsTrue (on_in g s (suc k)) → pos 0 ≤ℤ above_min g s (suc k)
  pub greatest : IsTrue (on_in g s (suc k)) → above_with_reserve g s (suc k) ≤ℤ cap_of g false false
  pub start : IsTrue (starts_in g s (suc k)) → above_with_reserve g s (suc k) ≤ℤ cap_of g true false
  pub stop : 1 ≤ k → IsTrue (stops_in g s (suc k)) → above_with_reserve g s k ≤ℤ cap_of g false true
  pub stop_at_once : k ≡ 0 → IsTrue (stops_in g s (suc k)) →
      g.power0 ≤ℤ int_min g.stop_limit g.max_power
  pub ramp_up : (above_with_reserve g s (suc k) -ℤ above_min g s k) ≤ℤ g.ramp_up
  pub ramp_down : (above_min g s k -ℤ above_min g s (suc k)) ≤ℤ g.ramp_down

-- the unit may stop after period l
pub record MayStop (g : ThermalUnit) (s : Schedule) (l : ℕ) : Type 0 where
  pub min_up : g.min_up ≤ time_up g s l
  pub cap : 1 ≤ l → (over_min g s l +ℤ reserve_in s l) ≤ℤ cap_of g false true
  pub cap_at_once : l ≡ 0 → g.power0 ≤ℤ int_min g.stop_limit g.max_power
  pub down : over_min g s l ≤ℤ g.ramp_down
  pub up : (pos 0 -ℤ over_min g s l) ≤ℤ g.ramp_up

-- the steps up to period l are right and cost v; the unit is on in l, or l is 0, and may stop after
-- it
pub record IsUpTo (g : ThermalUnit) (π : PriceLists) (periods : ℕ) (s : Schedule) (l : ℕ) (v : ℤ) :
    Type 0 where
  pub steps : (k : ℕ) → k < l → IsStep g s k
  pub dispatch : (k : ℕ) → k < l → IsDispatchStep g s k
  pub on : 1 ≤ l → IsTrue (on_in g s l)
  pub stops : l < periods → IsTrue (on_in g s l) → MayStop g s l
  pub cost : paid g π s l ≡ v

-- off, with nothing given, in the periods after l to t
pub record IsIdle (g : ThermalUnit) (s : Schedule) (l t : ℕ) : Type 0 where
  pub off : (k : ℕ) → l < k → k ≤ t → IsFalse (on_in g s k)
  pub power : (k : ℕ) → l < k → k ≤ t → power_in s k ≡ pos 0
  pub reserve : (k : ℕ) → l < k → k ≤ t → reserve_in s k ≡ pos 0
