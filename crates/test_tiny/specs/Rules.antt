-- The rules of a feasible schedule, as each period keeps them: the period at place k is period k +
-- 1 (pglib-uc).
use Rattle.std.specs.Prelude.{◌≡◌, ℕ, suc, ◌+◌, ◌-◌, ◌<◌, ◌≤◌, pos, ◌-ℤ◌, ◌≤ℤ◌, true, false, IsTrue}
use Rattle.std.specs.Prelude.{IsFalse, length, slice_index, slice_index_or}
use Rattle.std.specs.Int.{int_min}
use Rattle.uc_model.specs.declared.units.Mark.TheVariants.{MustOff, MustOn}
use Rattle.uc_model.specs.Data.{ThermalUnit, Schedule}
use Rattle.uc_model.specs.Schedules.{on_in, starts_in, stops_in, mark_in, above_min}
use Rattle.uc_model.specs.Schedules.{above_with_reserve, cap_of, IsPeriod}

-- it is on from the period at place k for the minimum time up, as far as the horizon goes
abbrev pub StaysOnFrom : ThermalUnit → Schedule → ℕ → Type 0
StaysOnFrom g s k =
    (j : ℕ) → k ≤ j → j < k + g.min_up → j < length s.on → IsTrue (slice_index_or s.on j false)

-- it is off from the period at place k for the minimum time down
abbrev pub StaysOffFrom : ThermalUnit → Schedule → ℕ → Type 0
StaysOffFrom g s k =
    (j : ℕ) → k ≤ j → j < k + g.min_down → j < length s.on → IsFalse (slice_index_or s.on j false)

-- the commitment rules of one period
pub record KeepsCommitmentAt (g : ThermalUnit) (s : Schedule) (k : ℕ) : Type 0 where
  pub must_run : IsTrue g.must_run → IsTrue (on_in g s (suc k))
  pub stays_on : IsTrue g.on0 → suc k ≤ g.min_up - g.up0 → IsTrue (on_in g s (suc k))
  pub stays_off : IsFalse g.on0 → suc k ≤ g.min_down - g.down0 → IsFalse (on_in g s (suc k))
  pub min_up : IsTrue (starts_in g s (suc k)) → StaysOnFrom g s k
  pub min_down : IsTrue (stops_in g s (suc k)) → StaysOffFrom g s k
  pub must_on : mark_in g.window (suc k) ≡ MustOn → IsTrue (on_in g s (suc k))
  pub must_off : mark_in g.window (suc k) ≡ MustOff → IsFalse (on_in g s (suc k))

-- the dispatch rules of one period; a stop in the next period limits this one
pub record KeepsDispatchAt (g : ThermalUnit) (s : Schedule) (k : ℕ) : Type 0 where
  pub off : IsFalse (slice_index_or s.on k false) → (slice_index s.power k ≡ 0)
      × (slice_index s.reserve k ≡ 0)
  pub least : IsTrue (on_in g s (suc k)) → pos 0 ≤ℤ above_min g s (suc k)
  pub greatest : IsTrue (on_in g s (suc k)) → above_with_reserve g s (suc k) ≤ℤ cap_of g false false
  pub start : IsTrue (starts_in g s (suc k)) → above_with_reserve g s (suc k) ≤ℤ cap_of g true false
  pub stop : IsPeriod s (suc (suc k)) → IsTrue (stops_in g s (suc (suc k))) →
      above_with_reserve g s (suc k) ≤ℤ cap_of g false true
  pub ramp_up : (above_with_reserve g s (suc k) -ℤ above_min g s k) ≤ℤ g.ramp_up
  pub ramp_down : (above_min g s k -ℤ above_min g s (suc k)) ≤ℤ g.ramp_down

-- all rules of one period
pub record KeepsRulesAt (g : ThermalUnit) (s : Schedule) (k : ℕ) : Type 0 where
  pub commitment : KeepsCommitmentAt g s k
  pub dispatch : KeepsDispatchAt g s k

-- each period keeps the rules
abbrev pub KeepsRules : ThermalUnit → Schedule → Type 0
KeepsRules g s = (k : ℕ) → k < length s.on → KeepsRulesAt g s k

-- a stop in the first period is at an output within the stop limit
abbrev pub MayStopAtOnce : ThermalUnit → Schedule → Type 0
MayStopAtOnce g s =
    IsPeriod s 1 → IsTrue (stops_in g s 1) → g.power0 ≤ℤ int_min g.stop_limit g.max_power
