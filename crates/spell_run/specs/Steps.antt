-- One period of a spell as a step from the power before it to its own power: the dispatch rules of
-- pglib-uc, taken one period at a time and written in the power itself, not in the power above the
-- least one.
use Rattle.std.specs.Prelude.{ℕ, suc, ◌≤◌, ◌==◌, nat_lt, ℤ, ◌+ℤ◌, ◌-ℤ◌, ◌≤ℤ◌, Bool, false}
use Rattle.std.specs.Prelude.{if◌then◌else◌, IsTrue, Option, MatchOption}
use Rattle.std.specs.Int.{int_min}
use Rattle.slope_list.specs.Effect.{IsLeast, IsLeastIn}
use Rattle.slope_list.specs.Table.{Table, IsEmpty, HasNone}
use Rattle.uc_model.specs.Data.{ThermalUnit, PriceLists, Schedule}
use Rattle.uc_model.specs.Schedules.{power_in, reserve_in, cap_of}
use Rattle.plain_lists.specs.Sums.{int_at}
use Rattle.slope_list.specs.declared.step_terms.Step.{Step}
use Rattle.spell_run.specs.Spells.{over_min}
-- what a step does to a function is said beside the shapes
pub use Rattle.slope_list.specs.Steps.{IsFairStep, IsCostOf, IsKinked, IsStepped, IsSmall}

-- the greatest power with reserve in a period where the unit starts, or stops in the next one
abbrev pub cap_at : ThermalUnit → Bool → Bool → ℤ
cap_at g starts stops = cap_of g starts stops +ℤ g.min_power

-- the numbers of a step over the period at that place: before a stop the power can't be more than a
-- fall above the least one
abbrev pub step_at : ThermalUnit → PriceLists → ℕ → Bool → Bool → Step
step_at g π index starts stops = record {
  least = g.min_power;
  most =
      if stops then int_min (cap_at g starts stops) (g.min_power +ℤ g.ramp_down) else cap_at g
      starts stops;
  cap = cap_at g starts stops;
  ramp_up = g.ramp_up;
  ramp_down = g.ramp_down;
  reserve_price = int_at π.reserve index;
  slope = int_at π.reserve index -ℤ int_at π.energy index;
}

-- after power q a period may have power p and reserve r
pub record IsMove (g : ThermalUnit) (starts stops : Bool) (q p r : ℤ) : Type 0 where
  pub least : g.min_power ≤ℤ p
  pub greatest : (p +ℤ r) ≤ℤ cap_at g starts stops
  pub ramp_up : ((p +ℤ r) -ℤ q) ≤ℤ g.ramp_up
  pub ramp_down : (q -ℤ p) ≤ℤ g.ramp_down
  pub leave : IsTrue stops → (p -ℤ g.min_power) ≤ℤ g.ramp_down

-- the power that the ramps of the period after t are measured from: a start comes from the least
-- power
unfoldable pub level : ThermalUnit → ℕ → Schedule → ℕ → ℤ
level g first d t = if nat_lt t first then g.min_power else over_min g d t +ℤ g.min_power

-- the periods first to t of d keep the rules of a spell, as far as no stop follows
abbrev pub IsRun : ThermalUnit → ℕ → ℕ → Schedule → Type 0
IsRun g first t d =
    (k : ℕ) → first ≤ suc k → suc k ≤ t →
    IsMove g (first == suc k) false (level g first d k) (power_in d (suc k))
    (reserve_in d (suc k))

-- ---- steps on functions of the power

-- the least value, or none on an empty interval
abbrev pub IsLeastCost : Table → Option ℤ → Type 0
IsLeastCost f o = MatchOption o (IsEmpty f) (λ v. (x : ℤ) × IsLeast f v x)

-- the same at the powers from low to high
abbrev pub IsLeastCostIn : ℤ → ℤ → Table → Option ℤ → Type 0
IsLeastCostIn low high f o =
    MatchOption o (HasNone low high f) (λ v. (x : ℤ) × IsLeastIn low high f v x)
