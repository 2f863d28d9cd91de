-- What the steps of a spell leave for backtracking over it (Bellman's principle, and the convexity
-- of the functions; this project's profile).
use Rattle.std.specs.Prelude.{◌≡◌, ℕ, suc, ◌-◌, ◌<◌, ◌≤◌, ◌==◌, nat_lt, ℤ, pos, Bool}
use Rattle.std.specs.Prelude.{false, List, length, slice_index_or, Option, Some, None}
use Rattle.std.specs.Option.{option_map}
use Rattle.cost_curve.specs.CostCurve.{IsCostCurve}
use Rattle.slope_list.specs.Effect.{IsLeast}
use Rattle.slope_list.specs.Table.{Table}
use Rattle.slope_list.specs.declared.slopes.Lowest.{Lowest}
use Rattle.slope_list.specs.Turn.{IsTurn, IsFirst, IsLast}
use Rattle.uc_model.specs.declared.units.Curve.{Curve}
use Rattle.uc_model.specs.Data.{ThermalUnit, PriceLists}
use Rattle.spell_run.specs.declared.notes.Note.{Note}
use Rattle.spell_run.specs.declared.notes.Passed.{Passed}
use Rattle.spell_run.specs.Frontier.{IsFrontier}
use Rattle.spell_run.specs.Steps.{step_at, IsStepped}

-- n is noted of a step over period suc k, from the frontier of the periods before it
pub record IsNoted (g : ThermalUnit) (π : PriceLists) (first k : ℕ) (stops : Bool) (n : Note)
    (after : Table) : Type 0 where
  pub curve : Curve
  pub is_curve : IsCostCurve g.points curve
  pub before : Table
  pub frontier : IsFrontier g π first k before
  pub stepped : IsStepped (step_at g π k (first == suc k) stops) curve before after
  pub turn : IsTurn (step_at g π k (first == suc k) stops) before n.turn
  pub value : ℤ
  pub begins : IsFirst before n.first value
  pub ends : IsLast before n.last

-- of the step that goes on
abbrev pub IsOnNoted : ThermalUnit → PriceLists → ℕ → ℕ → Note → Type 0
IsOnNoted g π first k n = (after : Table) × IsNoted g π first k false n after

-- of the step that ends the spell: the least cost, the least power of that cost, and the turn
abbrev pub IsEndNoted : ThermalUnit → PriceLists → ℕ → ℕ → Note → Lowest → Type 0
IsEndNoted g π first k n e =
    (after : Table) × IsNoted g π first k (nat_lt (suc k) (length π.energy))
    (record { turn = e.turn; first = n.first; last = n.last }) after
    × IsLeast after e.value e.at

-- what was left at an index
abbrev pub passed_at : List Passed → ℕ → Passed
passed_at ps k =
    slice_index_or ps k (record {
      note = record { turn = pos 0; first = pos 0; last = pos 0 };
      end = None;
    })

-- the cost of an end
abbrev pub end_cost : Option Lowest → Option ℤ
end_cost = option_map (λ (e : Lowest). e.value)

-- what the spell from `first` to `last` left, by place
pub record IsSpellNoted (g : ThermalUnit) (π : PriceLists) (first last : ℕ) (passed : ℕ →
    Passed) : Type 0 where
  pub on : (k : ℕ) → first ≤ suc k → suc k < last → IsOnNoted g π first k (passed k).note
  pub lowest : Lowest
  pub is_end : (passed (last - 1)).end ≡ Some lowest
  pub end : IsEndNoted g π first (last - 1) (passed (last - 1)).note lowest
