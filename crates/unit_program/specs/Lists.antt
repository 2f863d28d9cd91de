-- A schedule as spells with times off between them (this project's profile; the rules of both are
-- those of pglib-uc).
use Rattle.std.specs.Prelude.{◌≡◌, ℕ, suc, ◌<◌, ◌≤◌, ◌⊎◌, IsTrue, IsFalse, List, [], ◌∷◌}
use Rattle.uc_model.specs.Data.{ThermalUnit, Schedule}
use Rattle.uc_model.specs.Schedules.{on_in, IsThermalFeasible}
use Rattle.spell_run.specs.Spells.{IsDispatch}
use Rattle.unit_rows.specs.Spells.{IsSpell, IsOffRun, IsGap}

-- the periods from first to last; first 0 stands for a run that goes on from before the horizon
pub record Run : Type 0 where
  pub first : ℕ
  pub last : ℕ

-- the unit is on in these periods, may be so by the commitment rules, and its powers and reserves
-- keep the dispatch rules
pub record HasSpell (g : ThermalUnit) (periods : ℕ) (s : Schedule) (r : Run) : Type 0 where
  pub spell : IsSpell g periods r.first r.last
  pub on : (t : ℕ) → r.first ≤ t → t ≤ r.last → IsTrue (on_in g s t)
  pub dispatch : IsDispatch g periods r.first r.last s

-- the unit is off in the periods after last to k
abbrev pub IsOffFrom : ThermalUnit → Schedule → ℕ → ℕ → Type 0
IsOffFrom g s last k = (t : ℕ) → last < t → t ≤ k → IsFalse (on_in g s t)

-- the periods up to `last` are these spells, the latest first, and the times off before them: each
-- goes on from before the horizon, or starts after a time off; where there is none, the unit is off
-- since before the horizon, and last is 0
abbrev pub AreSpells : ThermalUnit → ℕ → Schedule → ℕ → List Run → Type 0
AreSpells g periods s last [] = (last ≡ 0) × IsFalse g.on0
AreSpells g periods s last (r ∷ rs) =
    (r.last ≡ last) × HasSpell g periods s r
    × (((r.first ≡ 0) × (rs ≡ []))
    ⊎ ((k : ℕ) × (r.first ≡ suc k)
    × ((before : ℕ) × IsGap g before k × IsOffFrom g s before k × AreSpells g periods s before rs)))

-- the whole horizon is these spells with their times off, and a time off after the latest
pub record IsListOfSpells (g : ThermalUnit) (periods : ℕ) (s : Schedule) (rs : List Run) : Type
    0 where
  pub last : ℕ
  pub spells : AreSpells g periods s last rs
  pub rest : IsOffRun g last periods
  pub off : IsOffFrom g s last periods

-- every feasible schedule is a list of spells
abbrev pub SchedulesAreSpells : Type 0
SchedulesAreSpells =
    (g : ThermalUnit) (periods : ℕ) (s : Schedule) → IsThermalFeasible g periods s → (rs : List Run)
    × IsListOfSpells g periods s rs
