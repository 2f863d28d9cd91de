-- The table as far as it is within limits: what is above its limit can't become the answer (this
-- project's profile).
use Rattle.std.specs.Prelude.{◌≡◌, ℕ, suc, ◌≤◌, ℤ, pos, neg_ℤ, ◌+ℤ◌, ◌≤ℤ◌, List, length, Option}
use Rattle.std.specs.Prelude.{Some}
use Rattle.uc_model.specs.Data.{ThermalUnit, PriceLists, Schedule, Thermal}
use Rattle.uc_model.specs.Earnings.{earnings}
use Rattle.uc_model.specs.Schedules.{IsThermalFeasible}
use Rattle.unit_rows.specs.declared.table.Ended.{Ended}
use Rattle.unit_rows.specs.Ends.{IsLeastEnd}
use Rattle.unit_rows.specs.Limits.{AreLimits, capped}
use Rattle.unit_rows.specs.Rows.{cost_at, first_at, before_at, AreWithin}
use Rattle.unit_rows.specs.Spells.{IsOffRun}
use Rattle.unit_table.specs.Tables.{IsComplete, IsFrom}

-- the rows are those of the table as far as they are within the limits
pub record IsTableWithin (g : ThermalUnit) (π : PriceLists) (limits : ℕ → ℤ) (ends : ℕ →
    Option ℤ) (firsts lasts : ℕ → ℕ) : Type 0 where
  pub complete : IsComplete g π (length π.energy) (suc (length π.energy)) (capped limits ends)
  pub sound : (l : ℕ) (v : ℤ) → l ≤ length π.energy → ends l ≡ Some v → v ≤ℤ limits l →
      IsFrom g π (length π.energy) (suc (length π.energy)) (capped limits ends) firsts lasts l v

pub record IsFilledWithin (g : ThermalUnit) (π : PriceLists) (most : ℤ)
    (rows : List (Option Ended)) : Type 0 where
  pub limits : ℕ → ℤ
  pub right : AreLimits g π most limits
  pub table : IsTableWithin g π limits (cost_at rows) (first_at rows) (before_at rows)
  pub within : AreWithin rows

-- something that is within the limits ends with period l
pub record IsRowWithin (g : ThermalUnit) (π : PriceLists) (rows : List (Option Ended)) (l : ℕ) :
    Type 0 where
  pub most : ℤ
  pub filled : IsFilledWithin g π most rows
  pub value : ℤ
  pub ended : cost_at rows l ≡ Some value
  pub low : value ≤ℤ filled.limits l

-- v is the least cost of all, at the earliest last on period l of those that have it
pub record IsEndWithin (g : ThermalUnit) (π : PriceLists) (rows : List (Option Ended)) (l : ℕ)
    (v : ℤ) : Type 0 where
  pub most : ℤ
  pub filled : IsFilledWithin g π most rows
  pub low : v ≤ℤ most
  pub least : IsLeastEnd g (length π.energy) (cost_at rows) l v
  pub earliest : (k : ℕ) → cost_at rows k ≡ Some v → IsOffRun g k (length π.energy) → l ≤ k

-- each feasible schedule costs more, less what the prices pay
abbrev pub EachCostsMore : ThermalUnit → PriceLists → ℤ → Type 0
EachCostsMore g π most =
    (s : Schedule) → IsThermalFeasible g (length π.energy) s →
    (most +ℤ pos 1) ≤ℤ neg_ℤ (earnings (Thermal g) π s)
