-- The columns of all thermal units (this project's profile).
use Rattle.std.specs.Prelude.{◌≡◌, ℕ, ◌≤◌, length}
use Rattle.uc_model.specs.Data.{Market}
use Rattle.gap_proof.specs.Mixtures.{mixture_of}
use Rattle.bundle_columns.specs.Mixing.{IsKept}
use Rattle.bundle_columns.specs.declared.pool.Pool.{Pool}

-- the places for columns that each thermal unit has
abbrev pub places_in : Pool → ℕ
places_in p = length p.wanted.items

-- the columns are as many feasible schedules of each thermal unit, and the master problem is over
-- the same units and periods
pub record IsPool (m : Market) (places : ℕ) (p : Pool) : Type 0 where
  pub some : 1 ≤ places
  pub most : places ≤ 1000
  pub columns : IsKept m places (mixture_of p.columns)
  pub periods : p.master.periods ≡ m.periods
  pub thermal : p.master.thermal ≡ length m.thermal
  pub places_are : p.master.places ≡ places
  pub wanted : length p.wanted.items ≡ places
  pub power : length p.power.items ≡ m.periods
  pub reserve : length p.reserve.items ≡ m.periods
