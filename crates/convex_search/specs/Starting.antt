-- A master problem that is over the units and periods of a case (this project's profile).
use Rattle.std.specs.Prelude.{◌≡◌, ℕ, length}
use Rattle.uc_model.specs.Data.{Market}
use Rattle.bundle_master.specs.Shape.{Shape}

pub record IsProblem (m : Market) (places : ℕ) (s : Shape) : Type 0 where
  pub periods : s.periods ≡ m.periods
  pub thermal : s.thermal ≡ length m.thermal
  pub places_are : s.places ≡ places
