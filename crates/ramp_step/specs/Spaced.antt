-- Knots with free cells between them (this project's profile).
use Rattle.std.specs.Prelude.{◌≡◌, ℕ, ◌+◌, ◌<◌, ◌≤◌, ℤ, ◌≤ℤ◌, ◌<ℤ◌, List, ◌++◌, take, drop}
use Rattle.ramp_step.specs.declared.breakpoint.Knot.{Knot}
use Rattle.ramp_step.specs.Knots.{knot, power}

-- the knots without the free cells from index `front` on
abbrev pub spaced : List Knot → ℕ → ℕ → List Knot
spaced ks front room = take front ks ++ drop (front + room) ks

-- the first n knots are moved back
pub record AreMovedBack (by_ n : ℕ) (ks ks' : List Knot) : Type 0 where
  pub moved : (k : ℕ) → k < n → knot ks' (k + by_) ≡ knot ks k

-- the free cells are moved on over the knots below x; the n knots stay the same
pub record IsMovedOn (x : ℤ) (n room front front' : ℕ) (ks ks' : List Knot) : Type 0 where
  pub from : front ≤ front'
  pub to : front' ≤ n
  pub same : (k : ℕ) → k < n → knot (spaced ks' front' room) k ≡ knot (spaced ks front room) k
  pub below : (k : ℕ) → front ≤ k → k < front' → power (spaced ks front room) k <ℤ x
  pub after : front' < n → x ≤ℤ power (spaced ks front room) front'
