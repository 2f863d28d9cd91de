-- The least value in reach (this project's profile).
use Rattle.std.specs.Prelude.{◌≡◌, ℕ, ◌+◌, ◌-◌, ◌<◌, ◌≤◌, ℤ, ◌+ℤ◌, ◌-ℤ◌, ◌≤ℤ◌, ◌<ℤ◌, List}
use Rattle.ramp_step.specs.declared.breakpoint.Knot.{Knot}
use Rattle.ramp_step.specs.Knots.{power, height, StandFor, IsInside}

-- v is the least value of f at the powers from x - up to x + down that are in the interval from a
-- to b
pub record IsLeastInReach (f : ℤ → ℤ) (a b up down x v : ℤ) : Type 0 where
  pub at : ℤ
  pub inside : (a ≤ℤ at) × (at ≤ℤ b)
  pub reached : ((x -ℤ up) ≤ℤ at) × (at ≤ℤ (x +ℤ down))
  pub there : f at ≡ v
  pub least : (y : ℤ) → a ≤ℤ y → y ≤ℤ b → (x -ℤ up) ≤ℤ y → y ≤ℤ (x +ℤ down) → v ≤ℤ f y

-- the heights of the first n knots fall up to index j, and don't fall at it
pub record IsTurn (ks : List Knot) (n j : ℕ) : Type 0 where
  pub inside : j < n
  pub falls : (i : ℕ) → i + 1 ≡ j → height ks j <ℤ height ks i
  pub rises : j + 1 < n → height ks j ≤ℤ height ks (j + 1)

-- the knots up to index j are moved by -down, and those from j on by up
pub record AreSpread (up down : ℤ) (n j : ℕ) (ks ks' : List Knot) : Type 0 where
  pub falling : (k : ℕ) → k ≤ j → (power ks' k ≡ power ks k -ℤ down) × (height ks' k ≡ height ks k)
  pub rising : (k : ℕ) → j ≤ k → k < n → (power ks' (k + 1) ≡ power ks k +ℤ up)
      × (height ks' (k + 1) ≡ height ks k)

-- the new knots stand for the least values in reach, over the interval that reaches the old one
pub record AreWindow (up down : ℤ) (ks : List Knot) (n : ℕ) (ks' : List Knot) (n' : ℕ) : Type
    0 where
  pub some : 0 < n'
  pub first : power ks' 0 ≡ power ks 0 -ℤ down
  pub last : power ks' (n' - 1) ≡ power ks (n - 1) +ℤ up
  pub function : (f : ℤ → ℤ) → StandFor ks n f → (g : ℤ → ℤ) × StandFor ks' n' g
      × ((x : ℤ) → (power ks 0 -ℤ down) ≤ℤ x → x ≤ℤ (power ks (n - 1) +ℤ up) →
      IsLeastInReach f (power ks 0) (power ks (n - 1)) up down x (g x))

-- the new knots stand for the least values in reach, at the powers from lo to hi that have an old
-- power in reach
pub record IsWindow (up down lo hi : ℤ) (ks : List Knot) (n : ℕ) (ks' : List Knot) (n' : ℕ) : Type
    0 where
  pub some : 0 < n' → 0 < n
  pub function : (f : ℤ → ℤ) → StandFor ks n f → (g : ℤ → ℤ) × StandFor ks' n' g
      × ((x : ℤ) → IsInside ks' n' x → (lo ≤ℤ x) × (x ≤ℤ hi)
      × IsLeastInReach f (power ks 0) (power ks (n - 1)) up down x (g x))
  pub powers : (x y : ℤ) → IsInside ks n y → (x -ℤ up) ≤ℤ y → y ≤ℤ (x +ℤ down) → lo ≤ℤ x → x ≤ℤ hi →
      IsInside ks' n' x
