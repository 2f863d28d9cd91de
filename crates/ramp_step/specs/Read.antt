-- What is read off knots (this project's profile).
use Rattle.std.specs.Prelude.{◌≡◌, ℕ, ℤ, ◌≤ℤ◌, List}
use Rattle.ramp_step.specs.declared.breakpoint.Knot.{Knot}
use Rattle.ramp_step.specs.Knots.{IsInside}

-- q is the least value of f at the powers that keep P, at its least power
pub record IsLowest (P : ℤ → Type 0) (f : ℤ → ℤ) (q : Knot) : Type 0 where
  pub inside : P q.at
  pub there : f q.at ≡ q.value
  pub least : (y : ℤ) → P y → q.value ≤ℤ f y
  pub first : (y : ℤ) → P y → f y ≡ q.value → q.at ≤ℤ y

-- no power keeps P
abbrev pub HasNoPower : (ℤ → Type 0) → Type 0
HasNoPower P = (x : ℤ) → P x → ⊥

-- x is a power of the interval from lo to hi
pub record IsInsideWithin (lo hi : ℤ) (ks : List Knot) (n : ℕ) (x : ℤ) : Type 0 where
  pub inside : IsInside ks n x
  pub from : lo ≤ℤ x
  pub to : x ≤ℤ hi

-- v is the function's value at x, which is in the interval
pub record IsValueAt (f : ℤ → ℤ) (ks : List Knot) (n : ℕ) (x v : ℤ) : Type 0 where
  pub inside : IsInside ks n x
  pub value : v ≡ f x
