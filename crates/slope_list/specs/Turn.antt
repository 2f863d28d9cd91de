-- What else a step answers.
use Rattle.std.specs.Prelude.{◌≡◌, ℤ, ◌≤ℤ◌, ◌<ℤ◌, Some}
use Rattle.slope_list.specs.declared.step_terms.Step.{Step}
use Rattle.slope_list.specs.Steps.{IsKinked}
use Rattle.slope_list.specs.Table.{Table, value_of}

-- f falls up to its power x, and doesn't fall after it: x is the least power of the least value
pub record IsBottom (f : Table) (x : ℤ) : Type 0 where
  pub value : ℤ
  pub there : value_of f x ≡ Some value
  pub falls : (y z v w : ℤ) → value_of f y ≡ Some v → value_of f z ≡ Some w → y <ℤ z → z ≤ℤ x →
      w <ℤ v
  pub rises : (y z v w : ℤ) → value_of f y ≡ Some v → value_of f z ≡ Some w → x ≤ℤ y → y ≤ℤ z →
      v ≤ℤ w

-- x is the least power of the least value of f less the worth of the best reserve, which is convex
abbrev pub IsTurn : Step → Table → ℤ → Type 0
IsTurn s f x = (kinked : Table) × IsKinked s f kinked × IsBottom kinked x

-- x is the first power of f, and v is the value there
pub record IsFirst (f : Table) (x v : ℤ) : Type 0 where
  pub there : value_of f x ≡ Some v
  pub first : (y w : ℤ) → value_of f y ≡ Some w → x ≤ℤ y

-- x is the last power of f
pub record IsLast (f : Table) (x : ℤ) : Type 0 where
  pub value : ℤ
  pub there : value_of f x ≡ Some value
  pub last : (y w : ℤ) → value_of f y ≡ Some w → y ≤ℤ x
