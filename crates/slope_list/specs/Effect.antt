-- What each call does to a function, power by power (this project's profile).
use Rattle.std.specs.Prelude.{◌≡◌, ℤ, ◌+ℤ◌, ◌-ℤ◌, ◌≤ℤ◌, Option, Some, None, MatchOption}
use Rattle.std.specs.Option.{option_map}
use Rattle.slope_list.specs.Table.{Table, value_of, IsAmount}

-- one power alone, with that value
pub record IsPoint (power value : ℤ) (f : Table) : Type 0 where
  pub there : value_of f power ≡ Some value
  pub only : (x v : ℤ) → value_of f x ≡ Some v → x ≡ power

-- the same interval and the same values
abbrev pub IsSame : Table → Table → Type 0
IsSame f g = (x : ℤ) → value_of g x ≡ value_of f x

-- a term is added to the value at every power
abbrev pub IsSum : (ℤ → ℤ) → Table → Table → Type 0
IsSum term f g = (x : ℤ) → value_of g x ≡ option_map (λ v. v +ℤ term x) (value_of f x)

-- a curve's value at x + shift is added to the value at every power x
abbrev pub IsCurveSum : (ℤ → Option ℤ) → ℤ → Table → Table → Type 0
IsCurveSum curve shift f g =
    (x : ℤ) → MatchOption (value_of f x) (value_of g x ≡ None) (λ v. (c : ℤ)
    × (curve (x +ℤ shift) ≡ Some c) × (value_of g x ≡ Some (v +ℤ c)))

-- a curve may be added: each power, moved by the shift, is in it, and the values stay within the
-- limits
abbrev pub CanAddCurve : (ℤ → Option ℤ) → ℤ → Table → Type 0
CanAddCurve curve shift f =
    (x v : ℤ) → value_of f x ≡ Some v → (c : ℤ) × (curve (x +ℤ shift) ≡ Some c) × IsAmount (v +ℤ c)

-- power y is among those that x reaches back to
abbrev pub Reaches : ℤ → ℤ → ℤ → ℤ → Type 0
Reaches up down x y = ((x -ℤ up) ≤ℤ y) × (y ≤ℤ (x +ℤ down))

-- the new value at x is the least old value from x - up to x + down; the new powers are those from
-- lo to hi with such a power
pub record IsWindow (up down lo hi : ℤ) (f g : Table) : Type 0 where
  -- a new value is the old value of a power in reach
  pub reached : (x v : ℤ) → value_of g x ≡ Some v → (y : ℤ) × (value_of f y ≡ Some v)
      × ((lo ≤ℤ x) × (x ≤ℤ hi)) × Reaches up down x y
  -- a power from lo to hi with an old power in reach is new, and its value is no greater
  pub least : (x y w : ℤ) → value_of f y ≡ Some w → ((lo ≤ℤ x) × (x ≤ℤ hi)) → Reaches up down x y →
      (v : ℤ) × (value_of g x ≡ Some v) × (v ≤ℤ w)

-- the least value, at its least power
pub record IsLeast (f : Table) (v x : ℤ) : Type 0 where
  pub there : value_of f x ≡ Some v
  pub least : (y w : ℤ) → value_of f y ≡ Some w → v ≤ℤ w
  pub first : (y : ℤ) → value_of f y ≡ Some v → x ≤ℤ y

-- the least value of the powers from lo to hi, at its least power
pub record IsLeastIn (lo hi : ℤ) (f : Table) (v x : ℤ) : Type 0 where
  pub inside : (lo ≤ℤ x) × (x ≤ℤ hi)
  pub there : value_of f x ≡ Some v
  pub least : (y w : ℤ) → value_of f y ≡ Some w → lo ≤ℤ y → y ≤ℤ hi → v ≤ℤ w
  pub first : (y : ℤ) → value_of f y ≡ Some v → lo ≤ℤ y → y ≤ℤ hi → x ≤ℤ y
