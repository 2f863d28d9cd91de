-- Curves that may be added to a shape, and the worth of a reserve (this project's profile).
use Rattle.std.specs.Prelude.{◌≡◌, ℤ, neg_ℤ, ◌+ℤ◌, ◌*ℤ◌, Some}
use Rattle.std.specs.Int.{int_min}
use Rattle.uc_model.specs.declared.units.Curve.{Curve}
use Rattle.uc_model.specs.Limits as limits
use Rattle.slope_list.specs.Table.{IsPlace, IsAmount}
-- what a curve means is said beside its type
pub use Rattle.uc_model.specs.Curves.{rise_at, curve_value, end_of}

-- a curve that may be added: no width is negative, prices rise from block to block, and the whole
-- curve is within the limits
pub record IsLimitedCurve (c : Curve) : Type 0 where
  pub blocks : limits.IsCurve c.blocks.items
  pub first_place : IsPlace c.at
  pub last_place : IsPlace (end_of c.at c.blocks.items)
  pub values : (x v : ℤ) → curve_value c x ≡ Some v → IsAmount v

-- what a reserve price takes off at a power: the most reserve there is min (cap, up + x)
abbrev pub reserve_term : ℤ → ℤ → ℤ → ℤ → ℤ
reserve_term mu cap up x = neg_ℤ (mu *ℤ int_min cap (up +ℤ x))
