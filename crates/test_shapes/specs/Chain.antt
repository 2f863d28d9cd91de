-- Chains of calls on one shape, and the cells that they take (this project's profile).
use Rattle.std.specs.Prelude.{◌≡◌, ℕ, ℤ, ◌+◌, ◌-◌, ◌*◌, ◌*ℤ◌, ◌≤◌, List, [], ◌∷◌, length, Bool}
use Rattle.uc_model.specs.declared.units.Curve.{Curve}
use Rattle.test_shapes.specs.Cell.{Balance}
use Rattle.slope_list.specs.Curve.{curve_value, reserve_term}
use Rattle.slope_list.specs.Effect.{IsPoint, IsSum, IsCurveSum, IsWindow}
use Rattle.slope_list.specs.Table.{Table}

-- a call that changes a shape
pub data Call : Type 0 where
  AddCurve : (curve : Curve) (shift : ℤ) → Call
  AddLine : (slope : ℤ) → Call
  AddReserve : (mu cap up : ℤ) → Call
  Window : (up down lo hi : ℤ) → Call

-- what it makes of the shape's function
abbrev pub IsEffect : Call → Table → Table → Type 0
IsEffect (AddCurve curve shift) f g = IsCurveSum (curve_value curve) shift f g
IsEffect (AddLine slope) f g = IsSum (λ x. slope *ℤ x) f g
IsEffect (AddReserve mu cap up) f g = IsSum (reserve_term mu cap up) f g
IsEffect (Window up down lo hi) f g = IsWindow up down lo hi f g

-- the cells that it may take
abbrev pub charge_of : Call → ℕ
charge_of (AddCurve curve shift) = length curve.blocks.items
charge_of (AddLine slope) = 0
charge_of (AddReserve mu cap up) = 1
charge_of (Window up down lo hi) = 4

abbrev pub charges_of : List Call → ℕ
charges_of [] = 0
charges_of (call ∷ calls) = charge_of call + charges_of calls

-- how many of the calls add a curve
abbrev pub curves_in : List Call → ℕ
curves_in [] = 0
curves_in (AddCurve curve shift ∷ calls) = 1 + curves_in calls
curves_in (call ∷ calls) = curves_in calls

-- how many take off a reserve's worth, which has one kink
abbrev pub kinks_in : List Call → ℕ
kinks_in [] = 0
kinks_in (AddReserve mu cap up ∷ calls) = 1 + kinks_in calls
kinks_in (call ∷ calls) = kinks_in calls

-- how many are windows
abbrev pub windows_in : List Call → ℕ
windows_in [] = 0
windows_in (Window up down lo hi ∷ calls) = 1 + windows_in calls
windows_in (call ∷ calls) = windows_in calls

-- each curve is a unit's with so many cost points: at most two blocks between one point and the
-- next
abbrev pub AreCurvesOf : ℕ → List Call → Type 0
AreCurvesOf points [] = Unit {0}
AreCurvesOf points (AddCurve curve shift ∷ calls) =
    (length curve.blocks.items ≤ 2 * (points - 1)) × AreCurvesOf points calls
AreCurvesOf points (call ∷ calls) = AreCurvesOf points calls

-- at most `most` of each of these calls, in any order; lines aren't counted
pub record AreFew (most : ℕ) (calls : List Call) : Type 0 where
  pub curves : curves_in calls ≤ most
  pub kinks : kinks_in calls ≤ most
  pub windows : windows_in calls ≤ most

module _ {H S : Type 0} (cells : S → ℕ) where
  -- what a call with a charge does to the count of cells: no more than the charge
  abbrev pub IsWithinCharge : ℕ → H → S → H → S → Type 0
  IsWithinCharge charge h s h' s' = cells s' ≤ cells s + charge

  -- and in a home that counts it takes them from those that the home can give
  abbrev pub IsBalanced : Bool → (H → ℕ) → ℕ → H → S → H → S → Type 0
  IsBalanced counts sure charge h s h' s' =
      Balance counts charge (sure h) (cells s) (sure h') (cells s')

module _ {H S : Type 0} (function : H → S → Table) (charged : ℕ → H → S → H → S → Type 0)
    (cells : S → ℕ) where
  -- a call was made on a shape in its home, with its effect and its charge
  pub record IsMade (call : Call) (h : H) (s : S) (h' : H) (s' : S) : Type 0 where
    pub effect : IsEffect call (function h s) (function h' s')
    pub charge : charged (charge_of call) h s h' s'

  -- one call after another
  abbrev pub AreMade : List Call → H → S → H → S → Type 0
  AreMade [] h s h' s' = (h' ≡ h) × (s' ≡ s)
  AreMade (call ∷ calls) h s h' s' =
      (home : H) × (shape : S) × IsMade call h s home shape × AreMade calls home shape h' s'

  -- calls on a shape take at most their charges
  abbrev pub CellsAreCharged : Type 0
  CellsAreCharged =
      (calls : List Call) (h h' : H) (s s' : S)
      → AreMade calls h s h' s' → cells s' ≤ cells s + charges_of calls

  -- after calls in any order, of which at most `most` add a curve, as many a kink and as many take
  -- a window, a shape that began as a point has at most 1 + most * (2 * points + 3) cells
  abbrev pub CellsAreBounded : Type 0
  CellsAreBounded =
      (points most : ℕ) (calls : List Call) (power value : ℤ) (h h' : H) (s s' : S)
      → 1 ≤ points → AreCurvesOf points calls → AreFew most calls
      → IsPoint power value (function h s) → cells s ≡ 1
      → AreMade calls h s h' s' → cells s' ≤ 1 + most * (2 * points + 3)
