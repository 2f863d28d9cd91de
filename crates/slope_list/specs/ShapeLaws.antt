-- What holds of convex functions and of the calls on them. Each law is the clause of a public
-- function of its name.
use Rattle.std.specs.Prelude.{◌≡◌, ◌↔◌, ℤ, pos, ◌+ℤ◌, ◌*ℤ◌, ◌≤ℤ◌, Option, Some}
use Rattle.uc_model.specs.declared.units.Curve.{Curve}
use Rattle.uc_model.specs.Limits as limits
use Rattle.slope_list.specs.declared.step_terms.Step.{Step}
use Rattle.slope_list.specs.Curve.{curve_value, end_of, reserve_term, IsLimitedCurve}
use Rattle.slope_list.specs.Effect.{IsPoint, IsSame, IsSum, IsCurveSum, CanAddCurve, IsWindow}
use Rattle.slope_list.specs.Steps.{IsFairStep, IsCostOf, IsStepped}
use Rattle.slope_list.specs.Table.{Table, value_of, IsConvex, IsPlace, IsAmount, IsWithinLimits}
use Rattle.slope_list.specs.Table.{CanAdd}

-- one power alone is convex
abbrev pub PointIsConvex : Type 0
PointIsConvex = (power value : ℤ) (f : Table) → IsPoint power value f → IsConvex f

abbrev pub CopyIsConvex : Type 0
CopyIsConvex = (f g : Table) → IsSame f g → IsConvex f → IsConvex g

abbrev pub LineKeepsConvexity : Type 0
LineKeepsConvexity =
    (slope : ℤ) (f g : Table) → IsSum (λ x. slope *ℤ x) f g → IsConvex f → IsConvex g

abbrev pub ReserveKeepsConvexity : Type 0
ReserveKeepsConvexity =
    (mu cap up : ℤ) (f g : Table) → pos 0 ≤ℤ mu → IsSum (reserve_term mu cap up) f g → IsConvex f →
    IsConvex g

abbrev pub CurveKeepsConvexity : Type 0
CurveKeepsConvexity =
    (c : Curve) (shift : ℤ) (f g : Table) → limits.IsCurve c.blocks.items →
    IsCurveSum (curve_value c) shift f g → IsConvex f → IsConvex g

abbrev pub WindowKeepsConvexity : Type 0
WindowKeepsConvexity =
    (up down lo hi : ℤ) (f g : Table) → IsWindow up down lo hi f g → IsConvex f → IsConvex g

-- so does a step, which is four of them
abbrev pub StepKeepsConvexity : Type 0
StepKeepsConvexity =
    (s : Step) (c : Curve) (f g : Table) → IsFairStep s → IsCostOf s c → IsStepped s c f g →
    IsConvex f → IsConvex g

-- at three powers side by side the middle value is no greater than half the sum of the others
abbrev pub IsConvexByPlaces : Table → Type 0
IsConvexByPlaces f =
    (x a b c : ℤ) → value_of f x ≡ Some a → value_of f (x +ℤ pos 1) ≡ Some b →
    value_of f (x +ℤ pos 2) ≡ Some c → (b +ℤ b) ≤ℤ (a +ℤ c)

-- which is what convexity of the list of values means
abbrev pub ConvexityDependsOnValuesAlone : Type 0
ConvexityDependsOnValuesAlone = (f : Table) → IsConvex f ↔ IsConvexByPlaces f

-- each effect fixes the new function at every power
abbrev pub PointIsExact : Type 0
PointIsExact =
    (power value : ℤ) (g g' : Table) → IsPoint power value g → IsPoint power value g' → IsSame g g'

abbrev pub SumIsExact : Type 0
SumIsExact = (term : ℤ → ℤ) (f g g' : Table) → IsSum term f g → IsSum term f g' → IsSame g g'

abbrev pub CurveSumIsExact : Type 0
CurveSumIsExact =
    (curve : ℤ → Option ℤ) (shift : ℤ) (f g g' : Table) → IsCurveSum curve shift f g →
    IsCurveSum curve shift f g' → IsSame g g'

abbrev pub WindowIsExact : Type 0
WindowIsExact =
    (up down lo hi : ℤ) (f g g' : Table) → IsWindow up down lo hi f g →
    IsWindow up down lo hi f g' → IsSame g g'

-- and keeps powers and values within the limits
abbrev pub PointIsWithinLimits : Type 0
PointIsWithinLimits =
    (power value : ℤ) (g : Table) → IsPlace power → IsAmount value → IsPoint power value g →
    IsWithinLimits g

abbrev pub CopyIsWithinLimits : Type 0
CopyIsWithinLimits = (f g : Table) → IsSame f g → IsWithinLimits f → IsWithinLimits g

abbrev pub SumIsWithinLimits : Type 0
SumIsWithinLimits =
    (term : ℤ → ℤ) (f g : Table) → IsSum term f g → CanAdd term f → IsWithinLimits f →
    IsWithinLimits g

abbrev pub CurveSumIsWithinLimits : Type 0
CurveSumIsWithinLimits =
    (curve : ℤ → Option ℤ) (shift : ℤ) (f g : Table) → IsCurveSum curve shift f g →
    CanAddCurve curve shift f → IsWithinLimits f → IsWithinLimits g

abbrev pub WindowIsWithinLimits : Type 0
WindowIsWithinLimits =
    (up down lo hi : ℤ) (f g : Table) → IsPlace lo → IsPlace hi → IsWindow up down lo hi f g →
    IsWithinLimits f → IsWithinLimits g

-- an effect is said of the look-up alone: what it says of two functions it says of any two with the
-- same values
abbrev pub SumIsOfValues : Type 0
SumIsOfValues =
    (term : ℤ → ℤ) (f f' g g' : Table) → IsSame f f' → IsSame g g' → IsSum term f g →
    IsSum term f' g'

abbrev pub CurveSumIsOfValues : Type 0
CurveSumIsOfValues =
    (curve : ℤ → Option ℤ) (shift : ℤ) (f f' g g' : Table) → IsSame f f' → IsSame g g' →
    IsCurveSum curve shift f g → IsCurveSum curve shift f' g'

abbrev pub WindowIsOfValues : Type 0
WindowIsOfValues =
    (up down lo hi : ℤ) (f f' g g' : Table) → IsSame f f' → IsSame g g' →
    IsWindow up down lo hi f g → IsWindow up down lo hi f' g'

-- a curve within the limits has values at powers within them alone
abbrev pub CurvePowersAreWithinLimits : Type 0
CurvePowersAreWithinLimits =
    (c : Curve) → IsLimitedCurve c → (x v : ℤ) → curve_value c x ≡ Some v → IsPlace x

-- and it has one at each power from its first to its last
abbrev pub CurveHasValueAtEachPower : Type 0
CurveHasValueAtEachPower =
    (c : Curve) → IsLimitedCurve c → (x : ℤ) → c.at ≤ℤ x → x ≤ℤ end_of c.at c.blocks.items → (v : ℤ)
    × (curve_value c x ≡ Some v)
