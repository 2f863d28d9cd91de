-- A step on the first knots of a work list is the step on their function.
use Rattle.point_pool.proofs.Common.{◌≡◌, ℕ, ◌<◌, ◌≤◌, List, ◌++◌, length, take, drop, Option, sym, ◌∙◌, ap, arith, ℤ}
use Rattle.point_pool.proofs.Common.{pos, length-take-le, get_or-take, take_at, IsSame, IsSum, IsCurveSum, CanAddCurve}
use Rattle.point_pool.proofs.Common.{IsWindow, CanAdd, Knot, knot, SameKnotsAreSame, table_of, function_of, AreBreaks}
use Rattle.point_pool.proofs.Common.{IsBreakList}
use Rattle.slope_list.specs.ShapeLaws.{SumIsOfValues, CurveSumIsOfValues, WindowIsOfValues}

nothing : Knot
nothing = record { at = pos 0; value = pos 0 }

-- a list that is written back whole
pub written : (a b : List Knot) (len : ℕ) → length a ≡ len → take len (a ++ drop (length a) b) ≡ a
written a b len e = take_at a (drop (length a) b) len e

after_front : (a : List Knot) (left k : ℕ) → k < left → knot (take left a) k ≡ knot a k
unfolding nothing
after_front a left k h = get_or-take left a k nothing h

-- the first knots of a list
front_back : (xs : List Knot) (m k : ℕ) → k < length (take m xs) → m ≤ length xs → knot xs k ≡ knot (take m xs) k
unfolding nothing
front_back xs m k h fits =
    sym (get_or-take m xs k nothing (let len = length-take-le m xs fits in omega (arith, len, h)))

front_length : (xs : List Knot) (m : ℕ) → m ≤ length xs → m ≡ length (take m xs)
front_length xs m fits = sym (length-take-le m xs fits)

module _ (same : SameKnotsAreSame) (work k1 : List Knot) (used : ℕ) (fits : used ≤ length work) (e : k1 ≡ work)
    (b : IsBreakList (take used work)) where
  begun : AreBreaks k1 used × IsSame (function_of (take used work)) (table_of k1 used)
  begun = same (take used work) k1 (length (take used work)) used (front_length work used fits)
      (λ k h. ap (λ (l : List Knot). knot l k) e ∙ front_back work used k h fits) b

  pub breaks : AreBreaks k1 used
  breaks = begun.0

  pub can_add : (term : ℤ → ℤ) → CanAdd term (function_of (take used work)) → CanAdd term (table_of k1 used)
  can_add term can x v h = can x v (sym (begun.1 x) ∙ h)

  pub can_add_curve : (curve : ℤ → Option ℤ) (shift : ℤ) → CanAddCurve curve shift (function_of (take used work)) →
      CanAddCurve curve shift (table_of k1 used)
  can_add_curve curve shift can x v h = can x v (sym (begun.1 x) ∙ h)

  module _ (k2 : List Knot) (left : ℕ) (most : left ≤ length k2) (left_breaks : AreBreaks k2 left) where
    ended : IsBreakList (take left k2) × IsSame (table_of k2 left) (function_of (take left k2))
    ended = same k2 (take left k2) left (length (take left k2)) (length-take-le left k2 most) (after_front k2 left)
        left_breaks

    pub left_list : IsBreakList (take left k2)
    left_list = ended.0

    back : IsSame (table_of k1 used) (function_of (take used work))
    back x = sym (begun.1 x)

    pub sum : SumIsOfValues → (term : ℤ → ℤ) → IsSum term (table_of k1 used) (table_of k2 left) →
        IsSum term (function_of (take used work)) (function_of (take left k2))
    sum of_values term step = of_values term _ _ _ _ back ended.1 step

    pub curve_sum : CurveSumIsOfValues → (curve : ℤ → Option ℤ) (shift : ℤ) →
        IsCurveSum curve shift (table_of k1 used) (table_of k2 left)
        → IsCurveSum curve shift (function_of (take used work)) (function_of (take left k2))
    curve_sum of_values curve shift step = of_values curve shift _ _ _ _ back ended.1 step

    pub moved : WindowIsOfValues → (up down lo hi : ℤ) → IsWindow up down lo hi (table_of k1 used) (table_of k2 left) →
        IsWindow up down lo hi (function_of (take used work)) (function_of (take left k2))
    moved of_values up down lo hi step = of_values up down lo hi _ _ _ _ back ended.1 step
