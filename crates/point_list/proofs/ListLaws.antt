-- A step on a list that is long enough, whose knots are then kept, is the step on its function.
use Rattle.point_list.proofs.Common.{◌≡◌, ℕ, ◌^◌, ◌<◌, ◌≤◌, List, ◌++◌, length, take, drop, Option, sym, ◌∙◌, subst}
use Rattle.point_list.proofs.Common.{arith, ℤ, pos, Knot, knot, IsCountedList}
use Rattle.std.proofs.lemmas.List.{length-append, length-take-le, get_or-take, get_or_append_left}
use Rattle.slope_list.specs.Effect.{IsSame, IsSum, IsCurveSum, CanAddCurve, IsWindow}
use Rattle.slope_list.specs.ShapeLaws.{SumIsOfValues, CurveSumIsOfValues, WindowIsOfValues}
use Rattle.slope_list.specs.Table.{CanAdd}
use Rattle.ramp_step.specs.Laws.{SameKnotsAreSame}
use Rattle.ramp_step.specs.Tables.{table_of, function_of, AreBreaks}

nothing : Knot
nothing = record { at = pos 0; value = pos 0 }

-- the first knots of a list that is written back
pub written_back : (a b : List Knot) (m k : ℕ) → k < m → k < length a →
    knot (take m (a ++ drop (length a) b)) k ≡ knot a k
unfolding nothing
written_back a b m k h i = get_or-take m (a ++ drop (length a) b) k nothing h ∙
    get_or_append_left a (drop (length a) b) nothing k i

pub written_length : (a b : List Knot) (m : ℕ) → m ≤ length a → length (take m (a ++ drop (length a) b)) ≡ m
written_length a b m h = length-take-le m (a ++ drop (length a) b)
    (let len = length-append a (drop (length a) b) in omega (arith, len))

-- the first knots of a list that is cut
pub cut_back : (xs : List Knot) (m k : ℕ) → k < m → knot (take m xs) k ≡ knot xs k
unfolding nothing
cut_back xs m k h = get_or-take m xs k nothing h

-- k3 is what was kept of k2, and few enough to be counted
pub record IsKept (k2 k3 : List Knot) (left : ℕ) : Type 0 where
  pub len : length k3 ≡ left
  pub count : left < 2 ^ 32
  pub after : (k : ℕ) → k < left → knot k3 k ≡ knot k2 k

module _ (same : SameKnotsAreSame) (ks k1 : List Knot) (used : ℕ) (b : IsCountedList ks) (e : used ≡ length ks)
    (before : (k : ℕ) → k < length ks → knot k1 k ≡ knot ks k) where
  begun : AreBreaks k1 used × IsSame (function_of ks) (table_of k1 used)
  begun = same ks k1 (length ks) used e before b.breaks

  pub breaks : AreBreaks k1 used
  breaks = begun.0

  pub can_add : (term : ℤ → ℤ) → CanAdd term (function_of ks) → CanAdd term (table_of k1 used)
  can_add term fits x v h = fits x v (sym (begun.1 x) ∙ h)

  pub can_add_curve : (curve : ℤ → Option ℤ) (shift : ℤ) → CanAddCurve curve shift (function_of ks) →
      CanAddCurve curve shift (table_of k1 used)
  can_add_curve curve shift fits x v h = fits x v (sym (begun.1 x) ∙ h)

  module _ (k2 k3 : List Knot) (left : ℕ) (left_breaks : AreBreaks k2 left) (kept : IsKept k2 k3 left) where
    ended : AreBreaks k3 (length k3) × IsSame (table_of k2 left) (function_of k3)
    ended = same k2 k3 left (length k3) kept.len kept.after left_breaks

    pub kept_breaks : IsCountedList k3
    kept_breaks = record { breaks = ended.0; count = subst (λ (m : ℕ). m < 2 ^ 32) (sym kept.len) kept.count }

    back : IsSame (table_of k1 used) (function_of ks)
    back x = sym (begun.1 x)

    pub sum : SumIsOfValues → (term : ℤ → ℤ) → IsSum term (table_of k1 used) (table_of k2 left) →
        IsSum term (function_of ks) (function_of k3)
    sum of_values term step = of_values term _ _ _ _ back ended.1 step

    pub curve_sum : CurveSumIsOfValues → (curve : ℤ → Option ℤ) (shift : ℤ) →
        IsCurveSum curve shift (table_of k1 used) (table_of k2 left) →
        IsCurveSum curve shift (function_of ks) (function_of k3)
    curve_sum of_values curve shift step = of_values curve shift _ _ _ _ back ended.1 step

    pub moved : WindowIsOfValues → (up down lo hi : ℤ) → IsWindow up down lo hi (table_of k1 used) (table_of k2 left) →
        IsWindow up down lo hi (function_of ks) (function_of k3)
    moved of_values up down lo hi step = of_values up down lo hi _ _ _ _ back ended.1 step
