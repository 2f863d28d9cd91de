-- A term that is added to the function of some knots: the new knots, and what the step asks for.
use Rattle.ramp_step.proofs.Common.{ℕ, ◌<◌, List, ℤ, ◌+ℤ◌, ◌-ℤ◌, Curve, curve_value, IsLimitedCurve, IsSum, IsCurveSum}
use Rattle.ramp_step.proofs.Common.{CanAddCurve, Knot, curve_term, StandFor, HaveSameEnds, CanAdd, table_of, AreBreaks}
use Rattle.ramp_step.proofs.Common.{AreWithinLimits}
use Rattle.slope_list.specs.ShapeLaws.{SumIsWithinLimits, CurveSumIsWithinLimits}
use Rattle.slope_list.specs.Table as tables
use Rattle.ramp_step.proofs.RunLaws.{shape_of, AreBreaks-from}
use Rattle.ramp_step.proofs.CurveShapeLaws.{curve_on}
use Rattle.ramp_step.proofs.ShapeLaws.{IsSum-from_knots, IsCurveSum-from_knots, CanAdd-from_table}
use Rattle.ramp_step.proofs.ShapeLaws.{AreWithinLimits-from_table}

module _ (ks : List Knot) (n : ℕ) (b : AreBreaks ks n) where
  pub within_of : AreWithinLimits ks n
  within_of = AreWithinLimits-from_table ks n (shape_of ks n b) b.within

  module _ (term : ℤ → ℤ) where
    pub can_add : tables.CanAdd term (table_of ks n) → (f : ℤ → ℤ) → StandFor ks n f → CanAdd term ks n f
    can_add fits = CanAdd-from_table term ks n b.within fits

    module _ (ks' : List Knot) (n' : ℕ) (step : (f : ℤ → ℤ) → StandFor ks n f → StandFor ks' n' (λ x. f x +ℤ term x))
        (ends : HaveSameEnds ks n ks' n') where
      pub sum : IsSum term (table_of ks n) (table_of ks' n')
      sum = IsSum-from_knots term ks ks' n n' (shape_of ks n b) ends step

      pub sum_breaks : SumIsWithinLimits → tables.CanAdd term (table_of ks n) → AreBreaks ks' n'
      sum_breaks limits fits =
          let shape = shape_of ks n b in
          AreBreaks-from ks' n' (λ x. shape.0 x +ℤ term x, step shape.0 shape.1)
          (limits term (table_of ks n) (table_of ks' n') sum fits b.within)

  module _ (c : Curve) (shift : ℤ) (some : 0 < n) (limited : IsLimitedCurve c)
      (fits : CanAddCurve (curve_value c) shift (table_of ks n))
      (ks' : List Knot) (n' : ℕ) (step : (f : ℤ → ℤ) → StandFor ks n f →
      StandFor ks' n' (λ x. f x +ℤ curve_term c.value c.blocks.items (c.at -ℤ shift) x))
      (ends : HaveSameEnds ks n ks' n') where
    pub curve_sum : IsCurveSum (curve_value c) shift (table_of ks n) (table_of ks' n')
    curve_sum =
        let shape = shape_of ks n b in
        IsCurveSum-from_knots (curve_value c) shift (curve_term c.value c.blocks.items (c.at -ℤ shift)) ks ks' n n'
        shape ends
        (curve_on c shift ks n some shape b.within limited fits) step

    pub curve_sum_breaks : CurveSumIsWithinLimits → AreBreaks ks' n'
    curve_sum_breaks limits =
        let shape = shape_of ks n b in
        AreBreaks-from ks' n' (
          λ x. shape.0 x +ℤ curve_term c.value c.blocks.items (c.at -ℤ shift) x,
          step shape.0 shape.1,
        )
        (limits (curve_value c) shift (table_of ks n) (table_of ks' n') curve_sum fits b.within)
