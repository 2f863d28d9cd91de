-- One period of a spell as a step on functions of the power: the dispatch rules of pglib-uc, taken
-- one period at a time.
use Rattle.std.specs.Prelude.{◌≡◌, ℤ, pos, neg_ℤ, ◌*ℤ◌, ◌≤ℤ◌, Some}
use Rattle.uc_model.specs.declared.limits.TheConstants.{GAIN_LIMIT, SPELL_LIMIT}
use Rattle.uc_model.specs.declared.units.Curve.{Curve}
use Rattle.plain_lists.specs.Ranges.{IsFrom}
use Rattle.uc_model.specs.Limits.{IsPower, IsOutput, IsCost, price_limit}
use Rattle.slope_list.specs.declared.step_terms.Step.{Step}
use Rattle.slope_list.specs.Curve.{curve_value, reserve_term, IsLimitedCurve}
use Rattle.slope_list.specs.Effect.{IsSum, IsCurveSum, IsWindow}
use Rattle.slope_list.specs.Table.{Table, value_of}

-- the numbers of a step are within the limits of a unit and of prices
pub record IsFairStep (s : Step) : Type 0 where
  pub least : IsOutput s.least
  pub most : IsOutput s.most
  pub cap : IsOutput s.cap
  pub ramp_up : IsPower s.ramp_up
  pub ramp_down : IsPower s.ramp_down
  pub reserve_price : IsFrom (pos 0) price_limit s.reserve_price
  pub slope : IsFrom (neg_ℤ price_limit) GAIN_LIMIT s.slope

-- the curve may be added to a shape, and has a cost at each power of the step
pub record IsCostOf (s : Step) (c : Curve) : Type 0 where
  pub limited : IsLimitedCurve c
  pub costs : (x : ℤ) → s.least ≤ℤ x → x ≤ℤ s.most → (v : ℤ) × (curve_value c x ≡ Some v) × IsCost v

-- the worth of the best reserve is taken off
abbrev pub IsKinked : Step → Table → Table → Type 0
IsKinked s f g = IsSum (reserve_term s.reserve_price s.cap s.ramp_up) f g

-- and what remains of the step: the ramps, what the prices pay, and the production cost
pub record IsStepped (s : Step) (c : Curve) (f h : Table) : Type 0 where
  pub kinked : Table
  pub window : Table
  pub line : Table
  pub is_kinked : IsKinked s f kinked
  pub is_window : IsWindow s.ramp_up s.ramp_down s.least s.most kinked window
  pub is_line : IsSum (λ x. s.slope *ℤ x) window line
  pub is_curve : IsCurveSum (curve_value c) (pos 0) line h

-- powers are outputs of a unit, and values far within the limits of a shape
abbrev pub IsSmall : Table → Type 0
IsSmall f =
    (x v : ℤ) → value_of f x ≡ Some v → IsOutput x
    × IsFrom (neg_ℤ SPELL_LIMIT) SPELL_LIMIT v
