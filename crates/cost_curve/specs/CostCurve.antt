-- The curve of a unit's cost points: its envelope at every power (this project's profile).
use Rattle.std.specs.Prelude.{◌≡◌, ℕ, suc, ◌-◌, ◌*◌, ◌≤◌, ℤ, pos, neg_ℤ, ◌≤ℤ◌, List, length}
use Rattle.std.specs.Prelude.{slice_index_or, Some, IsSome}
use Rattle.std.specs.List.{All}
use Rattle.uc_model.specs.declared.limits.TheConstants.{MOST_POINTS}
use Rattle.uc_model.specs.declared.units.Block.{Block}
use Rattle.uc_model.specs.declared.units.Curve.{Curve}
use Rattle.uc_model.specs.declared.units.Point.{Point}
use Rattle.uc_model.specs.Curves.{curve_value, end_of}
use Rattle.uc_model.specs.Envelope.{envelope}
use Rattle.plain_lists.specs.Ranges.{IsFrom}
use Rattle.uc_model.specs.Limits.{IsCost, IsCurve, IsPoint, ArePointsOrdered, Spans}

-- the cost points of a unit
pub record AreCostPoints (ps : List Point) : Type 0 where
  pub some : 1 ≤ length ps
  pub count : length ps ≤ MOST_POINTS
  pub points : All IsPoint ps
  pub ordered : ArePointsOrdered ps

-- the curve goes from the first to the last point's power, is the envelope at every power there,
-- and is nowhere else
pub record IsCostCurve (ps : List Point) (c : Curve) : Type 0 where
  pub starts : (d : Point) → c.at ≡ (slice_index_or ps 0 d).at
  pub ends : (n : ℕ) (d : Point) → suc n ≡ length ps →
      end_of c.at c.blocks.items ≡ (slice_index_or ps n d).at
  pub value : (x : ℤ) → Spans ps x x → curve_value c x ≡ Some (envelope ps x)
  pub inside : (x : ℤ) → IsSome (curve_value c x) → Spans ps x x
  pub blocks : IsCurve c.blocks.items
  pub count : length c.blocks.items ≤ 2 * (length ps - 1)

-- the cost of a power is a cost as a point's is
abbrev pub EnvelopeIsWithinCostLimit : Type 0
EnvelopeIsWithinCostLimit =
    (ps : List Point) (x : ℤ) → AreCostPoints ps → Spans ps x x → IsCost (envelope ps x)

-- a power within 4 * 10^9, and a value within 10^18
abbrev pub IsCurvePower : ℤ → Type 0
IsCurvePower x = IsFrom (neg_ℤ (pos 4000000000)) (pos 4000000000) x

abbrev pub IsAmount : ℤ → Type 0
IsAmount v = IsFrom (neg_ℤ (pos 1000000000000000000)) (pos 1000000000000000000) v

-- a curve whose values can be computed: no width is negative, and its powers and values are within
-- these limits
pub record CanEvaluate (c : Curve) : Type 0 where
  pub widths : All (λ (b : Block). pos 0 ≤ℤ b.width) c.blocks.items
  pub first_power : IsCurvePower c.at
  pub last_power : IsCurvePower (end_of c.at c.blocks.items)
  pub values : (x v : ℤ) → curve_value c x ≡ Some v → IsAmount v
