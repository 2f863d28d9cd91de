-- What has been written so far (this project's profile).
use Rattle.std.specs.Prelude.{◌≡◌, ℤ, pos, ◌+ℤ◌, List, unwrap_or}
use Rattle.uc_model.specs.declared.units.Curve.{Curve}
use Rattle.slope_list.specs.Curve.{curve_value}
use Rattle.slope_list.specs.declared.piece.Piece.{Piece}
use Rattle.slope_list.specs.declared.draw.Pen.{Pen}
use Rattle.slope_list.specs.Pieces.{end_at, Stand}

-- what the curve costs at a power
abbrev pub cost_at : Curve → ℤ → ℤ
cost_at c x = unwrap_or (curve_value c x) (pos 0)

-- f and the cost
abbrev pub with_cost : (ℤ → ℤ) → Curve → ℤ → ℤ
with_cost f c x = f x +ℤ cost_at c x

-- the pieces written so far are those of h from lo on, up to where the pen is
pub record IsDrawn (h : ℤ → ℤ) (lo : ℤ) (out : List Piece) (pen : Pen) : Type 0 where
  pub pieces : Stand h lo out pen.used
  pub meets : end_at lo out pen.used ≡ pen.at
