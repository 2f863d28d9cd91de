-- A piece of the envelope: one of its points, and the way on from there (this project's profile).
use Rattle.std.specs.Prelude.{◌<◌, ℤ, ◌≤ℤ◌, Option, MatchOption, ⊤, List, length}
use Rattle.cost_curve.specs.Edges.{point_at, IsVertex, IsWayOn}
use Rattle.cost_curve.specs.declared.costs.EnvelopePiece.{EnvelopePiece}
use Rattle.uc_model.specs.declared.units.Point.{Point}

-- it begins at a point of the envelope, and its way on is the one from there
pub record IsEnvelopePiece (ps : List Point) (l : EnvelopePiece) : Type 0 where
  pub within : l.from < length ps
  pub price : ℤ
  pub vertex : IsVertex ps price (point_at ps l.from)
  pub way : IsWayOn ps l.from (length ps) l.way

-- the power is between its ends
pub record IsOn (ps : List Point) (x : ℤ) (l : EnvelopePiece) : Type 0 where
  pub above : (point_at ps l.from).at ≤ℤ x
  pub below : MatchOption l.way ⊤ (λ e. x ≤ℤ (point_at ps e.index).at)

-- what is kept of the last power is such a piece, if there is one
abbrev pub IsNear : List Point → Option EnvelopePiece → Type 0
IsNear ps near = MatchOption near ⊤ (IsEnvelopePiece ps)
