-- What a step makes (this project's profile).
use Rattle.std.specs.Prelude.{ℤ, pos, List, [], take, Option, Some, None}
use Rattle.uc_model.specs.declared.units.Curve.{Curve}
use Rattle.slope_list.specs.declared.step_terms.Step.{Step}
use Rattle.slope_list.specs.Table.{Table}
use Rattle.slope_list.specs.declared.piece.Piece.{Piece}
use Rattle.slope_list.specs.declared.piece.Start.{Start}
use Rattle.slope_list.specs.Pieces.{table_of, AreSlopes}
use Rattle.slope_list.specs.Cursors.{AreWithin}
use Rattle.slope_list.specs.Drawn.{with_cost}
use Rattle.slope_list.specs.Window.{paid}
use Rattle.slope_list.specs.declared.step.Made.{Made}

-- the function after the step
abbrev pub stepped : Start → List Piece → Step → ℤ → Curve → ℤ → ℤ
stepped start ps s m c = with_cost (paid start ps s m) c

-- the function that a step has made, or one on an empty interval
abbrev pub table_after : List Piece → Option Made → Table
table_after out None = record { lo = pos 0; values = [] }
table_after out (Some d) = table_of d.start (take d.used out)

-- and its pieces
abbrev pub ArePiecesAfter : List Piece → Made → Type 0
ArePiecesAfter out d = AreSlopes d.start.first (take d.used out)

-- within the limits
abbrev pub AreWithinAfter : List Piece → Made → Type 0
AreWithinAfter out d = AreWithin d.start (take d.used out)
