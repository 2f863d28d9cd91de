-- What a list of pieces keeps (this project's profile).
use Rattle.std.specs.Prelude.{ℕ, ◌≤◌, List, length, Option, Some, None}
use Rattle.std.specs.Option.{ForSome}
use Rattle.slope_list.specs.declared.piece.Piece.{Piece}
use Rattle.slope_list.specs.declared.step.Made.{Made}
use Rattle.slope_list.specs.After.{ArePiecesAfter, AreWithinAfter}

-- how many pieces a function has
abbrev pub used_of : Option Made → ℕ
used_of None = 0
used_of (Some m) = m.used

-- the list has the pieces of the function, within the limits
pub record AreKept (made : Option Made) (pieces : List Piece) : Type 0 where
  pub used : used_of made ≤ length pieces
  pub slopes : ForSome made (ArePiecesAfter pieces)
  pub within : ForSome made (AreWithinAfter pieces)
