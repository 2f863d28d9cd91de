-- What holds of all pieces. Each law is the clause of a public function.
use Rattle.std.specs.Prelude.{List}
use Rattle.slope_list.specs.declared.piece.Piece.{Piece}
use Rattle.slope_list.specs.declared.piece.Start.{Start}
use Rattle.slope_list.specs.Pieces.{last_power, table_of, AreSlopes}
use Rattle.slope_list.specs.Turn.{IsFirst, IsLast}

-- their function begins at their first power, with the level there
abbrev pub PiecesBegin : Type 0
PiecesBegin =
    (start : Start) (ps : List Piece) → AreSlopes start.first ps →
    IsFirst (table_of start ps) start.first start.level

-- and ends where the last of them does
abbrev pub PiecesEnd : Type 0
PiecesEnd =
    (start : Start) (ps : List Piece) → AreSlopes start.first ps →
    IsLast (table_of start ps) (last_power start.first ps)
