-- Powers of a function among its pieces, and where it is least (this project's profile).
use Rattle.std.specs.Prelude.{◌≡◌, suc, ◌<◌, ◌≤◌, ℤ, pos, ◌+ℤ◌, ◌≤ℤ◌, ◌<ℤ◌, List, length}
use Rattle.slope_list.specs.Table.{IsPlace, IsAmount}
use Rattle.slope_list.specs.declared.piece.Piece.{Piece}
use Rattle.slope_list.specs.declared.piece.Start.{Start}
use Rattle.slope_list.specs.declared.cursor.Cursor.{Cursor}
use Rattle.slope_list.specs.Pieces.{end_at, last_power, function_of}

-- the index is that of the piece which goes on at the power, or past the last piece at the last
-- power
pub record IsPlaced (first : ℤ) (ps : List Piece) (cursor : Cursor) : Type 0 where
  pub some : cursor.next ≤ length ps
  pub from : end_at first ps cursor.next ≤ℤ cursor.at
  pub to : cursor.next < length ps → cursor.at <ℤ end_at first ps (suc cursor.next)
  pub last : cursor.next ≡ length ps → cursor.at ≡ last_power first ps

-- powers and values are within the limits
abbrev pub AreWithin : Start → List Piece → Type 0
AreWithin start ps =
    (x : ℤ) → start.first ≤ℤ x → x ≤ℤ last_power start.first ps → IsPlace x
    × IsAmount (function_of start ps x)

-- f falls from a to m, and doesn't fall from m to b
pub record IsValley (f : ℤ → ℤ) (a b m : ℤ) : Type 0 where
  pub from : a ≤ℤ m
  pub to : m ≤ℤ b
  pub falls : (x : ℤ) → a ≤ℤ x → x <ℤ m → f (x +ℤ pos 1) <ℤ f x
  pub rises : (x : ℤ) → m ≤ℤ x → x <ℤ b → f x ≤ℤ f (x +ℤ pos 1)
