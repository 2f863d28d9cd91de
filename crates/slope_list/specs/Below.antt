-- One function below another one (this project's profile).
use Rattle.std.specs.Prelude.{ℤ, ◌+ℤ◌, ◌≤ℤ◌, ◌<ℤ◌, ◌≡◌, pos, neg_ℤ, List, Some}
use Rattle.plain_lists.specs.Ranges.{IsFrom}
use Rattle.slope_list.specs.Table.{Table, value_of}
use Rattle.slope_list.specs.declared.piece.Piece.{Piece}
use Rattle.slope_list.specs.declared.piece.Start.{Start}
use Rattle.slope_list.specs.declared.cursor.Reached.{Reached}
use Rattle.slope_list.specs.Pieces.{last_power, function_of}
use Rattle.slope_list.specs.Cursors.{IsPlaced}

-- f is wherever g is, and with the shift it is nowhere above it there
abbrev pub IsNowhereAbove : Table → Table → ℤ → Type 0
IsNowhereAbove f g shift =
    (x v : ℤ) → value_of g x ≡ Some v → (u : ℤ) × (value_of f x ≡ Some u) × ((u +ℤ shift) ≤ℤ v)

-- with the shift f is above a limit at each power
abbrev pub IsAbove : Table → ℤ → ℤ → Type 0
IsAbove f shift limit = (x v : ℤ) → value_of f x ≡ Some v → limit <ℤ (v +ℤ shift)

-- the same of pieces: the first function is wherever the other one is, and with the shift it is
-- nowhere above it there
abbrev pub IsUnder : Start → List Piece → Start → List Piece → ℤ → Type 0
IsUnder start ps other qs shift =
    (x : ℤ) → other.first ≤ℤ x → x ≤ℤ last_power other.first qs
    → (start.first ≤ℤ x) × (x ≤ℤ last_power start.first ps)
    × ((function_of start ps x +ℤ shift) ≤ℤ function_of other qs x)

-- the same up to a power
abbrev pub IsUnderTo : Start → List Piece → Start → List Piece → ℤ → ℤ → Type 0
IsUnderTo start ps other qs shift at =
    (x : ℤ) → other.first ≤ℤ x → x ≤ℤ at →
    (function_of start ps x +ℤ shift) ≤ℤ function_of other qs x

-- the value at a power, and the piece that goes on there
pub record IsReached (start : Start) (ps : List Piece) (at : ℤ) (r : Reached) : Type 0 where
  pub value : r.value ≡ function_of start ps at
  pub placed : IsPlaced start.first ps (record { at = at; next = r.next })

-- a shift of costs
abbrev pub IsShift : ℤ → Type 0
IsShift z = IsFrom (neg_ℤ (pos 4000000000000000000)) (pos 4000000000000000000) z
