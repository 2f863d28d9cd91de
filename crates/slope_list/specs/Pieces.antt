-- A convex function on a whole interval by its pieces of one slope (this project's profile).
use Rattle.std.specs.Prelude.{◌≡◌, ℕ, zero, suc, ◌<◌, ℤ, pos, negsuc, ◌+ℤ◌, ◌-ℤ◌, ◌*ℤ◌, ◌≤ℤ◌, ◌<ℤ◌}
use Rattle.std.specs.Prelude.{int_lt, if◌then◌else◌, List, [], ◌∷◌, length, slice_index_or}
use Rattle.slope_list.specs.Table.{Table}
use Rattle.slope_list.specs.declared.piece.Piece.{Piece}
use Rattle.slope_list.specs.declared.piece.Start.{Start}

-- the piece at an index
abbrev pub piece : List Piece → ℕ → Piece
piece ps k = slice_index_or ps k (record { end = pos 0; slope = pos 0 })

-- where the first k pieces end
abbrev pub end_at : ℤ → List Piece → ℕ → ℤ
end_at first ps zero = first
end_at first ps (suc k) = (piece ps k).end

-- the value at x: the level at a power, and the slopes of the pieces from there up to x
abbrev pub value_along : ℤ → ℤ → List Piece → ℤ → ℤ
value_along at level [] x = level
value_along at level (p ∷ ps) x =
    if int_lt p.end x then value_along p.end (level +ℤ p.slope *ℤ (p.end -ℤ at)) ps x else level
    +ℤ p.slope *ℤ (x -ℤ at)

-- the values of f at n powers from x on
abbrev pub values_from : (ℤ → ℤ) → ℤ → ℕ → List ℤ
values_from f x zero = []
values_from f x (suc n) = f x ∷ values_from f (x +ℤ pos 1) n

-- how many powers there are up to an offset
abbrev pub powers_to : ℤ → ℕ
powers_to (pos n) = suc n
powers_to (negsuc n) = 0

-- f at the powers from a to b
abbrev pub table_on : (ℤ → ℤ) → ℤ → ℤ → Table
table_on f a b = record { lo = a; values = values_from f a (powers_to (b -ℤ a)) }

-- the last power
abbrev pub last_power : ℤ → List Piece → ℤ
last_power first ps = end_at first ps (length ps)

-- the function of pieces that begin at a first power with a level
abbrev pub function_of : Start → List Piece → ℤ → ℤ
function_of start ps x = value_along start.first start.level ps x

abbrev pub table_of : Start → List Piece → Table
table_of start ps = table_on (function_of start ps) start.first (last_power start.first ps)

-- the ends rise from the first power on, and no slope is below the one before it
pub record AreSlopes (first : ℤ) (ps : List Piece) : Type 0 where
  pub rise : (k : ℕ) → k < length ps → end_at first ps k <ℤ end_at first ps (suc k)
  pub order : (k : ℕ) → suc k < length ps → (piece ps k).slope ≤ℤ (piece ps (suc k)).slope

-- from a to b the function f has one slope
pub record IsLine (f : ℤ → ℤ) (a b slope : ℤ) : Type 0 where
  pub rise : a <ℤ b
  pub line : (x : ℤ) → a ≤ℤ x → x ≤ℤ b → f x ≡ f a +ℤ slope *ℤ (x -ℤ a)

-- the first n pieces from power a on are those of f
abbrev pub Stand : (ℤ → ℤ) → ℤ → List Piece → ℕ → Type 0
Stand f a ps n = (k : ℕ) → k < n → IsLine f (end_at a ps k) (end_at a ps (suc k)) (piece ps k).slope

-- from a to b no step of f is below the one before it
abbrev pub Curves : (ℤ → ℤ) → ℤ → ℤ → Type 0
Curves f a b =
    (x y : ℤ) → a ≤ℤ x → x ≤ℤ y → y <ℤ b → (f (x +ℤ pos 1) -ℤ f x) ≤ℤ (f (y +ℤ pos 1) -ℤ f y)
