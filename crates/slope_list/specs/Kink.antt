-- The function less the worth of the best reserve: a kink where the reserve meets its cap (this
-- project's profile).
use Rattle.std.specs.Prelude.{◌≡◌, ℕ, ◌+◌, ◌-◌, ◌<◌, ◌≤◌, ℤ, pos, neg_ℤ, ◌+ℤ◌, ◌-ℤ◌, ◌≤ℤ◌}
use Rattle.std.specs.Prelude.{◌<ℤ◌, int_lt, if◌then◌else◌, List, length}
use Rattle.std.specs.Int.{int_min}
use Rattle.plain_lists.specs.Ranges.{IsFrom}
use Rattle.uc_model.specs.Limits.{IsOutput}
use Rattle.uc_model.specs.declared.limits.TheConstants.{SPELL_LIMIT}
use Rattle.slope_list.specs.declared.step_terms.Step.{Step}
use Rattle.slope_list.specs.Curve.{reserve_term}
use Rattle.slope_list.specs.declared.piece.Piece.{Piece}
use Rattle.slope_list.specs.declared.piece.Start.{Start}
use Rattle.slope_list.specs.declared.cursor.Cursor.{Cursor}
use Rattle.slope_list.specs.Pieces.{piece, last_power, function_of}

-- the value less the worth of the best reserve
abbrev pub kinked : Start → List Piece → Step → ℤ → ℤ
kinked start ps s x = function_of start ps x +ℤ reserve_term s.reserve_price s.cap s.ramp_up x

-- where the reserve meets its cap
abbrev pub bend_of : Step → ℤ
bend_of s = s.cap -ℤ s.ramp_up

-- q is what is left of piece p from a power on: up to the bend it is lower by the price
pub record IsLowered (s : Step) (at : ℤ) (p q : Piece) : Type 0 where
  pub below : pos 0 <ℤ s.reserve_price → at <ℤ bend_of s → (q.end ≡ int_min p.end (bend_of s))
      × (q.slope ≡ p.slope -ℤ s.reserve_price)
  pub above : bend_of s ≤ℤ at → (q.end ≡ p.end) × (q.slope ≡ p.slope)
  pub free : s.reserve_price ≤ℤ pos 0 → (q.end ≡ p.end) × (q.slope ≡ p.slope)

-- how many parts there are at most from a power on: one for each piece that is left, and one for
-- the bend
abbrev pub parts_from : List Piece → Step → Cursor → ℕ
parts_from ps s cursor = (length ps - cursor.next) + (if int_lt cursor.at (bend_of s) then 1 else 0)

-- a slope of values that are within the limits
abbrev pub IsGentle : ℤ → Type 0
IsGentle slope = IsFrom (neg_ℤ (pos 1000000000000000000)) (pos 1000000000000000000) slope

abbrev pub AreGentle : List Piece → Type 0
AreGentle ps = (k : ℕ) → k < length ps → IsGentle (piece ps k).slope

-- powers are outputs of a unit, and values far within the limits
abbrev pub AreSmall : Start → List Piece → Type 0
AreSmall start ps =
    (x : ℤ) → start.first ≤ℤ x → x ≤ℤ last_power start.first ps
    → IsOutput x × IsFrom (neg_ℤ SPELL_LIMIT) SPELL_LIMIT
    (function_of start ps x)

-- a gentle slope less a price
abbrev pub IsSteep : ℤ → Type 0
IsSteep slope = IsFrom (neg_ℤ (pos 2000000000000000000)) (pos 2000000000000000000) slope
