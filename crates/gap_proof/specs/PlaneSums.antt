-- Sizes, and sums as they run while rows are added (this project's profile).
use Rattle.std.specs.Prelude.{◌≡◌, ℕ, ◌*◌, ◌<◌, ℤ, pos, neg_ℤ, List, length}
use Rattle.uc_model.specs.Data.{Market}
use Rattle.plain_lists.specs.declared.limits.TheConstants.{MOST_RADIUS}
use Rattle.plain_lists.specs.Ranges.{IsFrom}
use Rattle.uc_model.specs.Limits.{IsWorth}
use Rattle.uc_model.specs.PriceRule.{Proposal}
use Rattle.plain_lists.specs.Sums.{int_at, total}
use Rattle.price_space.specs.Sizes.{IsRowOver}
use Rattle.gap_proof.specs.CertifiedBound.{slope_at, height_of, weighted}

-- a row over the market's horizon, with a dual value
pub record IsRowWithin (m : Market) (r : Proposal) : Type 0 where
  pub row : IsRowOver m r
  pub value : IsWorth r.value

-- x is at most n in magnitude
abbrev pub IsUpTo : ℕ → ℤ → Type 0
IsUpTo n x = IsFrom (neg_ℤ (pos n)) (pos n) x

-- a weight of a row
abbrev pub IsWeight : ℤ → Type 0
IsWeight w = IsFrom (pos 0) (pos 1000000) w

-- how far prices may be from the centre
abbrev pub IsRadius : ℤ → Type 0
IsRadius q = IsFrom (pos 0) (pos MOST_RADIUS) q

-- the height of a plane, that height a weight's times, and a weighted sum of heights
abbrev pub IsHeight : ℤ → Type 0
IsHeight x = IsUpTo 2000000000000000000000000 x

abbrev pub IsHeightStep : ℤ → Type 0
IsHeightStep x = IsUpTo 2000000000000000000000000000000 x

abbrev pub IsHeightSum : ℤ → Type 0
IsHeightSum x = IsUpTo 30000000000000000000000000000000000 x

-- a weighted sum of slopes, what it adds at a price, and at all price places
abbrev pub IsSlopeSum : ℤ → Type 0
IsSlopeSum x = IsUpTo 1000000000000000000000000 x

abbrev pub IsRise : ℤ → Type 0
IsRise x = IsUpTo 10000000000000000000000000000000 x

abbrev pub IsRiseSum : ℤ → Type 0
IsRiseSum x = IsUpTo 4000000000000000000000000000000000 x

-- the greatest and the least that a bound may be
abbrev pub most_bound : ℤ
most_bound = pos 34000000000000000000000000000000000

abbrev pub least_bound : ℤ
least_bound = neg_ℤ most_bound

-- the sums of some weighted rows, with their sizes
pub record AreSums (m : Market) (ws : List ℤ) (rows : List Proposal) (height weight : ℤ)
    (slopes : List ℤ) : Type 0 where
  pub heights : height ≡ weighted (height_of m) ws rows
  pub weights : weight ≡ total ws
  pub slopes_are : (j : ℕ) → j < 2 * m.periods →
      int_at slopes j ≡ weighted (λ (r : Proposal). slope_at m r j) ws rows
  pub same_length : length slopes ≡ 2 * m.periods
  pub height_bound : IsUpTo (length rows * 2000000000000000000000000000000) height
  pub weight_bound : IsFrom (pos 0) (pos (length rows * 1000000)) weight
  pub slope_bound : (j : ℕ) → j < 2 * m.periods →
      IsUpTo (length rows * 20000000000000000000) (int_at slopes j)
