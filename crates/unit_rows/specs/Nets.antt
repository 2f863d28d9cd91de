-- What a point costs less what its power is worth at a price: the higher the price, the less it is
-- for a point of more power beside one of less (this project's profile).
use Rattle.std.specs.Prelude.{◌≡◌, ℕ, suc, ◌<◌, ℤ, neg_ℤ, ◌-ℤ◌, ◌*ℤ◌, ◌≤ℤ◌, List, length}
use Rattle.std.specs.Prelude.{slice_index_or}
use Rattle.uc_model.specs.declared.units.Point.{Point}
use Rattle.uc_model.specs.declared.limits.TheConstants.{GAIN_LIMIT}

-- the point at place k costs no more than any of the list, less what they are worth at a price
abbrev pub HasLeastNet : List Point → ℕ → ℤ → Type 0
HasLeastNet ps k price =
    (j : ℕ) (d : Point) → j < length ps →
    ((slice_index_or ps k d).cost -ℤ (price *ℤ (slice_index_or ps k d).at))
    ≤ℤ ((slice_index_or ps j d).cost -ℤ (price *ℤ (slice_index_or ps j d).at))

-- the first point does at each price up to one of them, and the last at each from another one on
pub record AreKnown (ps : List Point) (first_to last_from : ℤ) : Type 0 where
  pub first : (price : ℤ) → neg_ℤ GAIN_LIMIT ≤ℤ price → price ≤ℤ first_to →
      HasLeastNet ps 0 price
  pub last : (n : ℕ) (price : ℤ) → suc n ≡ length ps → last_from ≤ℤ price →
      price ≤ℤ GAIN_LIMIT → HasLeastNet ps n price
