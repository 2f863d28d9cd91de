-- The ranges of rows that are tried for a bound (this project's profile). Rows count from 1.
use Rattle.std.specs.Prelude.{◌≡◌, ℕ, ◌-◌, ◌<◌, ℤ, pos, ◌≤ℤ◌, ◌<ℤ◌, Some, List, ◌∷◌, map, length}
use Rattle.std.specs.Prelude.{◌&&◌, if◌then◌else◌, nat_le, slice_get}
use Rattle.std.specs.List.{range_with_len}
use Rattle.std.specs.Option.{option_map_or}
use Rattle.uc_model.specs.Data.{PriceLists, Market}
use Rattle.uc_model.specs.PriceRule.{Proposal, no_prices}
use Rattle.gap_proof.specs.CertifiedBound.{certified_bound}

-- the prices of the row of a number
abbrev pub prices_of_row : List Proposal → ℕ → PriceLists
prices_of_row rows number =
    option_map_or (λ (r : Proposal). r.prices) (slice_get rows (number - 1)) no_prices

-- a range from a first to a last row
pub record RowRange : Type 0 where
  pub first : ℕ
  pub last : ℕ

-- weight 1 for each row of the range, and 0 for all others
abbrev pub range_weights : ℕ → RowRange → List ℤ
range_weights count range =
    map (λ i. if nat_le range.first i && nat_le i range.last then pos 1 else pos 0)
    (range_with_len 1 count)

-- the bound by the rows of a range
abbrev pub range_bound : Market → List Proposal → PriceLists → ℤ → RowRange → ℤ
range_bound m rows centre radius range =
    certified_bound m rows (range_weights (length rows) range) centre radius

-- the candidates in their order: the centre alone, then the rows from j to the last, for each j
abbrev pub candidates : ℕ → ℕ → List RowRange
candidates count centre =
    record { first = centre; last = centre }
    ∷ map (λ j. record { first = j; last = count }) (range_with_len 1 count)

-- the first candidate with the least bound, and that bound
pub record IsFirstLeast (m : Market) (rows : List Proposal) (centre : ℕ) (radius : ℤ)
    (range : RowRange) (bound : ℤ) : Type 0 where
  pub index : ℕ
  pub is : slice_get (candidates (length rows) centre) index ≡ Some range
  pub bound_is : bound ≡ range_bound m rows (prices_of_row rows centre) radius range
  pub least : (k : ℕ) (other : RowRange) →
      slice_get (candidates (length rows) centre) k ≡ Some other →
      bound ≤ℤ range_bound m rows (prices_of_row rows centre) radius other
  pub earlier : (k : ℕ) (other : RowRange) → k < index →
      slice_get (candidates (length rows) centre) k ≡ Some other →
      bound <ℤ range_bound m rows (prices_of_row rows centre) radius other
