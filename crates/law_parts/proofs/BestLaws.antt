-- What the bound of the best range says.
use Rattle.law_parts.proofs.Common.{◌≡◌, ℕ, zero, suc, ◌+◌, ◌-◌, ◌<◌, ◌≤◌, Bool, true, false, ◌&&◌, nat_le}
use Rattle.law_parts.proofs.Common.{if◌then◌else◌, Some, ℤ, pos, ◌≤ℤ◌, ◌<ℤ◌, List, length, sym, subst, inl, inr, arith}
use Rattle.law_parts.proofs.Common.{cases_lt, ints, All-map, length-map-range_with_len, slice_get_within, All}
use Rattle.law_parts.proofs.Common.{range_with_len, slice_get, PriceLists, Market, ArePrices, Proposal, total}
use Rattle.law_parts.proofs.Common.{IsDualValue, RowRange, range_weights, candidates, prices_of_row, IsFirstLeast}
use Rattle.law_parts.proofs.Common.{IsAnswered, AreWeights, IsInBox}
use Rattle.law_parts.proofs.Box.{centre_in_box}
use Rattle.gap_proof.proofs.FirstLeast.{back_item}
use Rattle.law_parts.proofs.Mean.{bound_above}
use Rattle.gap_proof.proofs.RangeLaws.{weight_in, weights_from, inside, same_item}
use Rattle.gap_proof.proofs.RowLists.{item_of, row_prices}

-- a weight of a range is 0 or 1
one_or_none : (b : Bool) → pos 0 ≤ℤ (if b then pos 1 else pos 0)
one_or_none true = omega (arith, ints)
one_or_none false = omega (arith, ints)

from_zero : (first last i : ℕ) → pos 0 ≤ℤ weight_in first last i
from_zero first last i = one_or_none (nat_le first i && nat_le i last)

total_low : (b n first last : ℕ) → pos 0 ≤ℤ total (weights_from b n first last)
total_low b zero first last = omega (arith, ints)
total_low b (suc n) first last = omega (arith, ints, from_zero first last b, total_low (b + 1) n first last)

-- the weights of a range with a row in it have a sum above 0
total_some : (b n first last : ℕ) → b ≤ first → first < b + n → first ≤ last →
    pos 0 <ℤ total (weights_from b n first last)
total_some b zero first last low high some = absurd (omega (arith, low, high))
total_some b (suc n) first last low high some =
    elim (cases_lt b first) [
      | inl more ↦ omega (
        arith,
        ints,
        from_zero first last b,
        total_some (b + 1) n first last (omega (arith, more)) (omega (arith, high)) some,
      )
      | inr here ↦ let one = inside first last b here (omega (arith, low, here, some)) in
          omega (arith, ints, one, total_low (b + 1) n first last)
    ]

range_are : (rows : List Proposal) (range : RowRange) → 1 ≤ range.first → range.first ≤ length rows →
    range.first ≤ range.last → AreWeights rows (range_weights (length rows) range)
range_are rows range low high some = record {
  count = length-map-range_with_len (weight_in range.first range.last) 1 (length rows);
  from_zero = All-map (λ (w : ℤ). pos 0 ≤ℤ w) (weight_in range.first range.last) (range_with_len 1 (length rows))
      (λ k d lt. from_zero range.first range.last _);
  some = total_some 1 (length rows) range.first range.last low (omega (arith, high)) some;
}

-- a candidate has a row in it
candidate_are : (rows : List Proposal) (centre k : ℕ) (range : RowRange) → 1 ≤ centre → centre ≤ length rows →
    slice_get (candidates (length rows) centre) k ≡ Some range → AreWeights rows (range_weights (length rows) range)
candidate_are rows centre zero range low high e =
    subst (λ (r : RowRange). AreWeights rows (range_weights (length rows) r))
    (same_item (record { first = centre; last = centre }) range e)
    (range_are rows (record { first = centre; last = centre }) low high (omega arith))
candidate_are rows centre (suc k) range low high e =
    let item = back_item (length rows) k range e in
    let within = item.0 in
    subst (λ (r : RowRange). AreWeights rows (range_weights (length rows) r)) item.1
    (range_are rows (record { first = 1 + k; last = length rows }) (omega arith) (omega (arith, within))
    (omega (arith, within)))

pub best_holds : (m : Market) (rows : List Proposal) (centre : ℕ) (radius : ℤ) (range : RowRange) (bound : ℤ)
    (π : PriceLists) (value : ℤ) →
    All (IsAnswered m) rows → 1 ≤ centre → centre ≤ length rows → IsFirstLeast m rows centre radius range bound →
    IsInBox m (prices_of_row rows centre) radius π → IsDualValue m π value → value ≤ℤ bound
best_holds m rows centre radius range bound π value answered low high best box dual =
    let are = candidate_are rows centre best.index range low high best.is in
    let above = bound_above m rows (range_weights (length rows) range) (prices_of_row rows centre) radius π value
    answered are box dual in
    subst (λ (z : ℤ). value ≤ℤ z) (sym best.bound_is) above

pub best_reaches : (m : Market) (rows : List Proposal) (centre : ℕ) (row : Proposal) (radius : ℤ) (range : RowRange)
    (bound : ℤ) →
    All (IsAnswered m) rows → 1 ≤ centre → slice_get rows (centre - 1) ≡ Some row → ArePrices row.prices →
    pos 0 ≤ℤ radius →
    IsFirstLeast m rows centre radius range bound → row.value ≤ℤ bound
best_reaches m rows centre row radius range bound answered low at prices wide best =
    let within = slice_get_within rows (centre - 1) row at in
    let answer = item_of (IsAnswered m) rows (centre - 1) row answered within at in
    let box = centre_in_box m row.prices radius answer.horizon prices wide in
    best_holds m rows centre radius range bound row.prices row.value answered low (omega (arith, low, within)) best
    (subst (λ (π : PriceLists). IsInBox m π radius row.prices) (row_prices rows centre row at) box) answer.value
