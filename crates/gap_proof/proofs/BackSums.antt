-- The sums of the rows from a place to the last, each once.
use Rattle.gap_proof.proofs.Common.{◌≡◌, ℕ, zero, suc, ◌+◌, ◌-◌, ◌*◌, ◌<◌, ◌≤◌, Some, ℤ, pos, ◌+ℤ◌, ◌*ℤ◌, List, [], ◌∷◌}
use Rattle.gap_proof.proofs.Common.{drop, replicate, length, unsigned_abs, refl, sym, ap, subst, ◌∙◌, arith}
use Rattle.gap_proof.proofs.Common.{length-drop, ints, drop_all, All, slice_get, PriceLists, Market, IsFrom, IsMarket}
use Rattle.gap_proof.proofs.Common.{Proposal, int_at, total, floor_div, IsWithin, IsRowOver, slope_at, height_of}
use Rattle.gap_proof.proofs.Common.{most_over, IsSlopeSum, IsHeightSum, AreSums}
use Rattle.gap_proof.proofs.RangeLaws.{back_bounds, back_is}
use Rattle.gap_proof.proofs.RowLists.{drop_at}
use Rattle.gap_proof.proofs.SumLaws.{sums_more, height_size, weight_size, slope_sizes, bound_is}

one_more : (n i : ℕ) → 0 < i → i ≤ n → replicate (n - (i - 1)) (pos 1) ≡ pos 1 ∷ replicate (n - i) (pos 1)
one_more n i low high =
    let e : n - (i - 1) ≡ suc (n - i) = omega (arith, low, high) in
    ap (λ (k : ℕ). replicate k (pos 1)) e

-- those of the last row
pub back_first : (m : Market) (rows : List Proposal) (n : ℕ) (r : Proposal) (height weight : ℤ) (slopes : List ℤ) →
    1 ≤ n → n ≡ length rows → slice_get rows (n - 1) ≡ Some r →
    AreSums m (pos 1 ∷ []) (r ∷ []) height weight slopes →
    AreSums m (replicate (n - (n - 1)) (pos 1)) (drop (n - 1) rows) height weight slopes
back_first m rows n r height weight slopes low len at h =
    let count : n - (n - 1) ≡ 1 = omega (arith, low) in
    let ws : replicate (n - (n - 1)) (pos 1) ≡ pos 1 ∷ [] = ap (λ (k : ℕ). replicate k (pos 1)) count in
    let last = drop_at rows n r (omega (arith, low)) (omega (arith, len)) at ∙
    ap (λ (l : List Proposal). r ∷ l) (drop_all n rows (omega (arith, len))) in
    subst (λ (l : List Proposal). AreSums m (replicate (n - (n - 1)) (pos 1)) l height weight slopes) (sym last)
    (subst (λ (l : List ℤ). AreSums m l (r ∷ []) height weight slopes) (sym ws) h)

total_ones : (n : ℕ) → total (replicate n (pos 1)) ≡ pos n
total_ones zero = refl
total_ones (suc n) = omega (arith, ints, total_ones n)

module _ (m : Market) (rows : List Proposal) (n i : ℕ) (height weight : ℤ) (slopes : List ℤ) (len : n ≡ length rows)
    (high : i ≤ n) (h : AreSums m (replicate (n - i) (pos 1)) (drop i rows) height weight slopes) where
  -- with the row before them
  pub back_more : (r : Proposal) (height' weight' : ℤ) (slopes' : List ℤ) → 0 < i → slice_get rows (i - 1) ≡ Some r →
      IsMarket m → IsRowOver m r →
      height' ≡ height +ℤ (pos 1 *ℤ height_of m r) → IsWithin 2000000000000000000000000000000 (pos 1 *ℤ height_of m r) →
      weight' ≡ weight +ℤ pos 1 → length slopes' ≡ length slopes →
      ((j : ℕ) → j < 2 * m.periods → int_at slopes' j ≡ int_at slopes j +ℤ (pos 1 *ℤ slope_at m r j)) →
      AreSums m (replicate (n - (i - 1)) (pos 1)) (drop (i - 1) rows) height' weight' slopes'
  back_more r height' weight' slopes' low at market row height_is step weight_is lens slopes_is =
      let next = sums_more m (replicate (n - i) (pos 1)) (drop i rows) height weight slopes h (pos 1) r height' weight'
      slopes' market row (record { at_least = omega (arith, ints); at_most = omega (arith, ints) }) height_is
      step weight_is lens slopes_is in
      subst (λ (l : List Proposal). AreSums m (replicate (n - (i - 1)) (pos 1)) l height' weight' slopes')
      (sym (drop_at rows i r low (omega (arith, high, len)) at))
      (subst (λ (l : List ℤ). AreSums m l (r ∷ drop i rows) height' weight' slopes') (sym (one_more n i low high)) next)

  left : n ≤ 10000 → length (drop i rows) ≤ 10000
  left few = omega (arith, few, len, length-drop i rows)

  pub back_height : n ≤ 10000 → IsHeightSum height
  back_height few = height_size m (replicate (n - i) (pos 1)) (drop i rows) height weight slopes h (left few)

  pub back_weight : n ≤ 10000 → IsFrom (pos 0) (pos 10000000000) weight
  back_weight few = weight_size m (replicate (n - i) (pos 1)) (drop i rows) height weight slopes h (left few)

  pub back_slopes : n ≤ 10000 → All IsSlopeSum slopes
  back_slopes few = slope_sizes m (replicate (n - i) (pos 1)) (drop i rows) height weight slopes h (left few)

  -- some rows are summed
  pub back_some : i < n → n ≤ 10000 → IsFrom (pos 1) (pos 10000000000) weight
  back_some some few =
      let size = back_weight few in
      let most = size.at_most in
      let count = total_ones (n - i) in
      let is = h.weights in
      record { at_least = omega (arith, ints, is, count, some); at_most = most }

  -- what is computed from the sums
  pub back_value : (centre : PriceLists) (radius : ℤ) →
      floor_div (height +ℤ most_over m centre radius (int_at slopes)) (unsigned_abs weight) ≡ back_bounds m rows centre
      radius n (i + 1)
  back_value centre radius =
      bound_is m (replicate (n - i) (pos 1)) (drop i rows) height weight slopes h centre radius
      ∙ back_is m rows centre radius i (n - i) n (omega (arith, len, high)) len
