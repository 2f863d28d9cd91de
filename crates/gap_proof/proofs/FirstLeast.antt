-- The first of the candidates with the least bound.
use Rattle.gap_proof.proofs.Common.{◌≡◌, true, false, int_lt, ℕ, zero, suc, ◌+◌, ◌<◌, ◌≤◌, Some, ℤ, ◌≤ℤ◌, ◌<ℤ◌, List}
use Rattle.gap_proof.proofs.Common.{map, length, refl, sym, ap, subst, ◌∙◌, arith, ints, length-map-range_with_len}
use Rattle.gap_proof.proofs.Common.{get_or-map-range_with_len, get_or_from_slice_get, slice_get_within}
use Rattle.gap_proof.proofs.Common.{slice_get-get_or, range_with_len, slice_get, PriceLists, Market, Proposal, RowRange}
use Rattle.gap_proof.proofs.Common.{candidates, range_bound, prices_of_row, IsFirstLeast}
use Rattle.gap_proof.proofs.RangeLaws.{same_item}

-- what a test of two bounds says
pub less_from_test : (a b : ℤ) → int_lt a b ≡ true → a <ℤ b
less_from_test a b h = grind (arith, ints)

pub least_from_test : (a b : ℤ) → int_lt a b ≡ false → b ≤ℤ a
least_from_test a b h = grind (arith, ints)

abbrev back_range : ℕ → ℕ → RowRange
back_range n j = record { first = j; last = n }

pub back_item : (n k : ℕ) (other : RowRange) → slice_get (map (back_range n) (range_with_len 1 n)) k ≡ Some other →
    (k < n) × (back_range n (1 + k) ≡ other)
back_item n k other e =
    let within = slice_get_within (map (back_range n) (range_with_len 1 n)) k other e in
    let count = length-map-range_with_len (back_range n) 1 n in
    let lt : k < n = omega (arith, within, count) in (
      lt,
      sym (get_or-map-range_with_len (back_range n) 1 n k (1 + k) other lt refl) ∙
          get_or_from_slice_get (map (back_range n) (range_with_len 1 n)) k other other e,
    )

item_is : (n k : ℕ) → k < n → slice_get (map (back_range n) (range_with_len 1 n)) k ≡ Some (back_range n (1 + k))
item_is n k lt =
    let count = length-map-range_with_len (back_range n) 1 n in
    slice_get-get_or (map (back_range n) (range_with_len 1 n)) k (back_range n 0) (omega (arith, lt, count))
    ∙ ap Some (get_or-map-range_with_len (back_range n) 1 n k (1 + k) (back_range n 0) lt refl)

module _ (m : Market) (rows : List Proposal) (centre : ℕ) (radius : ℤ) where
  abbrev bound_by : RowRange → ℤ
  bound_by range = range_bound m rows (prices_of_row rows centre) radius range

  least_at : (bound other : ℤ) → bound ≡ bound_by (record { first = centre; last = centre }) →
      ((j : ℕ) → 1 ≤ j → j ≤ length rows → other ≤ℤ bound_by (record { first = j; last = length rows })) →
      bound ≤ℤ other →
      (k : ℕ) (range : RowRange) → slice_get (candidates (length rows) centre) k ≡ Some range → bound ≤ℤ bound_by range
  least_at bound other is least low zero range e =
      let same = ap bound_by (same_item (record { first = centre; last = centre }) range e) in
      omega (arith, ints, is, same)
  least_at bound other is least low (suc k) range e =
      let item = back_item (length rows) k range e in
      let within = item.0 in
      let known = least (1 + k) (omega arith) (omega (arith, within)) in
      let same = ap bound_by item.1 in
      omega (arith, ints, known, same, low)

  -- the centre alone, where no other is better
  pub centre_is_first : (bound other : ℤ) → bound ≡ bound_by (record { first = centre; last = centre }) →
      ((j : ℕ) → 1 ≤ j → j ≤ length rows → other ≤ℤ bound_by (record { first = j; last = length rows })) →
      bound ≤ℤ other →
      IsFirstLeast m rows centre radius (record { first = centre; last = centre }) bound
  centre_is_first bound other is least low = record {
    index = 0;
    is = refl;
    bound_is = is;
    least = least_at bound other is least low;
    earlier = λ k range lt e. absurd (omega (arith, lt));
  }

  place_is : (first : ℕ) → 1 ≤ first → first ≤ length rows →
      slice_get (candidates (length rows) centre) first ≡ Some (record { first = first; last = length rows })
  place_is zero low high = absurd (omega (arith, low))
  place_is (suc k) low high =
      let one : 1 + k ≡ suc k = omega arith in
      item_is (length rows) k (omega (arith, high)) ∙ ap (λ (j : ℕ). Some (back_range (length rows) j)) one

  back_least : (bound alone : ℤ) → alone ≡ bound_by (record { first = centre; last = centre }) →
      ((j : ℕ) → 1 ≤ j → j ≤ length rows → bound ≤ℤ bound_by (record { first = j; last = length rows })) →
      bound <ℤ alone →
      (k : ℕ) (range : RowRange) → slice_get (candidates (length rows) centre) k ≡ Some range → bound ≤ℤ bound_by range
  back_least bound alone there least better zero range e =
      let same = ap bound_by (same_item (record { first = centre; last = centre }) range e) in
      omega (arith, ints, there, same, better)
  back_least bound alone there least better (suc k) range e =
      let item = back_item (length rows) k range e in
      let within = item.0 in
      let known = least (1 + k) (omega arith) (omega (arith, within)) in
      let same = ap bound_by item.1 in
      omega (arith, ints, known, same)

  back_earlier : (first : ℕ) (bound alone : ℤ) → alone ≡ bound_by (record { first = centre; last = centre }) →
      ((j : ℕ) → 1 ≤ j → j < first → bound <ℤ bound_by (record { first = j; last = length rows })) → bound <ℤ alone →
      first ≤ length rows →
      (k : ℕ) (range : RowRange) → k < first → slice_get (candidates (length rows) centre) k ≡ Some range →
      bound <ℤ bound_by range
  back_earlier first bound alone there earlier better high zero range lt e =
      let same = ap bound_by (same_item (record { first = centre; last = centre }) range e) in
      omega (arith, ints, there, same, better)
  back_earlier first bound alone there earlier better high (suc k) range lt e =
      let item = back_item (length rows) k range e in
      let known = earlier (1 + k) (omega arith) (omega (arith, lt)) in
      let same = ap bound_by item.1 in
      omega (arith, ints, known, same)

  -- the best of the others, where it is better than the centre alone
  pub back_is_first : (first : ℕ) (bound alone : ℤ) → alone ≡ bound_by (record { first = centre; last = centre }) →
      1 ≤ first → first ≤ length rows →
      bound ≡ bound_by (record { first = first; last = length rows }) →
      ((j : ℕ) → 1 ≤ j → j ≤ length rows → bound ≤ℤ bound_by (record { first = j; last = length rows })) →
      ((j : ℕ) → 1 ≤ j → j < first → bound <ℤ bound_by (record { first = j; last = length rows })) → bound <ℤ alone →
      IsFirstLeast m rows centre radius (record { first = first; last = length rows }) bound
  back_is_first first bound alone there low high is least earlier better = record {
    index = first;
    is = place_is first low high;
    bound_is = is;
    least = back_least bound alone there least better;
    earlier = back_earlier first bound alone there earlier better high;
  }

  -- the same facts, where the centre's prices and the number of rows go by other names
  moved : (π : PriceLists) (n : ℕ) → π ≡ prices_of_row rows centre → length rows ≡ n → (j : ℕ) →
      range_bound m rows π radius (record { first = j; last = n }) ≡ bound_by (record { first = j; last = length rows })
  moved π n prices len j =
      ap (λ (ρ : PriceLists). range_bound m rows ρ radius (record { first = j; last = n })) prices
      ∙ ap (λ (l : ℕ). bound_by (record { first = j; last = l })) (sym len)

  pub back_chosen : (π : PriceLists) (n : ℕ) → π ≡ prices_of_row rows centre → length rows ≡ n →
      (first last : ℕ) (bound alone : ℤ) → alone ≡ bound_by (record { first = centre; last = centre }) → 1 ≤ first →
      first ≤ n → last ≡ n →
      bound ≡ range_bound m rows π radius (record { first = first; last = n }) →
      ((j : ℕ) → 1 ≤ j → j ≤ n → bound ≤ℤ range_bound m rows π radius (record { first = j; last = n })) →
      ((j : ℕ) → 1 ≤ j → j < first → bound <ℤ range_bound m rows π radius (record { first = j; last = n })) →
      bound <ℤ alone →
      IsFirstLeast m rows centre radius (record { first = first; last = last }) bound
  back_chosen π n prices len first last bound alone there low high end is least earlier better =
      subst (λ (l : ℕ). IsFirstLeast m rows centre radius (record { first = first; last = l }) bound) (len ∙ sym end)
      (back_is_first first bound alone there low (omega (arith, high, len)) (is ∙ moved π n prices len first)
      (λ j l h. subst (λ (z : ℤ). bound ≤ℤ z) (moved π n prices len j) (least j l (omega (arith, h, len))))
      (λ j l h. subst (λ (z : ℤ). bound <ℤ z) (moved π n prices len j) (earlier j l h)) better)

  pub centre_chosen : (π : PriceLists) (n : ℕ) → π ≡ prices_of_row rows centre → length rows ≡ n →
      (first last : ℕ) (bound other : ℤ) → first ≡ centre → last ≡ centre →
      bound ≡ bound_by (record { first = centre; last = centre }) →
      ((j : ℕ) → 1 ≤ j → j ≤ n → other ≤ℤ range_bound m rows π radius (record { first = j; last = n })) →
      bound ≤ℤ other →
      IsFirstLeast m rows centre radius (record { first = first; last = last }) bound
  centre_chosen π n prices len first last bound other start end is least low =
      subst (λ (l : ℕ). IsFirstLeast m rows centre radius (record { first = first; last = l }) bound) (sym end)
      (subst (λ (f : ℕ). IsFirstLeast m rows centre radius (record { first = f; last = centre }) bound) (sym start)
      (centre_is_first bound other is
      (λ j l h. subst (λ (z : ℤ). other ≤ℤ z) (moved π n prices len j) (least j l (omega (arith, h, len)))) low))
