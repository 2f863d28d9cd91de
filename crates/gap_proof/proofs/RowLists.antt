-- The rows and weights from a place on.
use Rattle.gap_proof.proofs.Common.{◌≡◌, ℕ, ◌+◌, ◌-◌, ◌<◌, ◌≤◌, Some, List, [], ◌∷◌, length, drop, sym, ap, subst, ◌∙◌}
use Rattle.gap_proof.proofs.Common.{arith, drop_more, drop_all, get_or_from_slice_get, All, option_map_or, slice_get}
use Rattle.gap_proof.proofs.Common.{Proposal, no_prices, prices_of_row}

module _ {X : Type 0} where
  pub drop_at : (xs : List X) (i : ℕ) (x : X) → 0 < i → i ≤ length xs → slice_get xs (i - 1) ≡ Some x →
      drop (i - 1) xs ≡ x ∷ drop i xs
  drop_at xs i x low lt e =
      let back : (i - 1) + 1 ≡ i = omega (arith, low) in
      drop_more xs (i - 1) x (omega (arith, low, lt)) ∙
      ap (λ (y : X). y ∷ drop ((i - 1) + 1) xs) (get_or_from_slice_get xs (i - 1) x x e) ∙
      ap (λ (n : ℕ). x ∷ drop n xs) back

  pub item_of : (P : X → Type 0) (xs : List X) (k : ℕ) (x : X) → All P xs → k < length xs → slice_get xs k ≡ Some x →
      P x
  item_of P xs k x h lt e = subst P (get_or_from_slice_get xs k x x e) (h k x lt)

  pub none_left : (xs : List X) (n : ℕ) → length xs ≡ n → drop n xs ≡ []
  none_left xs n e = drop_all n xs (omega (arith, e))

pub row_prices : (rows : List Proposal) (centre : ℕ) (r : Proposal) → slice_get rows (centre - 1) ≡ Some r →
    r.prices ≡ prices_of_row rows centre
row_prices rows centre r e = sym (ap (λ o. option_map_or (λ (p : Proposal). p.prices) o no_prices) e)
