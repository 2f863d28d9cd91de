-- Sums from a place to a place.
use Rattle.unit_table.proofs.Common.{◌≡◌, ℕ, suc, ◌+◌, ◌-◌, ◌≤◌, ℤ, pos, ◌+ℤ◌, ap, ◌∙◌, arith, ints, sum_below}
use Rattle.unit_table.proofs.Common.{sum_from_to}

module _ (f : ℕ → ℤ) where
  pub sum_from_to-none : (first : ℕ) → sum_from_to f (suc first) first ≡ pos 0
  sum_from_to-none first = let e : suc first - suc first ≡ 0 = omega arith in ap
      (λ n. sum_below n (λ k. f (suc first + k))) e

  pub sum_from_to-more : (first last : ℕ) → first ≤ suc last →
      sum_from_to f first (suc last) ≡ sum_from_to f first last +ℤ f (suc last)
  sum_from_to-more first last order =
      let e : suc (suc last) - first ≡ suc (suc last - first) = omega arith in
      let index : first + (suc last - first) ≡ suc last = omega arith in
      ap (λ n. sum_below n (λ k. f (first + k))) e ∙ ap (λ k. sum_below (suc last - first) (λ k. f (first + k)) +ℤ f k)
      index

  pub sum_from_to-one : (first : ℕ) → sum_from_to f first first ≡ f first
  sum_from_to-one first =
      let e : suc first - first ≡ suc 0 = omega arith in
      let index : first + 0 ≡ first = omega arith in
      let one = ap (λ n. sum_below n (λ k. f (first + k))) e in
      let there = ap f index in
      omega (arith, ints)
