-- The greatest of some numbers.
use Rattle.gap_proof.proofs.Common.{◌≡◌, ℕ, zero, suc, ◌≤◌, ℤ, ◌≤ℤ◌, inl, inr, subst, arith, ints, clamps, cases_lt}
use Rattle.gap_proof.proofs.Common.{greatest}

-- each of them is at most that
pub at_most_greatest : (n : ℕ) (f : ℕ → ℤ) (i : ℕ) → i ≤ n → f i ≤ℤ greatest n f
at_most_greatest zero f i h = let e : 0 ≡ i = omega (arith, h) in subst (λ (j : ℕ). f j ≤ℤ f 0) e (omega (arith, ints))
at_most_greatest (suc n) f i h =
    elim (cases_lt n i) [
      | inl late ↦ let e : suc n ≡ i = omega (arith, h, late) in
          subst (λ (j : ℕ). f j ≤ℤ greatest (suc n) f) e (omega (arith, ints, clamps))
      | inr low ↦ let below = at_most_greatest n f i low in omega (arith, ints, clamps, below)
    ]

-- what none of them is above isn't below it
pub greatest_at_most : (n : ℕ) (f : ℕ → ℤ) (most : ℤ) → ((i : ℕ) → i ≤ n → f i ≤ℤ most) → greatest n f ≤ℤ most
greatest_at_most zero f most h = h 0 (omega arith)
greatest_at_most (suc n) f most h =
    let below = greatest_at_most n f most (λ i low. h i (omega (arith, low))) in
    let last = h (suc n) (omega arith) in
    omega (arith, ints, clamps, below, last)
