-- Two lists that weigh the same, however numbers are weighed, have the same numbers.
use Rattle.task_deal.proofs.Common.{◌≡◌, ℕ, zero, suc, ◌+◌, ◌-◌, ◌<◌, ◌⊎◌, inl, inr, List, [], ◌∷◌, ◌++◌, sym, refl, ap}
use Rattle.task_deal.proofs.Common.{subst, ⊎_elim, arith, IsPermutation, IsPermutation-refl, IsPermutation-cons}
use Rattle.task_deal.proofs.Common.{IsPermutation-middle, IsPermutation-sym, IsPermutation-trans, sum_of}
use Rattle.task_deal.proofs.Sums.{sum_of-append}

-- 1 at x, and 0 elsewhere
abbrev times : ℕ → ℕ → ℕ
times x y = 1 - ((x - y) + (y - x))

same_or_not : (x y : ℕ) → (x ≡ y) ⊎ (0 < (x - y) + (y - x))
same_or_not zero zero = inl refl
same_or_not zero (suc y) = inr (omega arith)
same_or_not (suc x) zero = inr (omega arith)
same_or_not (suc x) (suc y) =
    ⊎_elim (λ (e : x ≡ y). inl (ap suc e)) (λ (l : 0 < (x - y) + (y - x)). inr (omega (arith, l))) (same_or_not x y)

-- a list that has the number, taken apart there
split_at : (x : ℕ) (ys : List ℕ) → 0 < sum_of (times x) ys →
    (front : List ℕ) × (back : List ℕ) × (ys ≡ front ++ x ∷ back)
split_at x [] some = absurd (omega (arith, some))
split_at x (y ∷ ys) some = ⊎_elim
    (λ (e : x ≡ y). ([], ys, ap (λ k. k ∷ ys) (sym e)))
    (λ (l : 0 < (x - y) + (y - x)). let more = split_at x ys (omega (arith, some, l)) in
    (y ∷ more.0, more.1, ap (λ zs. y ∷ zs) more.2))
    (same_or_not x y)

-- what is left of two lists that weigh the same, without a number of both, weighs the same
left_over : (x : ℕ) (xs ys front back : List ℕ) → ys ≡ front ++ x ∷ back →
    ((h : ℕ → ℕ) → sum_of h (x ∷ xs) ≡ sum_of h ys) → (h : ℕ → ℕ) → sum_of h xs ≡ sum_of h (front ++ back)
left_over x xs ys front back e same h =
    omega (arith, same h, ap (sum_of h) e, sum_of-append h front (x ∷ back), sum_of-append h front back)

-- a number goes back into both
put_back : (x : ℕ) (xs ys front back : List ℕ) → ys ≡ front ++ x ∷ back → IsPermutation xs (front ++ back) →
    IsPermutation (x ∷ xs) ys
put_back x xs ys front back e order = subst (IsPermutation (x ∷ xs)) (sym e)
    (IsPermutation-trans (x ∷ xs) (x ∷ (front ++ back)) (front ++ x ∷ back)
    (IsPermutation-cons x xs (front ++ back) order)
    (IsPermutation-sym (front ++ x ∷ back) (x ∷ (front ++ back)) (IsPermutation-middle front x back)))

pub permutes : (xs ys : List ℕ) → ((h : ℕ → ℕ) → sum_of h xs ≡ sum_of h ys) → IsPermutation xs ys
permutes [] [] same = IsPermutation-refl []
permutes [] (y ∷ ys) same = absurd (omega (arith, same (λ _. 1)))
permutes (x ∷ xs) ys same =
    let parts = split_at x ys (omega (arith, same (times x))) in
    put_back x xs ys parts.0 parts.1 parts.2
    (permutes xs (parts.0 ++ parts.1) (left_over x xs ys parts.0 parts.1 parts.2 same))
