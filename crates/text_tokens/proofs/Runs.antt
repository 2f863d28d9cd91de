-- The longest run in front.
use Rattle.text_tokens.proofs.Common.{◌≡◌, ℕ, ◌<◌, Bool, true, false, List, [], ◌∷◌, length, get_or, refl, sym, ◌∙◌}
use Rattle.text_tokens.proofs.Common.{arith, ◌≤◌, prefix_len, prefix_len_is}

pub run_ends : (p : ℕ → Bool) (xs : List ℕ) (n : ℕ) → n < length xs → ((k : ℕ) → k < n → p (get_or xs k 0) ≡ true) →
    p (get_or xs n 0) ≡ false → n ≡ prefix_len p xs
run_ends p xs n lt before off = sym (prefix_len_is p xs n 0 (omega arith) before (λ _. off))

pub run_is_all : (p : ℕ → Bool) (xs : List ℕ) (n : ℕ) → length xs ≡ n → ((k : ℕ) → k < n → p (get_or xs k 0) ≡ true) →
    length xs ≡ prefix_len p xs
run_is_all p xs n is before = is ∙ sym (prefix_len_is p xs n 0 (omega arith) before (λ lt. absurd (omega arith)))

pub run_is_some : (p : ℕ → Bool) (xs : List ℕ) → 0 < length xs → p (get_or xs 0 0) ≡ true → 0 < prefix_len p xs
run_is_some p [] lt h = absurd (omega arith)
run_is_some p (x ∷ xs) lt h = rw h (omega arith)

within_more : (p : ℕ → Bool) (x : ℕ) (xs : List ℕ) (t : Bool) → p x ≡ t → prefix_len p xs ≤ length xs →
    prefix_len p (x ∷ xs) ≤ length (x ∷ xs)
within_more p x xs true e r = rw e (omega arith)
within_more p x xs false e r = rw e (omega arith)

pub run_within : (p : ℕ → Bool) (xs : List ℕ) → prefix_len p xs ≤ length xs
run_within p [] = omega arith
run_within p (x ∷ xs) = within_more p x xs (p x) refl (run_within p xs)
