-- Sums in a list, as they run while a number is added at each place.
use Rattle.gap_proof.proofs.Common.{Some, ◌≡◌, ℕ, ◌+◌, ◌<◌, ◌≤◌, ◌≢◌, ℤ, pos, ◌+ℤ◌, List, length, set, refl, sym, ap}
use Rattle.gap_proof.proofs.Common.{◌∙◌, arith, below_more, get_or-set_other, get_or-set_same, length-set}
use Rattle.gap_proof.proofs.Common.{get_or_from_slice_get, slice_get, int_at}

-- at the places below i the numbers are added, and not yet behind them
pub record IsAddedUpTo (old now : List ℤ) (g : ℕ → ℤ) (i : ℕ) : Type 0 where
  pub same_length : length now ≡ length old
  pub added : (j : ℕ) → j < i → int_at now j ≡ int_at old j +ℤ g j
  pub waiting : (j : ℕ) → i ≤ j → int_at now j ≡ int_at old j

pub added_none : (old : List ℤ) (g : ℕ → ℤ) → IsAddedUpTo old old g 0
added_none old g = record { same_length = refl; added = λ j h. absurd (omega (arith, h)); waiting = λ j h. refl }

pub added_more : (old now next : List ℤ) (g : ℕ → ℤ) (i : ℕ) (v : ℤ) → IsAddedUpTo old now g i → i < length now →
    next ≡ set now i v → v ≡ int_at old i +ℤ g i → IsAddedUpTo old next g (i + 1)
added_more old now next g i v h lt is value = record {
  same_length = ap length is ∙ length-set now i v ∙ h.same_length;
  added = below_more (λ j. int_at next j ≡ int_at old j +ℤ g j) i
      (λ j l. let ne : j ≢ i = omega (arith, l) in
      ap (λ (xs : List ℤ). int_at xs j) is ∙ get_or-set_other now i j v (pos 0) ne ∙ h.added j l)
      (ap (λ (xs : List ℤ). int_at xs i) is ∙ get_or-set_same now i v (pos 0) lt ∙ value);
  waiting = λ j l. let ne : j ≢ i = omega (arith, l) in
      ap (λ (xs : List ℤ). int_at xs j) is ∙ get_or-set_other now i j v (pos 0) ne ∙ h.waiting j (omega (arith, l));
}

pub before_turn : (old now : List ℤ) (g : ℕ → ℤ) (i : ℕ) (x : ℤ) → IsAddedUpTo old now g i → slice_get now i ≡ Some x →
    x ≡ int_at old i
before_turn old now g i x h e = sym (get_or_from_slice_get now i x (pos 0) e) ∙ h.waiting i (omega arith)
