-- Tests over ranges, and how far from the front on a test passes.
use Rattle.board_store.proofs.Common.{◌≡◌, ℕ, zero, suc, ◌+◌, ◌<◌, ◌≤◌, Bool, true, false, ◌&&◌, inl, inr, Option}
use Rattle.board_store.proofs.Common.{Some, None, List, ◌∷◌, length, map, get_or, refl, sym, ap, ◌∙◌, subst, arith}
use Rattle.board_store.proofs.Common.{false≢true, cases_lt, length-range_with_len, get_or-range_with_len}
use Rattle.board_store.proofs.Common.{prefix_len-le-length, prefix_len_passes, prefix_len_stops, list_all, prefix_len}
use Rattle.board_store.proofs.Common.{range_with_len, is_some}

pub and_left : (a b : Bool) → (a && b) ≡ true → a ≡ true
and_left true b h = refl
and_left false b h = h

pub and_right : (a b : Bool) → (a && b) ≡ true → b ≡ true
and_right true b h = h
and_right false b h = absurd (false≢true h)

pub and_both : (a b : Bool) → a ≡ true → b ≡ true → (a && b) ≡ true
and_both true b h i = i
and_both false b h i = h

pub all_in_range : (t : ℕ → Bool) (a n k : ℕ) → list_all t (range_with_len a n) ≡ true → a ≤ k → k < a + n → t k ≡ true
all_in_range t a zero k h low high = absurd (omega (arith, low, high))
all_in_range t a (suc n) k h low high =
    elim (cases_lt a k) [
      | inl above ↦ all_in_range t (a + 1) n k (and_right (t a) _ h) (omega (arith, above)) (omega (arith, high))
      | inr below ↦ let same : a ≡ k = omega (arith, below, low) in
          subst (λ (z : ℕ). t z ≡ true) same (and_left (t a) _ h)
    ]

pub range_passes : (t : ℕ → Bool) (a n : ℕ) → ((k : ℕ) → a ≤ k → k < a + n → t k ≡ true) →
    list_all t (range_with_len a n) ≡ true
range_passes t a zero each = refl
range_passes t a (suc n) each =
    and_both (t a) _ (each a (omega arith) (omega arith))
    (range_passes t (a + 1) n (λ k low high. each k (omega (arith, low)) (omega (arith, high))))

pub map_range_same : {X : Type 0} (f f2 : ℕ → X) (a n : ℕ) → ((k : ℕ) → a ≤ k → k < a + n → f k ≡ f2 k) →
    map f (range_with_len a n) ≡ map f2 (range_with_len a n)
map_range_same f f2 a zero each = refl
map_range_same {X} f f2 a (suc n) each =
    ap (λ (x : X). x ∷ map f (range_with_len (a + 1) n)) (each a (omega arith) (omega arith))
    ∙ ap (λ (xs : List X). f2 a ∷ xs)
    (map_range_same f f2 (a + 1) n (λ k low high. each k (omega (arith, low)) (omega (arith, high))))

pub some_of : {X : Type 0} (o : Option X) → is_some o ≡ true → (x : X) × (o ≡ Some x)
some_of None h = absurd (false≢true h)
some_of (Some x) h = (x, refl)

-- ---- fronts of lists

pub prefix_most : {X : Type 0} (t : X → Bool) (xs : List X) (m : ℕ) (d : X) → m ≤ length xs →
    ((k : ℕ) → k < m → t (get_or xs k d) ≡ true) → m ≤ prefix_len t xs
prefix_most t xs m d within each =
    elim (cases_lt (prefix_len t xs) m) [
      | inl less ↦ absurd
          (false≢true (sym (prefix_len_stops t xs d (omega (arith, less, within))) ∙ each (prefix_len t xs) less))
      | inr more ↦ more
    ]

-- ---- fronts of the numbers from 1 on

abbrev pub front : (ℕ → Bool) → ℕ → ℕ
front t n = prefix_len t (range_with_len 1 n)

pub front_le : (t : ℕ → Bool) (n : ℕ) → front t n ≤ n
front_le t n = omega (arith, prefix_len-le-length t (range_with_len 1 n), length-range_with_len 1 n)

range_at : (n k : ℕ) → k < n → get_or (range_with_len 1 n) k 0 ≡ suc k
range_at n k h = get_or-range_with_len 1 n k 0 h ∙ (omega arith)

pub front_passes : (t : ℕ → Bool) (n k : ℕ) → k < front t n → t (suc k) ≡ true
front_passes t n k h =
    subst (λ (z : ℕ). t z ≡ true) (range_at n k (omega (arith, h, front_le t n)))
    (prefix_len_passes t (range_with_len 1 n) k 0 h)

pub front_stops : (t : ℕ → Bool) (n : ℕ) → front t n < n → t (suc (front t n)) ≡ false
front_stops t n h =
    subst (λ (z : ℕ). t z ≡ false) (range_at n (front t n) h)
    (prefix_len_stops t (range_with_len 1 n) 0 (omega (arith, h, length-range_with_len 1 n)))

pub front_most : (t : ℕ → Bool) (n m : ℕ) → m ≤ n → ((k : ℕ) → k < m → t (suc k) ≡ true) → m ≤ front t n
front_most t n m within each =
    elim (cases_lt (front t n) m) [
      | inl less ↦ absurd (false≢true (sym (front_stops t n (omega (arith, less, within))) ∙ each (front t n) less))
      | inr more ↦ more
    ]

-- what passes up to m and not there has the front m
pub front_is : (t : ℕ → Bool) (n m : ℕ) → m ≤ n → ((k : ℕ) → k < m → t (suc k) ≡ true) → (m < n → t (suc m) ≡ false) →
    m ≡ front t n
front_is t n m within each stops =
    let low = front_most t n m within each in
    elim (cases_lt m (front t n)) [
      | inl less ↦ absurd (false≢true (sym (stops (omega (arith, less, front_le t n))) ∙ front_passes t n m less))
      | inr more ↦ omega (arith, low, more)
    ]
