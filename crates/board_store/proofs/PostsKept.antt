-- What is read off posts stays where posts are added: rows, prices, and what is open.
use Rattle.board_store.proofs.Common.{◌≡◌, ℕ, zero, suc, ◌-◌, ◌<◌, ◌≤◌, true, inl, inr, Option, Some, List, [], ◌∷◌}
use Rattle.board_store.proofs.Common.{◌++◌, length, take, get_or, refl, sym, ap, ◌∙◌, subst, arith, length-append}
use Rattle.board_store.proofs.Common.{cases_lt, take-append-le, prefix_len-le-length, prefix_len_passes}
use Rattle.board_store.proofs.Common.{option_map_or, is_some, not, Extends, Rules, Posts, is_closed, answer_at}
use Rattle.board_store.proofs.Common.{answers, with_row, rows_by, prices_by, row_by, rows_to, prices_at, closed_front}
use Rattle.board_store.proofs.Common.{rows_of, free_front, opened}
use Rattle.std.proofs.Math.Seq.{get_or-append_seam}
use Rattle.board_store.proofs.Fronts.{all_in_range, range_passes, map_range_same, some_of, prefix_most, front_le}
use Rattle.board_store.proofs.Fronts.{front_passes, front_most}

pub take_nil : {X : Type 0} (n : ℕ) → take {A = X} n [] ≡ []
take_nil zero = refl
take_nil (suc n) = refl

pub take_all : {X : Type 0} (xs : List X) (n : ℕ) → length xs ≡ n → take n xs ≡ xs
take_all [] n h = take_nil n
take_all (x ∷ xs) zero h = absurd (omega (arith, h))
take_all {X} (x ∷ xs) (suc n) h = ap (λ (ys : List X). x ∷ ys) (take_all xs n (omega (arith, h)))

module _ {P R A : Type 0} (g : Rules P R A) where
  pub post_of : (p : Posts A) (n u : ℕ) → is_closed g p n ≡ true → u < g.units → (x : ℕ × A) × (p n u ≡ Some x)
  post_of p n u closed unit =
      some_of (p n u) (all_in_range (λ v. is_some (p n v)) 0 g.units u closed (omega arith) (omega (arith, unit)))

  -- ---- rows

  module _ (make : P → ℕ → R) where
    pub rows_by_length : (n : ℕ) → length (rows_by g make n) ≡ n
    rows_by_length zero = refl
    rows_by_length (suc n) =
        omega (
          arith,
          rows_by_length n,
          length-append (rows_by g make n)
              (make (g.price (take (suc n - g.ahead) (rows_by g make n)) (suc n)) (suc n) ∷ []),
        )

    pub rows_by_take : (n k : ℕ) → k ≤ n → take k (rows_by g make n) ≡ rows_by g make k
    rows_by_take zero k h = let e : 0 ≡ k = omega (arith, h) in
        subst (λ (j : ℕ). take {A = R} j [] ≡ rows_by g make j) e refl
    rows_by_take (suc n) k h =
        elim (cases_lt n k) [
          | inl above ↦ let e : suc n ≡ k = omega (arith, above, h) in
              subst (λ (j : ℕ). take j (rows_by g make (suc n)) ≡ rows_by g make j) e
              (take_all (rows_by g make (suc n)) (suc n) (rows_by_length (suc n)))
          | inr below ↦ take-append-le k (rows_by g make n) _ (omega (arith, below, rows_by_length n)) ∙
              rows_by_take n k below
        ]

    -- one more row, at the prices of its proposal
    pub rows_by_more : 1 ≤ g.ahead → (n : ℕ) →
        rows_by g make (suc n) ≡ rows_by g make n ++ make (prices_by g make (suc n)) (suc n) ∷ []
    rows_by_more ahead n =
        ap (λ (before : List R). rows_by g make n ++ make (g.price before (suc n)) (suc n) ∷ [])
        (rows_by_take n (suc n - g.ahead) (omega (arith, ahead)))

  -- rows that are made alike up to n
  pub rows_by_same : (make make2 : P → ℕ → R) (n : ℕ) → ((k : ℕ) (π : P) → k < n → make π (suc k) ≡ make2 π (suc k)) →
      rows_by g make n ≡ rows_by g make2 n
  rows_by_same make make2 zero each = refl
  rows_by_same make make2 (suc n) each =
      ap (with_row g make n) (rows_by_same make make2 n (λ k π h. each k π (omega (arith, h))))
      ∙ ap (λ (r : R). rows_by g make2 n ++ r ∷ []) (each n _ (omega arith))

  pub rows_length : (p : Posts A) (n : ℕ) → length (rows_to g p n) ≡ n
  rows_length p n = rows_by_length (row_by g p) n

  pub rows_take : (p : Posts A) (n k : ℕ) → k ≤ n → take k (rows_to g p n) ≡ rows_to g p k
  rows_take p n k h = rows_by_take (row_by g p) n k h

  pub rows_more : 1 ≤ g.ahead → (p : Posts A) (n : ℕ) →
      rows_to g p (suc n) ≡ rows_to g p n ++ g.row (prices_at g p (suc n)) (answers g p (suc n)) ∷ []
  rows_more ahead p n = rows_by_more (row_by g p) ahead n

  get_or-take_suc : {X : Type 0} (xs : List X) (k : ℕ) (d : X) → get_or (take (suc k) xs) k d ≡ get_or xs k d
  get_or-take_suc [] k d = refl
  get_or-take_suc (x ∷ xs) zero d = refl
  get_or-take_suc (x ∷ xs) (suc k) d = get_or-take_suc xs k d

  pub row_at : 1 ≤ g.ahead → (p : Posts A) (n k : ℕ) (d : R) → k < n →
      get_or (rows_to g p n) k d ≡ g.row (prices_at g p (suc k)) (answers g p (suc k))
  row_at ahead p n k d h =
      let r = g.row (prices_at g p (suc k)) (answers g p (suc k)) in
      let whole : take (suc k) (rows_to g p n) ≡ rows_to g p k ++ r ∷ [] =
      rows_take p n (suc k) (omega (arith, h)) ∙ rows_more ahead p k in
      let last : get_or (rows_to g p k ++ r ∷ []) k d ≡ r =
      subst (λ (j : ℕ). get_or (rows_to g p k ++ r ∷ []) j d ≡ r) (rows_length p k)
      (get_or-append_seam (rows_to g p k) r [] d) in
      sym (get_or-take_suc (rows_to g p n) k d) ∙ ap (λ (xs : List R). get_or xs k d) whole ∙ last

  -- ---- what stays

  pub closed_kept : (p q : Posts A) (n : ℕ) → Extends p q → is_closed g p n ≡ true → is_closed g q n ≡ true
  closed_kept p q n more closed =
      range_passes (λ u. is_some (q n u)) 0 g.units (λ u low high.
      let x = post_of p n u closed (omega (arith, high)) in
      ap is_some (more n u x.0 x.1))

  pub answers_kept : (p q : Posts A) (n : ℕ) → Extends p q → is_closed g p n ≡ true → answers g q n ≡ answers g p n
  answers_kept p q n more closed =
      map_range_same (answer_at g q n) (answer_at g p n) 0 g.units (λ u low high.
      let x = post_of p n u closed (omega (arith, high)) in
      ap (λ (o : Option (ℕ × A)). option_map_or (λ (y : ℕ × A). y.1) o g.missing) (more n u x.0 x.1 ∙ sym x.1))

  pub rows_kept : (p q : Posts A) (n : ℕ) → Extends p q → ((k : ℕ) → k < n → is_closed g p (suc k) ≡ true) →
      rows_to g q n ≡ rows_to g p n
  rows_kept p q n more closed =
      rows_by_same (row_by g q) (row_by g p) n (λ k π h. ap (g.row π) (answers_kept p q (suc k) more (closed k h)))

  pub front_closed : (p : Posts A) (k : ℕ) → k < closed_front g p → is_closed g p (suc k) ≡ true
  front_closed p k h = front_passes (is_closed g p) g.budget k h

  pub rows_kept_to : (p q : Posts A) (n : ℕ) → Extends p q → n ≤ closed_front g p → rows_to g q n ≡ rows_to g p n
  rows_kept_to p q n more within = rows_kept p q n more (λ k h. front_closed p k (omega (arith, h, within)))

  pub front_kept : (p q : Posts A) → Extends p q → closed_front g p ≤ closed_front g q
  front_kept p q more =
      front_most (is_closed g q) g.budget (closed_front g p) (front_le (is_closed g p) g.budget)
      (λ k h. closed_kept p q (suc k) more (front_closed p k h))

  pub free_le : (p : Posts A) → free_front g p ≤ closed_front g p
  free_le p =
      omega (arith, prefix_len-le-length (λ (r : R). not (g.settled r)) (rows_of g p), rows_length p (closed_front g p))

  pub get_or_take_of : {X : Type 0} (xs : List X) (n k : ℕ) (d : X) → k < n → get_or (take n xs) k d ≡ get_or xs k d
  get_or_take_of [] zero k d h = refl
  get_or_take_of [] (suc n) k d h = refl
  get_or_take_of (x ∷ xs) zero k d h = absurd (omega (arith, h))
  get_or_take_of (x ∷ xs) (suc n) zero d h = refl
  get_or_take_of (x ∷ xs) (suc n) (suc k) d h = get_or_take_of xs n k d (omega (arith, h))

  -- the rows of fewer posts are the front of those of more
  pub rows_front : (p q : Posts A) → Extends p q → take (closed_front g p) (rows_of g q) ≡ rows_of g p
  rows_front p q more = rows_take q (closed_front g q) (closed_front g p) (front_kept p q more) ∙
      rows_kept_to p q (closed_front g p) more (omega arith)

  pub free_kept : R → (p q : Posts A) → Extends p q → free_front g p ≤ free_front g q
  free_kept d p q more =
      prefix_most (λ (r : R). not (g.settled r)) (rows_of g q) (free_front g p) d
      (omega (arith, free_le p, front_kept p q more, rows_length q (closed_front g q)))
      (λ k h.
      let same : get_or (rows_of g q) k d ≡ get_or (rows_of g p) k d =
      sym (get_or_take_of (rows_of g q) (closed_front g p) k d (omega (arith, h, free_le p))) ∙
      ap (λ (xs : List R). get_or xs k d) (rows_front p q more) in
      subst (λ (r : R). not (g.settled r) ≡ true) (sym same)
      (prefix_len_passes (λ (r : R). not (g.settled r)) (rows_of g p) k d h))

  pub opened_kept : R → (p q : Posts A) → Extends p q → opened g p ≤ opened g q
  opened_kept d p q more = let e = free_kept d p q more in omega (arith, e)

  pub prices_kept : (p q : Posts A) (n : ℕ) → Extends p q → n ≤ opened g p → prices_at g q n ≡ prices_at g p n
  prices_kept p q n more within =
      let low : n - g.ahead ≤ closed_front g p = omega (arith, within, free_le p) in
      ap (λ (before : List R). g.price before n) (rows_kept_to p q (n - g.ahead) more low)
