-- A loop that pushes what a function gives at each place.
use Rattle.case_make.proofs.Common.{◌≡◌, ℕ, ◌+◌, List, [], ◌∷◌, ◌++◌, map, refl, ap, sym, ◌∙◌, append_assoc, arith}
use Rattle.case_make.proofs.Common.{map-range_with_len_more, map_push, range_with_len, ◌<◌, ◌≤◌, ℤ, pos, ◌+ℤ◌, length}
use Rattle.std.proofs.Common.{set, below_more}
use Rattle.std.proofs.lemmas.List.{get_or-set_same, get_or-set_other}
use Rattle.plain_lists.specs.Sums.{int_at}

module _ {X : Type 0} (f : ℕ → X) (k : ℕ) where
  pub pushed : (xs ys : List X) (x : X) → ys ≡ xs ++ x ∷ [] → xs ≡ map f (range_with_len 0 k) → x ≡ f k →
      ys ≡ map f (range_with_len 0 (k + 1))
  pushed xs ys x more so_far is =
      more ∙ ap (λ (zs : List X). zs ++ x ∷ []) so_far ∙ ap (λ (z : X). map f (range_with_len 0 k) ++ z ∷ []) is
      ∙ sym (map-range_with_len_more f 0 k k (omega arith))

  pub whole : (n : ℕ) (xs : List X) → xs ≡ map f (range_with_len 0 k) → k ≡ n → xs ≡ map f (range_with_len 0 n)
  whole n xs so_far all_ = so_far ∙ ap (λ (m : ℕ). map f (range_with_len 0 m)) all_

-- the same for what a view shows of the items
pub viewed : {X Y : Type 0} → (view : Y → X) (f : ℕ → X) (k : ℕ) (xs ys : List Y) (x : Y) → ys ≡ xs ++ x ∷ [] →
    map view xs ≡ map f (range_with_len 0 k) → view x ≡ f k →
    map view ys ≡ map f (range_with_len 0 (k + 1))
viewed view f k xs ys x more so_far is =
    pushed f k (map view xs) (map view ys) (view x) (ap (map view) more ∙ map_push view xs x) so_far is

-- the same behind what was there before
pub pushed_after : {X : Type 0} → (f : ℕ → X) (k : ℕ) (before xs ys : List X) (x : X) → ys ≡ xs ++ x ∷ [] →
    xs ≡ before ++ map f (range_with_len 0 k) → x ≡ f k →
    ys ≡ before ++ map f (range_with_len 0 (k + 1))
pushed_after {X} f k before xs ys x more so_far is =
    let made : List X = map f (range_with_len 0 k) in
    more ∙ ap (λ (zs : List X). zs ++ x ∷ []) so_far ∙ append_assoc before made (x ∷ [])
    ∙ ap (λ (zs : List X). before ++ zs) (pushed f k made (made ++ x ∷ []) x refl refl is)

-- a loop that adds to one number after another: those up to k are added to, and the rest is as it was
pub added_more : (old now next : List ℤ) (more : ℕ → ℤ) (k : ℕ) (x : ℤ) → next ≡ set now k x → k < length now →
    x ≡ int_at old k +ℤ more k → ((j : ℕ) → j < k → int_at now j ≡ int_at old j +ℤ more j) → (j : ℕ) → j < k + 1 →
    int_at next j ≡ int_at old j +ℤ more j
added_more old now next more k x e inside is done =
    below_more (λ j. int_at next j ≡ int_at old j +ℤ more j) k
    (λ j lt. ap (λ (l : List ℤ). int_at l j) e ∙
    (get_or-set_other now k j x (pos 0) (λ q. omega (arith, q, lt)) ∙ done j lt))
    (ap (λ (l : List ℤ). int_at l k) e ∙ (get_or-set_same now k x (pos 0) inside ∙ is))

pub left_more : (old now next : List ℤ) (k : ℕ) (x : ℤ) → next ≡ set now k x →
    ((j : ℕ) → k ≤ j → int_at now j ≡ int_at old j) → (j : ℕ) → k + 1 ≤ j → int_at next j ≡ int_at old j
left_more old now next k x e rest j le = ap (λ (l : List ℤ). int_at l j) e ∙
    (get_or-set_other now k j x (pos 0) (λ q. omega (arith, q, le)) ∙ rest j (omega (arith, le)))
