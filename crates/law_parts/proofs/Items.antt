-- Facts of each item of a list, and of two lists item by item.
use Rattle.law_parts.proofs.Common.{ℕ, suc, List, [], ◌∷◌, ◌++◌, map, AllByRecursion, AllZip, slice_index}

module _ {A : Type 0} where
  -- ---- one list

  pub weaker : (P Q : A → Type 0) → ((x : A) → P x → Q x) → (xs : List A) → AllByRecursion P xs → AllByRecursion Q xs
  weaker P Q so [] h = tt
  weaker P Q so (x ∷ xs) h = (so x h.0, weaker P Q so xs h.1)

  pub front : (P : A → Type 0) (xs ys : List A) → AllByRecursion P (xs ++ ys) → AllByRecursion P xs
  front P [] ys h = tt
  front P (x ∷ xs) ys h = (h.0, front P xs ys h.1)

  pub back : (P : A → Type 0) (xs ys : List A) → AllByRecursion P (xs ++ ys) → AllByRecursion P ys
  back P [] ys h = h
  back P (x ∷ xs) ys h = back P xs ys h.1

  pub of_map : {B : Type 0} (P : B → Type 0) (f : A → B) (xs : List A) → AllByRecursion P (map f xs) →
      AllByRecursion (λ (x : A). P (f x)) xs
  of_map P f [] h = tt
  of_map P f (x ∷ xs) h = (h.0, of_map P f xs h.1)

  pub both : (P Q R : A → Type 0) → ((x : A) → P x → Q x → R x) → (xs : List A) → AllByRecursion P xs →
      AllByRecursion Q xs → AllByRecursion R xs
  both P Q R so [] h i = tt
  both P Q R so (x ∷ xs) h i = (so x h.0 i.0, both P Q R so xs h.1 i.1)

-- ---- two lists, item by item

module _ {A B : Type 0} where
  pub zip_weaker : (R S : A → B → Type 0) (P : A → Type 0) → ((a : A) (b : B) → P a → R a b → S a b) →
      (xs : List A) (ys : List B) → AllByRecursion P xs → AllZip R xs ys → AllZip S xs ys
  zip_weaker R S P so [] [] h i = tt
  zip_weaker R S P so [] (y ∷ ys) h i = absurd i
  zip_weaker R S P so (x ∷ xs) [] h i = absurd i
  zip_weaker R S P so (x ∷ xs) (y ∷ ys) h i = (so x y h.0 i.0, zip_weaker R S P so xs ys h.1 i.1)

  -- what an item of the left list tells of its item of the right one
  pub zip_right : (R : A → B → Type 0) (P : A → Type 0) (Q : B → Type 0) → ((a : A) (b : B) → P a → R a b → Q b) →
      (xs : List A) (ys : List B) → AllByRecursion P xs → AllZip R xs ys → AllByRecursion Q ys
  zip_right R P Q so [] [] h i = tt
  zip_right R P Q so [] (y ∷ ys) h i = absurd i
  zip_right R P Q so (x ∷ xs) [] h i = absurd i
  zip_right R P Q so (x ∷ xs) (y ∷ ys) h i = (so x y h.0 i.0, zip_right R P Q so xs ys h.1 i.1)

-- ---- numbers by their places

pub counts_by_place : (P : ℕ → Type 0) (xs : List ℕ) → ((k : ℕ) → P (slice_index xs k)) → AllByRecursion P xs
counts_by_place P [] h = tt
counts_by_place P (x ∷ xs) h = (h 0, counts_by_place P xs (λ k. h (suc k)))
