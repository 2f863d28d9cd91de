-- Two lists, place by place, and lists the other way round.
use Rattle.task_deal.proofs.Common.{◌≡◌, ℕ, zero, suc, ◌+◌, ◌<◌, ◌≤◌, List, [], ◌∷◌, ◌++◌, length, slice_index_or, refl}
use Rattle.task_deal.proofs.Common.{arith, All, AllZip, All-cons, All-head, All-tail, All-push, AllZip-push, backwards}
use Rattle.task_deal.proofs.Common.{sum_of}
use Rattle.std.proofs.lemmas.List.{length_push}
use Rattle.task_deal.proofs.Places.{all_last, all_rest}

pub all_of_back : {X Y : Type 0} (P : Y → Type 0) (f : X → Y) (xs : List X) → All P (backwards f xs) →
    All (λ x. P (f x)) xs
all_of_back P f [] all = λ k d le. absurd (omega (arith, le))
all_of_back P f (x ∷ xs) all = All-cons (λ y. P (f y)) x xs
    (all_last P (backwards f xs ++ f x ∷ []) (backwards f xs) (f x) refl all)
    (all_of_back P f xs (all_rest P (backwards f xs ++ f x ∷ []) (backwards f xs) (f x) refl all))

pub back_of_all : {X Y : Type 0} (P : Y → Type 0) (f : X → Y) (xs : List X) → All (λ x. P (f x)) xs →
    All P (backwards f xs)
back_of_all P f [] all = λ k d le. absurd (omega (arith, le))
back_of_all P f (x ∷ xs) all = All-push P (backwards f xs) (f x) (back_of_all P f xs (All-tail (λ y. P (f y)) x xs all))
    (All-head (λ y. P (f y)) x xs all)

pub length_back : {X Y : Type 0} (f : X → Y) (xs : List X) → length (backwards f xs) ≡ length xs
length_back f [] = refl
length_back f (x ∷ xs) = omega (arith, length_back f xs, length_push (backwards f xs) (f x))

module _ {X : Type 0} (R : X → X → Type 0) where
  pub zip_at : (xs ys : List X) → length ys ≡ length xs →
      ((i : ℕ) (d : X) → i < length xs → R (slice_index_or xs i d) (slice_index_or ys i d)) → AllZip R xs ys
  zip_at [] [] len at = tt
  zip_at [] (y ∷ ys) len at = absurd (omega (arith, len))
  zip_at (x ∷ xs) [] len at = absurd (omega (arith, len))
  zip_at (x ∷ xs) (y ∷ ys) len at =
      (at 0 x (omega arith), zip_at xs ys (omega (arith, len)) (λ i d le. at (suc i) d (omega (arith, le))))

  pub zip_back : {Y : Type 0} (S : Y → Y → Type 0) (f : X → Y) → ((x y : X) → R x y → S (f x) (f y)) →
      (xs ys : List X) → AllZip R xs ys → AllZip S (backwards f xs) (backwards f ys)
  zip_back S f on [] [] zip = tt
  zip_back S f on [] (y ∷ ys) zip = absurd zip
  zip_back S f on (x ∷ xs) [] zip = absurd zip
  zip_back S f on (x ∷ xs) (y ∷ ys) zip =
      AllZip-push S (backwards f xs) (backwards f ys) (f x) (f y) (zip_back S f on xs ys zip.1) (on x y zip.0)

  -- what each pair says of its second item
  pub zip_second : (P : X → Type 0) → ((x y : X) → R x y → P y) → (xs ys : List X) → AllZip R xs ys → All P ys
  zip_second P on [] [] zip = λ k d le. absurd (omega (arith, le))
  zip_second P on [] (y ∷ ys) zip = absurd zip
  zip_second P on (x ∷ xs) [] zip = absurd zip
  zip_second P on (x ∷ xs) (y ∷ ys) zip = All-cons P y ys (on x y zip.0) (zip_second P on xs ys zip.1)

  -- what holds at each place goes on to hold
  pub zip_each : (P : ℕ → X → Type 0) → ((i : ℕ) (x y : X) → R x y → P i x → P i y) → (xs ys : List X) →
      AllZip R xs ys → ((i : ℕ) (d : X) → 0 ≤ i → i < length xs → P i (slice_index_or xs i d)) → (i : ℕ) (d : X) →
      0 ≤ i → i < length xs → P i (slice_index_or ys i d)
  zip_each P on [] ys zip all i d a b = absurd (omega (arith, b))
  zip_each P on (x ∷ xs) [] zip all i d a b = absurd zip
  zip_each P on (x ∷ xs) (y ∷ ys) zip all zero d a b = on 0 x y zip.0 (all 0 x (omega arith) (omega arith))
  zip_each P on (x ∷ xs) (y ∷ ys) zip all (suc i) d a b =
      zip_each (λ k. P (suc k)) (λ k. on (suc k)) xs ys zip.1
      (λ k e c l. all (suc k) e (omega arith) (omega (arith, l))) i d (omega arith) (omega (arith, b))

  -- a balance of each pair is one of all
  pub zip_balance : (A B C : X → ℕ) → ((x y : X) → R x y → A y + (B x + C y) ≡ A x + (B y + C x)) → (xs ys : List X) →
      AllZip R xs ys → sum_of A ys + (sum_of B xs + sum_of C ys) ≡ sum_of A xs + (sum_of B ys + sum_of C xs)
  zip_balance A B C on [] [] zip = refl
  zip_balance A B C on [] (y ∷ ys) zip = absurd zip
  zip_balance A B C on (x ∷ xs) [] zip = absurd zip
  zip_balance A B C on (x ∷ xs) (y ∷ ys) zip = omega (arith, on x y zip.0, zip_balance A B C on xs ys zip.1)
