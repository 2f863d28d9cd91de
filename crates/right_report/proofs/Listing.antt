-- Lists of all items of a kind: each such item is in them.
use Rattle.right_report.proofs.Common.{◌≡◌, ℕ, zero, suc, ◌<◌, ◌≤◌, ◌⊎◌, inl, inr, Bool, true, false, List, [], ◌∷◌}
use Rattle.right_report.proofs.Common.{◌++◌, map, length, refl, ap, arith, cases_lt, flat_map, slice_index}

-- x is one of the items
abbrev pub IsIn : {X : Type 0} → X → List X → Type 0
IsIn x [] = ⊥
IsIn x (y ∷ ys) = (y ≡ x) ⊎ IsIn x ys

in_front : {X : Type 0} (x : X) (xs ys : List X) → IsIn x xs → IsIn x (xs ++ ys)
in_front x [] ys h = absurd h
in_front x (z ∷ zs) ys (inl same) = inl same
in_front x (z ∷ zs) ys (inr h) = inr (in_front x zs ys h)

in_back : {X : Type 0} (x : X) (xs ys : List X) → IsIn x ys → IsIn x (xs ++ ys)
in_back x [] ys h = h
in_back x (z ∷ zs) ys h = inr (in_back x zs ys h)

pub in_map : {X Y : Type 0} (f : X → Y) (x : X) (xs : List X) → IsIn x xs → IsIn (f x) (map f xs)
in_map f x [] h = absurd h
in_map f x (z ∷ zs) (inl same) = inl (ap f same)
in_map f x (z ∷ zs) (inr h) = inr (in_map f x zs h)

pub in_each : {X Y : Type 0} (f : X → List Y) (x : X) (y : Y) (xs : List X) → IsIn x xs → IsIn y (f x) →
    IsIn y (flat_map f xs)
in_each f x y [] h i = absurd h
in_each {X} {Y} f x y (z ∷ zs) (inl same) i = in_front y (f z) (flat_map f zs) (rw same i)
in_each f x y (z ∷ zs) (inr h) i = in_back y (f z) (flat_map f zs) (in_each f x y zs h i)

-- all lists of so many items, each of them one of these
abbrev pub lists_of : {X : Type 0} → List X → ℕ → List (List X)
lists_of xs zero = [] ∷ []
lists_of xs (suc n) = flat_map (λ x. map (λ l. x ∷ l) (lists_of xs n)) xs

longer : {X : Type 0} (xs : List X) (x : X) (l : List X) (n : ℕ) → IsIn x xs → IsIn l (lists_of xs n) →
    IsIn (x ∷ l) (lists_of xs (suc n))
longer xs x l n h i = in_each (λ y. map (λ k. y ∷ k) (lists_of xs n)) x (x ∷ l) xs h
    (in_map (λ k. x ∷ k) l (lists_of xs n) i)

-- ---- flags

abbrev pub flags : List Bool
flags = true ∷ false ∷ []

flag_is_in : (b : Bool) → IsIn b flags
flag_is_in true = inl refl
flag_is_in false = inr (inl refl)

pub flags_are_in : (bs : List Bool) → IsIn bs (lists_of flags (length bs))
flags_are_in [] = inl refl
flags_are_in (b ∷ bs) = longer flags b bs (length bs) (flag_is_in b) (flags_are_in bs)

-- ---- numbers

abbrev pub up_to : ℕ → List ℕ
up_to zero = 0 ∷ []
up_to (suc n) = suc n ∷ up_to n

number_is_in : (most x : ℕ) → x ≤ most → IsIn x (up_to most)
number_is_in zero x h = inl (omega (arith, h))
number_is_in (suc n) x h = elim (cases_lt n x) [
  | inl late ↦ inl (omega (arith, h, late))
  | inr low ↦ inr (number_is_in n x low)
]

pub numbers_are_in : (most : ℕ) (xs : List ℕ) → ((k : ℕ) → k < length xs → slice_index xs k ≤ most) →
    IsIn xs (lists_of (up_to most) (length xs))
numbers_are_in most [] h = inl refl
numbers_are_in most (x ∷ xs) h =
    longer (up_to most) x xs (length xs) (number_is_in most x (h 0 (omega arith)))
    (numbers_are_in most xs (λ k low. h (suc k) (omega (arith, low))))
