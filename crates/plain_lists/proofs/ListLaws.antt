-- Lists, and sums over them, item by item.
use Rattle.plain_lists.proofs.Common.{◌≡◌, ℕ, zero, suc, ◌+◌, ◌<◌, ◌⊎◌, inl, inr, ℤ, ◌+ℤ◌, Bool, true, false, cond}
use Rattle.plain_lists.proofs.Common.{Some, None, List, [], ◌∷◌, ◌++◌, map, length, reverse, take, drop, get_or, refl}
use Rattle.plain_lists.proofs.Common.{sym, ap, ◌∙◌, subst, arith, append_assoc, ints, reverse-reverse, append-nil}
use Rattle.plain_lists.proofs.Common.{take-append-drop, take_more, drop_more, slice_get, slice_index_or, All, AllZip}
use Rattle.plain_lists.proofs.Common.{flat_map, option_map, total, sum_below, zip_with}
use Rattle.plain_lists.proofs.Common.{◌≢◌, Option, IfSome, slice_set}
use Rattle.std.proofs.lemmas.List.Concat.{flat_map-append}
use Rattle.std.proofs.lemmas.Option.{slice_get-map}

pub true_or_false : (b : Bool) → (b ≡ true) ⊎ (b ≡ false)
true_or_false true = inl refl
true_or_false false = inr refl

pub none_some : {X : Type 0} → (x : X) → None ≡ Some x → ⊥
none_some x e = cc

pub same_item : {X : Type 0} → (a b : X) → Some a ≡ Some b → b ≡ a
same_item a b e = cc

-- ---- what holds of all items

pub head_of : {X : Type 0} → (P : X → Type 0) (x : X) (xs : List X) → All P (x ∷ xs) → P x
head_of P x xs h = h 0 x (omega arith)

pub tail_of : {X : Type 0} → (P : X → Type 0) (x : X) (xs : List X) → All P (x ∷ xs) → All P xs
tail_of P x xs h = λ k d lt. h (suc k) d (omega (arith, lt))

pub all_nil : {X : Type 0} → (P : X → Type 0) → All P []
all_nil P k d lt = absurd (omega (arith, lt))

pub all_cons : {X : Type 0} → (P : X → Type 0) (x : X) (xs : List X) → P x → All P xs → All P (x ∷ xs)
all_cons P x xs h t zero d lt = h
all_cons P x xs h t (suc k) d lt = t k d (omega (arith, lt))

-- what holds of each item holds of the one at a place
pub item_of : {X : Type 0} → (P : X → Type 0) (xs : List X) (i : ℕ) (x : X) → All P xs → slice_get xs i ≡ Some x → P x
item_of P [] i x h e = absurd (none_some x e)
item_of P (y ∷ ys) zero x h e = subst P (sym (same_item y x e)) (head_of P y ys h)
item_of P (y ∷ ys) (suc i) x h e = item_of P ys i x (tail_of P y ys h) e

-- what holds of each item, and of the item past the end, holds at each place
pub at_place : {X : Type 0} → (P : X → Type 0) (d : X) → P d → (xs : List X) → All P xs → (k : ℕ) →
    P (slice_index_or xs k d)
at_place P d past [] h k = past
at_place P d past (x ∷ xs) h zero = head_of P x xs h
at_place P d past (x ∷ xs) h (suc k) = at_place P d past xs (tail_of P x xs h) k

-- what holds of each pair of items holds of those at a place
pub zip_item : {X Y : Type 0} → (R : X → Y → Type 0) (xs : List X) (ys : List Y) (i : ℕ) (x : X) (y : Y) →
    AllZip R xs ys → slice_get xs i ≡ Some x → slice_get ys i ≡ Some y → R x y
zip_item R [] ys i x y z e f = absurd (none_some x e)
zip_item R (a ∷ xs) [] i x y z e f = absurd z
zip_item R (a ∷ xs) (b ∷ ys) zero x y z e f =
    subst (λ v. R v y) (sym (same_item a x e)) (subst (R a) (sym (same_item b y f)) z.0)
zip_item R (a ∷ xs) (b ∷ ys) (suc i) x y z e f = zip_item R xs ys i x y z.1 e f

pub length_same : {A B : Type 0} → (R : A → B → Type 0) (xs : List A) (ys : List B) → AllZip R xs ys →
    length xs ≡ length ys
length_same R [] [] z = refl
length_same R [] (y ∷ ys) z = absurd z
length_same R (x ∷ xs) [] z = absurd z
length_same R (x ∷ xs) (y ∷ ys) z = ap suc (length_same R xs ys z.1)

-- ---- the item at a place

pub map_item : {X Y : Type 0} → (f : X → Y) (xs : List X) (i : ℕ) (x : X) → slice_get xs i ≡ Some x →
    slice_get (map f xs) i ≡ Some (f x)
map_item f xs i x e = slice_get-map f xs i ∙ ap (option_map f) e

pub front_item : {X : Type 0} → (xs ys : List X) (i : ℕ) (x : X) → slice_get xs i ≡ Some x →
    slice_get (xs ++ ys) i ≡ Some x
front_item [] ys i x e = absurd (none_some x e)
front_item (a ∷ xs) ys zero x e = e
front_item (a ∷ xs) ys (suc i) x e = front_item xs ys i x e

pub back_item : {X : Type 0} → (xs ys : List X) (i : ℕ) → slice_get (xs ++ ys) (length xs + i) ≡ slice_get ys i
back_item [] ys i = ap (slice_get ys) (omega arith)
back_item (x ∷ xs) ys i = let e : length (x ∷ xs) + i ≡ suc (length xs + i) = omega arith in
    ap (slice_get (x ∷ (xs ++ ys))) e ∙ back_item xs ys i

nothing : {X : Type 0} → (i : ℕ) → slice_get {X = X} [] i ≡ None
nothing i = refl

shifted : {X : Type 0} → (x : X) (xs : List X) (n i : ℕ) → slice_get xs (n + i) ≡ slice_get (x ∷ xs) (suc n + i)
shifted x xs n i = let e : suc (n + i) ≡ suc n + i = omega arith in ap (slice_get (x ∷ xs)) e

pub drop_item : {X : Type 0} → (n : ℕ) (xs : List X) (i : ℕ) → slice_get (drop n xs) i ≡ slice_get xs (n + i)
drop_item zero xs i = ap (slice_get xs) (omega arith)
drop_item (suc n) [] i = nothing i ∙ sym (nothing (suc n + i))
drop_item (suc n) (x ∷ xs) i = drop_item n xs i ∙ shifted x xs n i

pub drop-map : {X Y : Type 0} → (f : X → Y) (n : ℕ) (xs : List X) → drop n (map f xs) ≡ map f (drop n xs)
drop-map f zero xs = refl
drop-map f (suc n) [] = refl
drop-map f (suc n) (x ∷ xs) = drop-map f n xs

pub map-append : {X Y : Type 0} → (f : X → Y) (xs ys : List X) → map f (xs ++ ys) ≡ map f xs ++ map f ys
map-append f [] ys = refl
map-append f (x ∷ xs) ys = ap (λ zs. f x ∷ zs) (map-append f xs ys)

pub map-map : {X Y Z : Type 0} → (f : Y → Z) (g : X → Y) (xs : List X) → map f (map g xs) ≡ map (λ x. f (g x)) xs
map-map f g [] = refl
map-map f g (x ∷ xs) = ap (λ zs. f (g x) ∷ zs) (map-map f g xs)

-- the lists made of items, before a place, at it and after it
pub flat_map_at : {X Y : Type 0} → (f : X → List Y) (xs : List X) (i : ℕ) (d : X) → i < length xs →
    flat_map f xs ≡ flat_map f (take i xs) ++ f (get_or xs i d) ++ flat_map f (drop (i + 1) xs)
flat_map_at f xs i d h =
    ap (flat_map f) (sym (take-append-drop i xs)) ∙ flat_map-append f (take i xs) (drop i xs)
    ∙ ap (λ t. flat_map f (take i xs) ++ flat_map f t) (drop_more xs i d h) ∙
    sym (append_assoc (flat_map f (take i xs)) (f (get_or xs i d)) (flat_map f (drop (i + 1) xs)))

-- and up to the place after it
pub flat_map_up_to : {X Y : Type 0} → (f : X → List Y) (xs : List X) (i : ℕ) (d : X) → i < length xs →
    flat_map f (take (i + 1) xs) ≡ flat_map f (take i xs) ++ f (get_or xs i d)
flat_map_up_to f xs i d h =
    ap (flat_map f) (take_more xs i d h) ∙ flat_map-append f (take i xs) (get_or xs i d ∷ [])
    ∙ ap (λ t. flat_map f (take i xs) ++ t) (append-nil (f (get_or xs i d)))

-- ---- two lists item by item

pub zip_with_item : {A B C : Type 0} → (f : A → B → C) (xs : List A) (ys : List B) (i : ℕ) (x : A) (y : B) →
    slice_get xs i ≡ Some x → slice_get ys i ≡ Some y → slice_get (zip_with f xs ys) i ≡ Some (f x y)
zip_with_item f [] ys i x y e g = absurd (none_some x e)
zip_with_item f (a ∷ xs) [] i x y e g = absurd (none_some y g)
zip_with_item f (a ∷ xs) (b ∷ ys) zero x y e g =
    ap (λ v. Some (f v b)) (sym (same_item a x e)) ∙ ap (λ v. Some (f x v)) (sym (same_item b y g))
zip_with_item f (a ∷ xs) (b ∷ ys) (suc i) x y e g = zip_with_item f xs ys i x y e g

zip_with-nil : {A B C : Type 0} → (f : A → B → C) (xs : List A) → zip_with f xs [] ≡ []
zip_with-nil f [] = refl
zip_with-nil f (x ∷ xs) = refl

-- one item more in the shorter list
pub zip_with-push : {A B C : Type 0} → (f : A → B → C) (xs : List A) (ys : List B) (x : A) (y : B) →
    slice_get xs (length ys) ≡ Some x → zip_with f xs (ys ++ y ∷ []) ≡ zip_with f xs ys ++ f x y ∷ []
zip_with-push f [] ys x y e = absurd (none_some x e)
zip_with-push f (a ∷ xs) [] x y e = ap (λ l. f a y ∷ l) (zip_with-nil f xs) ∙
    ap (λ v. f v y ∷ []) (sym (same_item a x e))
zip_with-push f (a ∷ xs) (b ∷ ys) x y e = ap (λ l. f a b ∷ l) (zip_with-push f xs ys x y e)

pub length-zip_with : {A B C : Type 0} → (f : A → B → C) (xs : List A) (ys : List B) → length xs ≡ length ys →
    length (zip_with f xs ys) ≡ length xs
length-zip_with f [] ys e = refl
length-zip_with f (x ∷ xs) [] e = absurd (omega (arith, e))
length-zip_with f (x ∷ xs) (y ∷ ys) e = ap suc (length-zip_with f xs ys (omega (arith, e)))

-- ---- equal lists

-- joined lists are equal part by part where the first parts are as long
pub parts : {A : Type 0} → (xs ys us vs : List A) → length xs ≡ length us → xs ++ ys ≡ us ++ vs → (xs ≡ us) × (ys ≡ vs)
parts [] ys [] vs h e = (refl, e)
parts [] ys (u ∷ us) vs h e = absurd (omega (arith, h))
parts (x ∷ xs) ys [] vs h e = absurd (omega (arith, h))
parts (x ∷ xs) ys (u ∷ us) vs h e =
    let head : x ≡ u = cc in
    let tail : xs ++ ys ≡ us ++ vs = cc in
    let rest = parts xs ys us vs (omega (arith, h)) tail in
    (ap (λ z. z ∷ xs) head ∙ ap (λ zs. u ∷ zs) rest.0, rest.1)

-- lists are equal where they are so backwards
pub backwards : {A : Type 0} → (xs ys : List A) → reverse xs ≡ reverse ys → xs ≡ ys
backwards xs ys e = sym (reverse-reverse xs) ∙ ap reverse e ∙ reverse-reverse ys

-- ---- flags as numbers

abbrev pub flag : Bool → ℕ
flag b = cond b 1 0

pub same_flag : (a b : Bool) → flag a ≡ flag b → a ≡ b
same_flag true true e = refl
same_flag false false e = refl
same_flag true false e = absurd (omega (arith, e))
same_flag false true e = absurd (omega (arith, e))

pub same_flags : (xs ys : List Bool) → map flag xs ≡ map flag ys → xs ≡ ys
same_flags [] [] e = refl
same_flags [] (y ∷ ys) e = cc
same_flags (x ∷ xs) [] e = cc
same_flags (x ∷ xs) (y ∷ ys) e =
    let head : flag x ≡ flag y = cc in
    let tail : map flag xs ≡ map flag ys = cc in
    ap (λ z. z ∷ xs) (same_flag x y head) ∙ ap (λ zs. y ∷ zs) (same_flags xs ys tail)

-- ---- sums

pub sum_more : (n : ℕ) (f : ℕ → ℤ) → sum_below (n + 1) f ≡ sum_below n f +ℤ f n
sum_more n f = let e : n + 1 ≡ suc n = omega arith in ap (λ (k : ℕ). sum_below k f) e

pub total-append : (xs ys : List ℤ) → total (xs ++ ys) ≡ total xs +ℤ total ys
total-append [] ys = omega (arith, ints)
total-append (x ∷ xs) ys = omega (arith, ints, total-append xs ys)

pub total-push : (xs : List ℤ) (x : ℤ) → total (xs ++ x ∷ []) ≡ total xs +ℤ x
total-push xs x = omega (arith, ints, total-append xs (x ∷ []))

-- ---- an item of a list that is written, and what holds of an option that is there

pub get_set_same : {X : Type 0} (xs : List X) (i : ℕ) (a : X) → i < length xs → slice_get (slice_set xs i a) i ≡ Some a
get_set_same [] i a low = absurd (omega arith)
get_set_same (x ∷ xs) zero a low = refl
get_set_same (x ∷ xs) (suc i) a low = get_set_same xs i a (omega arith)

pub get_set_other : {X : Type 0} (xs : List X) (i j : ℕ) (a : X) → j ≢ i →
    slice_get (slice_set xs i a) j ≡ slice_get xs j
get_set_other [] i j a other = refl
get_set_other (x ∷ xs) zero zero a other = absurd (other refl)
get_set_other (x ∷ xs) zero (suc j) a other = refl
get_set_other (x ∷ xs) (suc i) zero a other = refl
get_set_other (x ∷ xs) (suc i) (suc j) a other = get_set_other xs i j a (λ z. other (ap suc z))

pub if_some : {X : Type 0} → (P : X → Type 0) (o : Option X) (x : X) → o ≡ Some x → IfSome o P → P x
if_some P o x is h = rw is at h

pub if_some_more : {X : Type 0} (P Q : X → Type 0) → ((x : X) → P x → Q x) → (o : Option X) → IfSome o P → IfSome o Q
if_some_more P Q more None h = tt
if_some_more P Q more (Some x) h = more x h
