-- Items of lists that are mapped, and of plans.
use Rattle.plan_settle.proofs.Common.{◌≡◌, ℕ, zero, suc, ◌+◌, ◌<◌, ◌≤◌, Some, List, [], ◌∷◌, ◌++◌, map, take, length}
use Rattle.plan_settle.proofs.Common.{refl, sym, ap, ◌∙◌, arith, none-some, AllZip, slice_index_or, slice_get}
use Rattle.plan_settle.proofs.Common.{NamedThermalUnit, AnyUnit, Schedule, IsFeasible, zip_with}
use Rattle.plan_check.proofs.UnitsApart.{any_thermal}

pub mapped_at : {X Y : Type 0} → (f : X → Y) (xs : List X) (k : ℕ) (d : X) (e : Y) → k < length xs →
    slice_index_or (map f xs) k e ≡ f (slice_index_or xs k d)
mapped_at f [] k d e h = absurd (omega (arith, h))
mapped_at f (x ∷ xs) zero d e h = refl
mapped_at f (x ∷ xs) (suc k) d e h = mapped_at f xs k d e (omega (arith, h))

pub same_item : {X : Type 0} → (x y : X) → Some x ≡ Some y → x ≡ y
same_item x y e = cc

pub map_item : {X Y : Type 0} → (f : X → Y) (xs : List X) (k : ℕ) (x : X) → slice_get xs k ≡ Some x →
    slice_get (map f xs) k ≡ Some (f x)
map_item f [] k x e = absurd (none-some x e)
map_item f (y ∷ xs) zero x e = ap (λ z. Some (f z)) (same_item y x e)
map_item f (y ∷ xs) (suc k) x e = map_item f xs k x e

pub map_push : {X Y : Type 0} → (f : X → Y) (xs : List X) (x : X) → map f (xs ++ x ∷ []) ≡ map f xs ++ f x ∷ []
map_push f [] x = refl
map_push f (y ∷ xs) x = ap (λ l. f y ∷ l) (map_push f xs x)

pub zip_more : {A B C : Type 0} → (f : A → B → C) (xs : List A) (ys : List B) (k : ℕ) (x : A) (y : B) →
    slice_get xs k ≡ Some x → slice_get ys k ≡ Some y →
    take (k + 1) (zip_with f xs ys) ≡ take k (zip_with f xs ys) ++ f x y ∷ []
zip_more f [] ys k x y e g = absurd (none-some x e)
zip_more f (a ∷ xs) [] k x y e g = absurd (none-some y g)
zip_more f (a ∷ xs) (b ∷ ys) zero x y e g = ap (λ z. f z b ∷ []) (same_item a x e) ∙
    ap (λ z. f x z ∷ []) (same_item b y g)
zip_more f (a ∷ xs) (b ∷ ys) (suc k) x y e g =
    let n : suc k + 1 ≡ suc (k + 1) = omega arith in
    ap (λ (i : ℕ). take i (f a b ∷ zip_with f xs ys)) n ∙ ap (λ l. f a b ∷ l) (zip_more f xs ys k x y e g)

pub zip_whole : {A B C : Type 0} → (f : A → B → C) (xs : List A) (ys : List B) (k : ℕ) → length xs ≤ k →
    take k (zip_with f xs ys) ≡ zip_with f xs ys
zip_whole f [] ys zero h = refl
zip_whole f [] ys (suc k) h = refl
zip_whole f (a ∷ xs) [] zero h = refl
zip_whole f (a ∷ xs) [] (suc k) h = refl
zip_whole f (a ∷ xs) (b ∷ ys) zero h = absurd (omega (arith, h))
zip_whole f (a ∷ xs) (b ∷ ys) (suc k) h = ap (λ l. f a b ∷ l) (zip_whole f xs ys k (omega (arith, h)))

-- a schedule of a plan is over the horizon
pub on_length : (n : ℕ) (ts : List NamedThermalUnit) (rest : List AnyUnit) (plan : List Schedule) (k : ℕ)
    (t : NamedThermalUnit) (s : Schedule) →
    AllZip (λ u s. IsFeasible u n s) (map any_thermal ts ++ rest) plan → slice_get ts k ≡ Some t →
    slice_get plan k ≡ Some s → length s.on ≡ n
on_length n [] rest plan k t s h e g = absurd (none-some t e)
on_length n (x ∷ ts) rest [] k t s h e g = absurd h
on_length n (x ∷ ts) rest (y ∷ ss) zero t s h e g =
    let own = h.0 in
    ap (λ (z : Schedule). length z.on) (sym (same_item y s g)) ∙ own.schedule.on
on_length n (x ∷ ts) rest (y ∷ ss) (suc k) t s h e g = on_length n ts rest ss k t s h.1 e g
