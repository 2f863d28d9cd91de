-- Sizes of totals, and numbers by their places.
use Rattle.audit_check.proofs.Common.{◌≡◌, ℕ, zero, suc, ◌+◌, ◌<◌, ◌≤◌, ℤ, pos, ◌+ℤ◌, List, [], ◌∷◌, ◌++◌, map, take}
use Rattle.audit_check.proofs.Common.{length, replicate, refl, sym, ap, ◌∙◌, subst, arith, ints, All-from_get_or, All}
use Rattle.audit_check.proofs.Common.{slice_index_or, IsRaised, int_at, total, at_place, map-append, total-push, Sums}
use Rattle.audit_check.proofs.Common.{IsSmall, AreWithin}

pub nothing_small : (n : ℕ) → IsSmall n (pos 0)
nothing_small n = record { at_least = omega (arith, ints); at_most = omega (arith, ints) }

pub small_at : (n : ℕ) (xs : List ℤ) (k : ℕ) → All (IsSmall n) xs → IsSmall n (int_at xs k)
small_at n xs k all = at_place (IsSmall n) (pos 0) (nothing_small n) xs all k

pub small_same : (n : ℕ) (x y : ℤ) → x ≡ y → IsSmall n x → IsSmall n y
small_same n x y e h = subst (IsSmall n) e h

pub all_small : (n : ℕ) (xs : List ℤ) → ((k : ℕ) → k < length xs → IsSmall n (int_at xs k)) → All (IsSmall n) xs
all_small n xs each = All-from_get_or (IsSmall n) xs (pos 0) each

pub wider : (n m : ℕ) (x : ℤ) → n ≤ m → IsSmall n x → IsSmall m x
wider n m x le h =
    let low = h.at_least in
    let high = h.at_most in
    record { at_least = omega (arith, ints, le, low); at_most = omega (arith, ints, le, high) }

pub all_wider : (n m : ℕ) (xs : List ℤ) → n ≤ m → All (IsSmall n) xs → All (IsSmall m) xs
all_wider n m xs le all = all_small m xs (λ k less. wider n m (int_at xs k) le (small_at n xs k all))

pub within_wider : (periods n m : ℕ) (s : Sums) → n ≤ m → AreWithin periods n s → AreWithin periods m s
within_wider periods n m s le w = record {
  supply_length = w.supply_length;
  reserve_length = w.reserve_length;
  earned = wider n m s.earned le w.earned;
  supply = all_wider n m s.supply.items le w.supply;
  reserve = all_wider n m s.reserve.items le w.reserve;
}

-- a list of zeros
pub zero_at : (n k : ℕ) → int_at (replicate n (pos 0)) k ≡ pos 0
zero_at zero k = refl
zero_at (suc n) zero = refl
zero_at (suc n) (suc k) = zero_at n k

pub all_zero : (n : ℕ) (xs : List ℤ) → length xs ≡ n → ((k : ℕ) → k < n → int_at xs k ≡ pos 0) →
    xs ≡ replicate n (pos 0)
all_zero zero [] e each = refl
all_zero zero (x ∷ xs) e each = absurd (omega (arith, e))
all_zero (suc n) [] e each = absurd (omega (arith, e))
all_zero (suc n) (x ∷ xs) e each =
    ap (λ z. z ∷ xs) (each 0 (omega arith)) ∙
    ap (λ zs. pos 0 ∷ zs) (all_zero n xs (omega (arith, e)) (λ k less. each (suc k) (omega (arith, less))))

-- ---- sums of more

small_sum : (n m : ℕ) (x o p : ℤ) → x ≡ o +ℤ p → IsSmall n o → IsSmall m p → IsSmall (n + m) x
small_sum n m x o p e a b =
    let al = a.at_least in
    let am = a.at_most in
    let bl = b.at_least in
    let bm = b.at_most in
    record { at_least = omega (arith, ints, e, al, bl); at_most = omega (arith, ints, e, am, bm) }

raised_small : (n m : ℕ) (old new : List ℤ) (f : ℕ → ℤ) → IsRaised old new f → All (IsSmall n) old →
    ((k : ℕ) → k < length old → IsSmall m (f k)) → All (IsSmall (n + m)) new
raised_small n m old new f raised all each = all_small (n + m) new (λ k less.
    let same = raised.same_length in
    let inside : k < length old = omega (arith, less, same) in
    small_sum n m (int_at new k) (int_at old k) (f k) (raised.each k inside) (small_at n old k all) (each k inside))

pub raised_within : (periods n m : ℕ) (old new : Sums) (e : ℤ) (f g : ℕ → ℤ) → AreWithin periods n old →
    new.earned ≡ old.earned +ℤ e
    → IsRaised old.supply.items new.supply.items f → IsRaised old.reserve.items new.reserve.items g
    → IsSmall m e → ((k : ℕ) → k < periods → IsSmall m (f k)) → ((k : ℕ) → k < periods → IsSmall m (g k)) →
    AreWithin periods (n + m) new
raised_within periods n m old new e f g w earned supply reserve small_e small_f small_g =
    let ls = w.supply_length in
    let lr = w.reserve_length in
    record {
      supply_length = supply.same_length ∙ ls;
      reserve_length = reserve.same_length ∙ lr;
      earned = small_sum n m new.earned old.earned e earned w.earned small_e;
      supply = raised_small n m old.supply.items new.supply.items f supply w.supply
          (λ k less. small_f k (omega (arith, less, ls)));
      reserve = raised_small n m old.reserve.items new.reserve.items g reserve w.reserve
          (λ k less. small_g k (omega (arith, less, lr)));
    }

-- a list item by item
taken : {X : Type 0} → (xs : List X) (i : ℕ) (x d : X) → i < length xs → x ≡ slice_index_or xs i d →
    take (i + 1) xs ≡ take i xs ++ x ∷ []
taken [] i x d less is = absurd (omega (arith, less))
taken (y ∷ ys) zero x d less is = ap (λ z. z ∷ []) (sym is)
taken (y ∷ ys) (suc i) x d less is =
    let n : suc i + 1 ≡ suc (i + 1) = omega arith in
    ap (λ (j : ℕ). take j (y ∷ ys)) n ∙ ap (λ l. y ∷ l) (taken ys i x d (omega (arith, less)) is)

gathered : (new old base t u : ℤ) (p : ℤ) → old ≡ base +ℤ t → new ≡ old +ℤ p → u ≡ t +ℤ p → new ≡ base +ℤ u
gathered new old base t u p e f g = omega (arith, ints, e, f, g)

pub gather_more : {X : Type 0} → (f : X → ℤ) (xs : List X) (i : ℕ) (x d : X) (new old base : ℤ) → i < length xs →
    x ≡ slice_index_or xs i d
    → old ≡ base +ℤ total (map f (take i xs)) → new ≡ old +ℤ f x → new ≡ base +ℤ total (map f (take (i + 1) xs))
gather_more f xs i x d new old base less is was more =
    gathered new old base (total (map f (take i xs))) (total (map f (take (i + 1) xs))) (f x) was more
    (ap (λ l. total (map f l)) (taken xs i x d less is) ∙
    (ap total (map-append f (take i xs) (x ∷ [])) ∙ total-push (map f (take i xs)) (f x)))

pub within_over : (periods other n : ℕ) (s : Sums) → periods ≡ other → AreWithin periods n s → AreWithin other n s
within_over periods other n s e w = subst (λ (p : ℕ). AreWithin p n s) e w
