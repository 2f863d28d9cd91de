-- Places of a list.
use Rattle.task_deal.proofs.Common.{◌≡◌, ◌≢◌, ℕ, zero, suc, ◌+◌, ◌<◌, ◌≤◌, ◌⊎◌, inl, inr, List, [], ◌∷◌, ◌++◌, length}
use Rattle.task_deal.proofs.Common.{length-append, set, slice_index_or, sym, refl, ap, subst, ⊎_elim, arith, All, Each}

pub index_here : {X : Type 0} (xs : List X) (i : ℕ) (w d : X) → i < length xs → slice_index_or (set xs i w) i d ≡ w
index_here [] i w d le = absurd (omega (arith, le))
index_here (x ∷ xs) zero w d le = refl
index_here (x ∷ xs) (suc i) w d le = index_here xs i w d (omega (arith, le))

pub index_else : {X : Type 0} (xs : List X) (i j : ℕ) (w d : X) → i ≢ j →
    slice_index_or (set xs i w) j d ≡ slice_index_or xs j d
index_else [] i j w d apart = refl
index_else (x ∷ xs) zero zero w d apart = absurd (apart refl)
index_else (x ∷ xs) zero (suc j) w d apart = refl
index_else (x ∷ xs) (suc i) zero w d apart = refl
index_else (x ∷ xs) (suc i) (suc j) w d apart = index_else xs i j w d (λ e. apart (ap suc e))

pub index_any : {X : Type 0} (xs : List X) (i : ℕ) (d e : X) → i < length xs →
    slice_index_or xs i d ≡ slice_index_or xs i e
index_any [] i d e le = absurd (omega (arith, le))
index_any (x ∷ xs) zero d e le = refl
index_any (x ∷ xs) (suc i) d e le = index_any xs i d e (omega (arith, le))

pub same_or_not : (a b : ℕ) → (a ≡ b) ⊎ (a ≢ b)
same_or_not zero zero = inl refl
same_or_not zero (suc b) = inr (λ e. absurd (omega (arith, e)))
same_or_not (suc a) zero = inr (λ e. absurd (omega (arith, e)))
same_or_not (suc a) (suc b) =
    ⊎_elim (λ (e : a ≡ b). inl (ap suc e)) (λ (n : a ≢ b). inr (λ e. n (omega (arith, e)))) (same_or_not a b)

pub no_items : {X : Type 0} (xs : List X) → length xs ≡ 0 → xs ≡ []
no_items [] none = refl
no_items (x ∷ xs) none = absurd (omega (arith, none))

pub split_le : (a b : ℕ) → a ≤ b → (a ≡ b) ⊎ (a < b)
split_le zero zero le = inl refl
split_le zero (suc b) le = inr (omega arith)
split_le (suc a) zero le = absurd (omega (arith, le))
split_le (suc a) (suc b) le =
    ⊎_elim (λ (e : a ≡ b). inl (ap suc e)) (λ (l : a < b). inr (omega (arith, l))) (split_le a b (omega (arith, le)))

pub each_down : {X : Type 0} (P : ℕ → X → Type 0) (lo hi : ℕ) (xs : List X) (w : X) → lo < length xs → P lo w →
    Each P (lo + 1) hi xs → Each P lo hi (set xs lo w)
each_down P lo hi xs w le here high i d a b = ⊎_elim
    (λ (e : lo ≡ i). subst (λ k. P k (slice_index_or (set xs lo w) k d)) e
    (subst (P lo) (sym (index_here xs lo w d le)) here))
    (λ (l : lo < i). subst (P i) (sym (index_else xs lo i w d (λ e. absurd (omega (arith, l, e)))))
    (high i d (omega (arith, l)) b)) (split_le lo i a)

pub each_up : {X : Type 0} (P : ℕ → X → Type 0) (hi : ℕ) (xs : List X) (w : X) → hi < length xs → P hi w →
    Each P 0 hi xs → Each P 0 (hi + 1) (set xs hi w)
each_up P hi xs w le here low i d a b = ⊎_elim
    (λ (e : i ≡ hi). subst (λ k. P k (slice_index_or (set xs hi w) k d)) (sym e)
    (subst (P hi) (sym (index_here xs hi w d le)) here))
    (λ (l : i < hi). subst (P i) (sym (index_else xs hi i w d (λ e. absurd (omega (arith, l, e))))) (low i d a l))
    (split_le i hi (omega (arith, b)))

-- some item of a list that isn't empty
pub pick : {X : Type 0} (xs : List X) (i : ℕ) → i < length xs → X
pick [] i le = absurd (omega (arith, le))
pick (x ∷ xs) i le = x

pub index_left : {X : Type 0} (xs ys : List X) (i : ℕ) (d : X) → i < length xs →
    slice_index_or (xs ++ ys) i d ≡ slice_index_or xs i d
index_left [] ys i d le = absurd (omega (arith, le))
index_left (x ∷ xs) ys zero d le = refl
index_left (x ∷ xs) ys (suc i) d le = index_left xs ys i d (omega (arith, le))

pub index_last : {X : Type 0} (xs : List X) (p d : X) → slice_index_or (xs ++ p ∷ []) (length xs) d ≡ p
index_last [] p d = refl
index_last (x ∷ xs) p d = index_last xs p d

pub all_last : {X : Type 0} (P : X → Type 0) (xs rest : List X) (p : X) → xs ≡ rest ++ p ∷ [] → All P xs → P p
all_last P xs rest p e all = let a : All P (rest ++ p ∷ []) = subst (All P) e all in
    subst P (index_last rest p p) (a (length rest) p (omega (arith, length-append rest (p ∷ []))))

pub all_rest : {X : Type 0} (P : X → Type 0) (xs rest : List X) (p : X) → xs ≡ rest ++ p ∷ [] → All P xs → All P rest
all_rest P xs rest p e all = let a : All P (rest ++ p ∷ []) = subst (All P) e all in
    λ k d le. subst P (index_left rest (p ∷ []) k d le) (a k d (omega (arith, le, length-append rest (p ∷ []))))

pub each_low : {X : Type 0} (P : ℕ → X → Type 0) (lo hi : ℕ) (xs : List X) (i : ℕ) (w : X) → i < lo → Each P lo hi xs →
    Each P lo hi (set xs i w)
each_low P lo hi xs i w le all k d a b =
    subst (P k) (sym (index_else xs i k w d (λ e. absurd (omega (arith, e, a, le))))) (all k d a b)

pub all_push : {X : Type 0} (P : X → Type 0) (xs : List X) (p : X) (ys : List X) → ys ≡ xs ++ p ∷ [] → All P xs → P p →
    All P ys
all_push P xs p ys e all last = subst (All P) (sym e) (λ k d le. ⊎_elim
    (λ (is : k ≡ length xs). subst P
    (sym (subst (λ m. slice_index_or (xs ++ p ∷ []) m d ≡ p) (sym is) (index_last xs p d))) last)
    (λ (l : k < length xs). subst P (sym (index_left xs (p ∷ []) k d l)) (all k d l))
    (split_le k (length xs) (omega (arith, le, length-append xs (p ∷ [])))))
