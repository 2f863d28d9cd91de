-- The list of the callers whose seats are out.
use Rattle.board_share.proofs.Common.{◌≡◌, ◌≢◌, ℕ, Bool, zero, suc, ◌+◌, ◌<◌, ◌⊎◌, inl, inr, ⊎_elim, List, [], ◌∷◌}
use Rattle.board_share.proofs.Common.{◌++◌, length, slice_index_or, subst, sym, ◌∙◌, refl, arith, eq-eqb, ne_eqb, All}
use Rattle.board_share.proofs.Common.{Contains, ◌==◌, if◌then◌else◌, Contains-append_right, Contains-append_cases}
use Rattle.board_share.proofs.Common.{ℕ_discrete, without, Differ}

pub has_head : {A : Type 0} (x : A) (xs : List A) → Contains (x ∷ xs) x
has_head x xs = (zero, omega arith, refl)

pub has_tail : {A : Type 0} (y : A) (xs : List A) (x : A) → Contains xs x → Contains (y ∷ xs) x
has_tail y xs x c = let lt : c.0 < length xs = c.1 in (suc c.0, omega arith, c.2)

pub in_cons : {A : Type 0} (y : A) (xs : List A) (x : A) → Contains (y ∷ xs) x → (y ≡ x) ⊎ Contains xs x
in_cons y xs x c = go c.0 c.1 c.2
  where
    go : (k : ℕ) → k < length (y ∷ xs) → slice_index_or (y ∷ xs) k x ≡ x → (y ≡ x) ⊎ Contains xs x
    go zero lt e = inl e
    go (suc k) lt e = inr (k, omega arith, e)

pub in_none : {A : Type 0} (x : A) → Contains [] x → ⊥
in_none x c = let lt = c.1 in omega arith

pub has_last : (xs : List ℕ) (c : ℕ) → Contains (xs ++ c ∷ []) c
has_last xs c = Contains-append_right xs (c ∷ []) c (has_head c [])

pub differ_more : (xs : List ℕ) (c : ℕ) → Differ xs → (Contains xs c → ⊥) → Differ (xs ++ c ∷ [])
differ_more [] c d n = (in_none c, tt)
differ_more (x ∷ xs) c d n = (
  (λ h. ⊎_elim d.0 (λ (t : Contains (c ∷ []) x). ⊎_elim
      (λ (e : c ≡ x). n (subst (Contains (x ∷ xs)) (sym e) (has_head x xs))) (in_none x) (in_cons c [] x t))
      (Contains-append_cases xs (c ∷ []) x h)),
  differ_more xs c d.1 (λ h. n (has_tail x xs c h)),
)

-- by cases on whether the first element is the one taken out
without_cons : (c x : ℕ) (xs : List ℕ) (F : List ℕ → Type 0) → (x ≡ c → F xs) → (x ≢ c → F (x ∷ without c xs)) →
    F (without c (x ∷ xs))
without_cons c x xs F hit miss = pick (ℕ_discrete x c)
  where
    pick : Dec (x ≡ c) → F (if x == c then xs else x ∷ without c xs)
    pick (yes e) = subst (λ (b : Bool). F (if b then xs else x ∷ without c xs)) (sym (eq-eqb x c e)) (hit e)
    pick (no n) = subst (λ (b : Bool). F (if b then xs else x ∷ without c xs)) (sym (ne_eqb x c n)) (miss n)

pub length-without : (c : ℕ) (xs : List ℕ) → Contains xs c → length xs ≡ length (without c xs) + 1
length-without c [] h = absurd (in_none c h)
length-without c (x ∷ xs) h = without_cons c x xs (λ l. length (x ∷ xs) ≡ length l + 1) (λ e. omega arith)
    (λ n. ⊎_elim (λ e. absurd (n e)) (λ (t : Contains xs c). let p = length-without c xs t in omega arith)
    (in_cons x xs c h))

pub in_without : (c : ℕ) (xs : List ℕ) (x : ℕ) → Contains xs x → x ≢ c → Contains (without c xs) x
in_without c [] x h n = absurd (in_none x h)
in_without c (y ∷ ys) x h n =
    without_cons c y ys (λ l. Contains l x) (λ e. ⊎_elim (λ e'. absurd (n (sym e' ∙ e))) (λ t. t) (in_cons y ys x h))
    (λ m. ⊎_elim (λ e'. subst (Contains (y ∷ without c ys)) e' (has_head y (without c ys)))
    (λ (t : Contains ys x). has_tail y (without c ys) x (in_without c ys x t n)) (in_cons y ys x h))

pub from_without : (c : ℕ) (xs : List ℕ) (x : ℕ) → Contains (without c xs) x → Contains xs x
from_without c [] x h = h
from_without c (y ∷ ys) x h = without_cons c y ys (λ l. Contains l x → Contains (y ∷ ys) x) (λ e h. has_tail y ys x h)
    (λ m h. ⊎_elim (λ e. subst (Contains (y ∷ ys)) e (has_head y ys))
    (λ (t : Contains (without c ys) x). has_tail y ys x (from_without c ys x t)) (in_cons y (without c ys) x h)) h

pub differ_without : (c : ℕ) (xs : List ℕ) → Differ xs → Differ (without c xs)
differ_without c [] d = d
differ_without c (x ∷ xs) d =
    without_cons c x xs Differ (λ e. d.1) (λ n. ((λ h. d.0 (from_without c xs x h)), differ_without c xs d.1))

all_cons : {A : Type 0} (P : A → Type 0) (x : A) (xs : List A) → P x → All P xs → All P (x ∷ xs)
all_cons P x xs p all zero d lt = p
all_cons P x xs p all (suc k) d lt = all k d (omega arith)

all_tail : {A : Type 0} (P : A → Type 0) (x : A) (xs : List A) → All P (x ∷ xs) → All P xs
all_tail P x xs all k d lt = all (suc k) d (omega arith)

pub all_without : (P : ℕ → Type 0) (c : ℕ) (xs : List ℕ) → All P xs → All P (without c xs)
all_without P c [] all = all
all_without P c (x ∷ xs) all = without_cons c x xs (All P) (λ e. all_tail P x xs all)
    (λ n. all_cons P x (without c xs) (all 0 x (omega arith)) (all_without P c xs (all_tail P x xs all)))

-- what was taken out is not in it
pub not_in_without : (c : ℕ) (xs : List ℕ) → Differ xs → Contains (without c xs) c → ⊥
not_in_without c [] d h = in_none c h
not_in_without c (x ∷ xs) d h = without_cons c x xs (λ l. Contains l c → ⊥) (λ e h. d.0 (subst (Contains xs) (sym e) h))
    (λ n h. ⊎_elim (λ (e : x ≡ c). n e) (λ (t : Contains (without c xs) c). not_in_without c xs d.1 t)
    (in_cons x (without c xs) c h)) h
