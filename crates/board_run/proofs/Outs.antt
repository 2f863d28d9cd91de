-- The list of the callers whose seats are out.
use Rattle.board_run.proofs.Common.{◌≡◌, ◌≢◌, ℕ, Bool, zero, suc, ◌<◌, ◌⊎◌, inl, inr, ⊎_elim, List, [], ◌∷◌, length}
use Rattle.board_run.proofs.Common.{slice_index_or, subst, sym, ◌∙◌, refl, arith, eq-eqb, ne_eqb, ◌==◌, if◌then◌else◌}
use Rattle.board_run.proofs.Common.{Contains, without}
use native.Mathlib.Decide.{ℕ_discrete}

has_head : {A : Type 0} (x : A) (xs : List A) → Contains (x ∷ xs) x
has_head x xs = (zero, omega arith, refl)

has_tail : {A : Type 0} (y : A) (xs : List A) (x : A) → Contains xs x → Contains (y ∷ xs) x
has_tail y xs x c = let lt : c.0 < length xs = c.1 in (suc c.0, omega arith, c.2)

in_cons : {A : Type 0} (y : A) (xs : List A) (x : A) → Contains (y ∷ xs) x → (y ≡ x) ⊎ Contains xs x
in_cons y xs x c = go c.0 c.1 c.2
  where
    go : (k : ℕ) → k < length (y ∷ xs) → slice_index_or (y ∷ xs) k x ≡ x → (y ≡ x) ⊎ Contains xs x
    go zero lt e = inl e
    go (suc k) lt e = inr (k, omega arith, e)

pub in_none : {A : Type 0} (x : A) → Contains [] x → ⊥
in_none x c = let lt = c.1 in omega arith

-- what is in a list of one element
pub in_one : {A : Type 0} (y x : A) → Contains (y ∷ []) x → y ≡ x
in_one y x c = ⊎_elim (λ e. e) (λ t. absurd (in_none x t)) (in_cons y [] x c)

-- by cases on whether the first element is the one taken out
without_cons : (c x : ℕ) (xs : List ℕ) (F : List ℕ → Type 0) → (x ≡ c → F xs) → (x ≢ c → F (x ∷ without c xs)) →
    F (without c (x ∷ xs))
without_cons c x xs F hit miss = pick (ℕ_discrete x c)
  where
    pick : Dec (x ≡ c) → F (if x == c then xs else x ∷ without c xs)
    pick (yes e) = subst (λ (b : Bool). F (if b then xs else x ∷ without c xs)) (sym (eq-eqb x c e)) (hit e)
    pick (no n) = subst (λ (b : Bool). F (if b then xs else x ∷ without c xs)) (sym (ne_eqb x c n)) (miss n)

-- another than the one taken out stays
pub in_without : (c : ℕ) (xs : List ℕ) (x : ℕ) → Contains xs x → x ≢ c → Contains (without c xs) x
in_without c [] x h n = absurd (in_none x h)
in_without c (y ∷ ys) x h n =
    without_cons c y ys (λ l. Contains l x) (λ e. ⊎_elim (λ e'. absurd (n (sym e' ∙ e))) (λ t. t) (in_cons y ys x h))
    (λ m. ⊎_elim (λ e'. subst (Contains (y ∷ without c ys)) e' (has_head y (without c ys)))
    (λ (t : Contains ys x). has_tail y (without c ys) x (in_without c ys x t n)) (in_cons y ys x h))
