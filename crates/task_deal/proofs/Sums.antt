-- Sums over lists.
use Rattle.task_deal.proofs.Common.{◌≡◌, ℕ, zero, suc, ◌+◌, ◌<◌, List, [], ◌∷◌, ◌++◌, length, set, slice_index_or, sym}
use Rattle.task_deal.proofs.Common.{ap, arith, some, some-injective, some-ne-none, get_elem?, sum_of}

pub sum_of-append : {X : Type 0} (f : X → ℕ) (xs ys : List X) → sum_of f (xs ++ ys) ≡ sum_of f xs + sum_of f ys
sum_of-append f [] ys = omega arith
sum_of-append f (x ∷ xs) ys = omega (arith, sum_of-append f xs ys)

pub sum_of_push : {X : Type 0} (f : X → ℕ) (xs : List X) (y : X) → sum_of f (xs ++ y ∷ []) ≡ sum_of f xs + f y
sum_of_push f [] y = omega arith
sum_of_push f (x ∷ xs) y = omega (arith, sum_of_push f xs y)

pub sum_of_set : {X : Type 0} (f : X → ℕ) (xs : List X) (i : ℕ) (v w : X) → get_elem? xs i ≡ some v →
    sum_of f (set xs i w) + f v ≡ sum_of f xs + f w
sum_of_set f [] i v w at = absurd (some-ne-none v (sym at))
sum_of_set f (x ∷ xs) zero v w at = let e : f x ≡ f v = ap f (some-injective _ _ at) in omega (arith, e)
sum_of_set f (x ∷ xs) (suc i) v w at = omega (arith, sum_of_set f xs i v w at)

pub sum_of_set_at : {X : Type 0} (f : X → ℕ) (xs : List X) (i : ℕ) (d w : X) → i < length xs →
    sum_of f (set xs i w) + f (slice_index_or xs i d) ≡ sum_of f xs + f w
sum_of_set_at f [] i d w le = absurd (omega (arith, le))
sum_of_set_at f (x ∷ xs) zero d w le = omega arith
sum_of_set_at f (x ∷ xs) (suc i) d w le = omega (arith, sum_of_set_at f xs i d w (omega (arith, le)))
