-- A job runs what a queue still has.
use Rattle.task_deal.proofs.Common.{◌≡◌, ℕ, ◌+◌, ◌<◌, ◌≤◌, List, [], ◌∷◌, ◌++◌, length, ap, ◌∙◌, refl, arith, Account}
use Rattle.task_deal.proofs.Common.{sum_of, account, Fits, HasRun, RanTaken}
use Rattle.task_deal.proofs.Sums.{sum_of-append}
use Rattle.task_deal.proofs.Gaining.{taken_more}
use Rattle.task_deal.proofs.Running.{spared}

pub sum_of_ones : {X : Type 0} (xs : List X) → sum_of (λ _. 1) xs ≡ length xs
sum_of_ones [] = refl
sum_of_ones (x ∷ xs) = omega (arith, sum_of_ones xs)

module _ {J W : Type 0} (work : J → W) (runs : J → List ℕ) (spare : J → ℕ) where
  pub idle_books : (v : Account) (j : J) → RanTaken runs v v j j
  idle_books v j = record { put = refl; ran = λ h. refl }

  pub books_on : (v w u : Account) (j k l : J) (x : ℕ) → RanTaken runs v w j k →
      u ≡ account w.parts w.put (w.taken ++ x ∷ []) → runs l ≡ runs k ++ x ∷ [] → RanTaken runs v u j l
  books_on v w u j k l x a e more = record {
    put = ap (λ (y : Account). y.put) e ∙ a.put;
    ran = λ h.
        let m : sum_of h (runs l) ≡ sum_of h (runs k) + sum_of h (x ∷ []) = ap (sum_of h) more ∙
        sum_of-append h (runs k) (x ∷ []) in omega (arith, a.ran h, m, taken_more h w u (x ∷ []) e);
  }

  pub books_same : (v w u : Account) (j k : J) → RanTaken runs v w j k → u ≡ w → RanTaken runs v u j k
  books_same v w u j k a e = record {
    put = ap (λ (y : Account). y.put) e ∙ a.put;
    ran =
        λ h. let m : sum_of h u.taken ≡ sum_of h w.taken = ap (λ (y : Account). sum_of h y.taken) e in
        omega (arith, a.ran h, m);
  }

  pub may_run : (v w u : Account) (j k : J) (x : ℕ) → length v.put ≤ length v.taken + spare j →
      HasRun work runs spare j k → RanTaken runs v w j k → u ≡ account w.parts w.put (w.taken ++ x ∷ []) → Fits u →
      0 < spare k
  may_run v w u j k x fit a b e f = let one : ℕ → ℕ = λ _. 1 in
      let p : sum_of one u.put ≡ sum_of one v.put = ap (λ (y : Account). sum_of one y.put) e ∙ ap (sum_of one) b.put in
      omega (
        arith,
        fit,
        spared work runs spare j k a,
        b.ran one,
        f one,
        p,
        taken_more one w u (x ∷ []) e,
        sum_of_ones (runs k),
        sum_of_ones (runs j),
        sum_of_ones v.put,
        sum_of_ones v.taken,
      )
