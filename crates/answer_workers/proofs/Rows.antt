-- Rows of workers, of which one after another works.
use Rattle.answer_workers.proofs.Common.{◌≡◌, ◌≢◌, ℕ, suc, ◌+◌, ◌<◌, List, [], ◌∷◌, length, get_or, set, sym, subst}
use Rattle.answer_workers.proofs.Common.{arith, All, Contains, get_or-set_same, get_or-set_other, get_or_default}
use Rattle.answer_workers.proofs.Common.{length-set, All-cons, All-head, All-tail, SharedBoard, IsWorkerOf, HasWorked}
use Rattle.answer_workers.proofs.Common.{HaveWorked, HasFinished, Worker}
use native.Mathlib.Decide.{ℕ_discrete}
use Rattle.answer_workers.proofs.Steady.{rests, works_on, still_of}

abbrev pub EachWorked : List Worker → List Worker → Type 0
EachWorked old now = (j : ℕ) (d : Worker) → j < length old → HasWorked (get_or old j d) (get_or now j d)

abbrev pub EachFinished : ℕ → List Worker → Type 0
EachFinished k now = (j : ℕ) (d : Worker) → j < k → HasFinished (get_or now j d)

pub each_rests : (b : SharedBoard) (ws : List Worker) → All (IsWorkerOf b) ws → EachWorked ws ws
each_rests b ws of j d inside = rests (get_or ws j d) (of j d inside).parts

pub still_all_of : (b : SharedBoard) (old now : List Worker) → length now ≡ length old → All (IsWorkerOf b) old →
    EachWorked old now → All (IsWorkerOf b) now
still_all_of b old now same of worked j d inside =
    let l : j < length old = omega (arith, inside, same) in
    still_of b (get_or old j d) (get_or now j d) (of j d l) (worked j d l)

-- the worker at k works on
module _ (old now : List Worker) (k : ℕ) (y : Worker) (inside : k < length now) where
  at_set : (P : ℕ → Worker → Type 0) (d : Worker) → P k y → ((j : ℕ) → j ≢ k → P j (get_or now j d)) → (j : ℕ) →
      P j (get_or (set now k y) j d)
  at_set P d here other j = pick (ℕ_discrete j k)
    where
      pick : Dec (j ≡ k) → P j (get_or (set now k y) j d)
      pick (yes e) = subst (λ (i : ℕ). P i (get_or (set now k y) i d)) (sym e)
          (subst (P k) (sym (get_or-set_same now k y d inside)) here)
      pick (no n) = subst (P j) (sym (get_or-set_other now k j y d n)) (other j n)

  pub one_works : (x : Worker) → HasWorked (get_or now k x) y → EachWorked old now → EachWorked old (set now k y)
  one_works x works worked j d l = at_set (λ i w. i < length old → HasWorked (get_or old i d) w) d
      (λ at. works_on (get_or old k d) (get_or now k d) y (worked k d at)
      (subst (λ (w : Worker). HasWorked w y) (get_or_default now k x d inside) works))
      (λ i n at. worked i d at) j l

  pub one_there : Contains (set now k y) y
  one_there = let long = length-set now k y in (k, omega (arith, inside, long), get_or-set_same now k y y inside)

  pub one_finishes : HasFinished y → EachFinished k now → EachFinished (k + 1) (set now k y)
  one_finishes ends finished j d l =
      at_set (λ i w. i < k + 1 → HasFinished w) d (λ at. ends) (λ i n at. finished i d (omega (arith, n, at))) j l

pub zip_worked : (old now : List Worker) → length now ≡ length old → EachWorked old now → HaveWorked old now
zip_worked [] [] same worked = tt
zip_worked [] (y ∷ ys) same worked = absurd (omega (arith, same))
zip_worked (x ∷ xs) [] same worked = absurd (omega (arith, same))
zip_worked (x ∷ xs) (y ∷ ys) same worked =
    (worked 0 x (omega arith), zip_worked xs ys (omega (arith, same)) (λ j d l. worked (suc j) d (omega (arith, l))))

-- and one row after another
pub then_worked : (xs ys zs : List Worker) → HaveWorked xs ys → HaveWorked ys zs → HaveWorked xs zs
then_worked [] [] [] a b = tt
then_worked [] [] (z ∷ zs) a b = absurd b
then_worked [] (y ∷ ys) zs a b = absurd a
then_worked (x ∷ xs) [] zs a b = absurd a
then_worked (x ∷ xs) (y ∷ ys) [] a b = absurd b
then_worked (x ∷ xs) (y ∷ ys) (z ∷ zs) a b = (works_on x y z a.0 b.0, then_worked xs ys zs a.1 b.1)

pub all_still : (b : SharedBoard) (xs ys : List Worker) → All (IsWorkerOf b) xs → HaveWorked xs ys →
    All (IsWorkerOf b) ys
all_still b [] [] of worked = of
all_still b [] (y ∷ ys) of worked = absurd worked
all_still b (x ∷ xs) [] of worked = absurd worked
all_still b (x ∷ xs) (y ∷ ys) of worked =
    All-cons (IsWorkerOf b) y ys (still_of b x y (All-head (IsWorkerOf b) x xs of) worked.0)
    (all_still b xs ys (All-tail (IsWorkerOf b) x xs of) worked.1)
