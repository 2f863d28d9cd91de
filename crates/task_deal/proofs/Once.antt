-- After a deal the jobs have added each number once, and what follows.
use Rattle.task_deal.proofs.Common.{◌≡◌, ℕ, zero, suc, ◌+◌, ◌<◌, ℤ, pos, negsuc, ◌+ℤ◌, List, [], ◌∷◌, map, sym, refl}
use Rattle.task_deal.proofs.Common.{ap, ◌∙◌, subst, ⊎_elim, arith, Contains, IsPermutation, sum_by, AllZip, concat}
use Rattle.task_deal.proofs.Common.{Contains-append_left, Contains-push, Contains-push_cases, Contains-permutation}
use Rattle.task_deal.proofs.Common.{IsPermutation-sym, sum_by-IsPermutation, below, added, all_added, HasRun, IsDealt}
use Rattle.task_deal.proofs.Common.{run_sum, sum_of}
use Rattle.std.proofs.lemmas.Int.{ints}
use Rattle.std.proofs.lemmas.List.Sums.{sum_by-cons}
use Rattle.plain_lists.specs.Sums.{total, sum_below}
use Rattle.plain_lists.proofs.ListLaws.{map-append, total-append}
use Rattle.task_deal.specs.Laws.{SumsOverJobsEqualSumOverTasks, JobsRanExactlyTheTasks}
use Rattle.task_deal.proofs.Orders.{permutes}
use Rattle.task_deal.proofs.Places.{split_le}
use Rattle.task_deal.proofs.Running.{weighs}
use Rattle.task_deal.proofs.Sums.{sum_of-append}

module _ {J W : Type 0} (work : J → W) (runs : J → List ℕ) (spare : J → ℕ) where
  -- what all jobs added weighs what they have run more
  all_weigh : (h : ℕ → ℕ) (first now : List J) → AllZip (HasRun work runs spare) first now →
      sum_of (run_sum runs h) now ≡ sum_of (run_sum runs h) first + sum_of h (concat (all_added runs first now))
  all_weigh h [] [] zip = refl
  all_weigh h [] (y ∷ ys) zip = absurd zip
  all_weigh h (x ∷ xs) [] zip = absurd zip
  all_weigh h (x ∷ xs) (y ∷ ys) zip =
      omega (
        arith,
        weighs work runs spare h x y zip.0,
        all_weigh h xs ys zip.1,
        sum_of-append h (added runs x y) (concat (all_added runs xs ys)),
      )

  pub each_once : (tasks : ℕ) (first now : List J) → AllZip (HasRun work runs spare) first now →
      ((h : ℕ → ℕ) → sum_of (run_sum runs h) now ≡ sum_of (run_sum runs h) first + sum_of h (below tasks))
      → IsPermutation (below tasks) (concat (all_added runs first now))
  each_once tasks first now zip once =
      permutes (below tasks) (concat (all_added runs first now)) (λ h. omega (arith, once h, all_weigh h first now zip))

-- the parts of a whole number above and below 0
abbrev above : ℤ → ℕ
above (pos n) = n
above (negsuc n) = 0

abbrev under : ℤ → ℕ
under (pos n) = 0
under (negsuc n) = suc n

two_parts : (z : ℤ) → z +ℤ pos (under z) ≡ pos (above z)
two_parts (pos n) = omega (arith, ints)
two_parts (negsuc n) = omega (arith, ints)

two_sums : (f : ℕ → ℤ) (xs : List ℕ) →
    total (map f xs) +ℤ pos (sum_by (λ x. under (f x)) xs) ≡ pos (sum_by (λ x. above (f x)) xs)
two_sums f [] = refl
two_sums f (x ∷ xs) = omega (
  arith,
  ints,
  two_parts (f x),
  two_sums f xs,
  sum_by-cons (λ y. under (f y)) x xs,
  sum_by-cons (λ y. above (f y)) x xs,
)

same_total : (f : ℕ → ℤ) (xs ys : List ℕ) → IsPermutation xs ys → total (map f ys) ≡ total (map f xs)
same_total f xs ys order = omega (
  arith,
  ints,
  two_sums f xs,
  two_sums f ys,
  sum_by-IsPermutation (λ x. under (f x)) xs ys order,
  sum_by-IsPermutation (λ x. above (f x)) xs ys order,
)

total_below : (n : ℕ) (f : ℕ → ℤ) → total (map f (below n)) ≡ sum_below n f
total_below zero f = refl
total_below (suc n) f = omega (
  arith,
  ints,
  total_below n f,
  ap total (map-append f (below n) (n ∷ [])),
  total-append (map f (below n)) (f n ∷ []),
)

total_concat : (f : ℕ → ℤ) (lists : List (List ℕ)) →
    total (map f (concat lists)) ≡ total (map (λ one. total (map f one)) lists)
total_concat f [] = refl
total_concat f (xs ∷ lists) =
    omega (
      arith,
      ints,
      total_concat f lists,
      ap total (map-append f xs (concat lists)),
      total-append (map f xs) (map f (concat lists)),
    )

pub sums_are_dealt : SumsOverJobsEqualSumOverTasks
sums_are_dealt tasks numbers f order = sym (total_concat f numbers) ∙
    (same_total f (below tasks) (concat numbers) order ∙ total_below tasks f)

module _ {J W : Type 0} (work : J → W) (runs : J → List ℕ) (spare : J → ℕ) (value : J → ℤ) (f : ℕ → ℤ) where
  values_grow : (before after : List J) → AllZip (λ i j. value j ≡ value i +ℤ total (map f (added runs i j))) before
      after → total (map value after) ≡ total (map value before) +ℤ total
      (map (λ one. total (map f one)) (all_added runs before after))
  values_grow [] [] zip = refl
  values_grow [] (j ∷ js) zip = absurd zip
  values_grow (i ∷ is) [] zip = absurd zip
  values_grow (i ∷ is) (j ∷ js) zip = omega (arith, ints, zip.0, values_grow is js zip.1)

  pub values_dealt : (tasks : ℕ) (before after : List J) → IsDealt work runs spare tasks before after →
      AllZip (λ i j. value j ≡ value i +ℤ total (map f (added runs i j))) before after →
      total (map value after) ≡ total (map value before) +ℤ sum_below tasks f
  values_dealt tasks before after dealt zip = values_grow before after zip ∙
      ap (λ s. total (map value before) +ℤ s) (sums_are_dealt tasks (all_added runs before after) f dealt.once)

below_has : (tasks n : ℕ) → n < tasks → Contains (below tasks) n
below_has zero n less = absurd (omega (arith, less))
below_has (suc k) n less = ⊎_elim
    (λ (e : n ≡ k). subst (λ m. Contains (below (suc k)) m) (sym e) (Contains-push (below k) k))
    (λ (l : n < k). Contains-append_left (below k) (k ∷ []) n (below_has k n l))
    (split_le n k (omega (arith, less)))

only_below : (tasks n : ℕ) → Contains (below tasks) n → n < tasks
only_below zero n has = absurd (omega (arith, has.1))
only_below (suc k) n has = ⊎_elim
    (λ (h : Contains (below k) n). omega (arith, only_below k n h))
    (λ (e : k ≡ n). omega (arith, e))
    (Contains-push_cases (below k) k n has)

pub numbers_are_dealt : JobsRanExactlyTheTasks
numbers_are_dealt tasks numbers n order = (
  (λ less. Contains-permutation (below tasks) (concat numbers) n order (below_has tasks n less)),
  (λ has. only_below tasks n (Contains-permutation (concat numbers) (below tasks) n
      (IsPermutation-sym (below tasks) (concat numbers) order) has)),
)
