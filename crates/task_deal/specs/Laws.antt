-- What follows from a deal. Each law is the clause of a public function of its name.
use Rattle.std.specs.Prelude.{◌≡◌, ◌<◌, ◌↔◌, ℕ, ℤ, ◌+ℤ◌, List, map, Contains, IsPermutation}
use Rattle.std.specs.List.{AllZip, concat}
use Rattle.plain_lists.specs.Sums.{total, sum_below}
use Rattle.task_deal.specs.Jobs.{below, added, IsDealt}

-- the sums of f over each job's numbers make up the sum of f over all numbers
abbrev pub SumsOverJobsEqualSumOverTasks : Type 0
SumsOverJobsEqualSumOverTasks =
    (tasks : ℕ) (numbers : List (List ℕ)) (f : ℕ → ℤ) →
    IsPermutation (below tasks) (concat numbers) →
    total (map (λ one. total (map f one)) numbers) ≡ sum_below tasks f

-- where the value of each job grew by f of each number that it ran, all jobs' values together grew
-- by the sum of f over all numbers
abbrev pub JobValuesGrowBySumOverTasks : {J W : Type 0} → (J → W) → (J → List ℕ) → (J → ℕ) → Type 0
JobValuesGrowBySumOverTasks {J} work runs spare =
    (tasks : ℕ) (before after : List J) (value : J → ℤ) (f : ℕ → ℤ) →
    IsDealt work runs spare tasks before after →
    AllZip (λ i j. value j ≡ value i +ℤ total (map f (added runs i j))) before after →
    total (map value after) ≡ total (map value before) +ℤ sum_below tasks f

-- each number below `tasks` is there, and no other
abbrev pub JobsRanExactlyTheTasks : Type 0
JobsRanExactlyTheTasks =
    (tasks : ℕ) (numbers : List (List ℕ)) (n : ℕ) →
    IsPermutation (below tasks) (concat numbers) →
    (n < tasks) ↔ Contains (concat numbers) n
