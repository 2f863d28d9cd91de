-- What jobs have run.
use Rattle.std.specs.Prelude.{◌≡◌, ℕ, zero, suc, ◌+◌, List, [], ◌∷◌, ◌++◌, length, drop}
use Rattle.std.specs.Prelude.{IsPermutation}
use Rattle.std.specs.List.{AllZip, concat}
use Rattle.plain_lists.specs.Sums.{zip_with}

-- the numbers below n, upwards
abbrev pub below : ℕ → List ℕ
below zero = []
below (suc n) = below n ++ n ∷ []

-- the numbers that a job has run in between
abbrev pub added : {J : Type 0} → (J → List ℕ) → J → J → List ℕ
added runs before after = drop (length (runs before)) (runs after)

-- the same of each job, at its place in the list
abbrev pub all_added : {J : Type 0} → (J → List ℕ) → List J → List J → List (List ℕ)
all_added runs before after = zip_with (added runs) before after

-- the job works on the same, has run what it had run and then more, and has as much less to spare
pub record HasRun {J W : Type 0} (work : J → W) (runs : J → List ℕ) (spare : J → ℕ)
    (before after : J) : Type 0 where
  pub works_on : work after ≡ work before
  pub ran : runs after ≡ runs before ++ added runs before after
  pub spares : spare after + length (added runs before after) ≡ spare before

-- each job, at its place, has run more, and what all of them added is each number below `tasks`
-- once, in some order
pub record IsDealt {J W : Type 0} (work : J → W) (runs : J → List ℕ) (spare : J → ℕ) (tasks : ℕ)
    (before after : List J) : Type 0 where
  pub jobs : AllZip (HasRun work runs spare) before after
  pub once : IsPermutation (below tasks) (concat (all_added runs before after))
