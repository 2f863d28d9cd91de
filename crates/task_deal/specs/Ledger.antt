-- The accounts of all queues and all jobs together, after the threads.
use Rattle.std.specs.Prelude.{◌≡◌, ℕ, ◌+◌, ◌≤◌, List, length, All}
use Rattle.std.specs.List.{AllZip}
use Rattle.crossbeam_deque.specs.Handles.{worker_view}
use Rattle.crossbeam_deque.specs.declared.handles.Stealer.{Stealer}
use Rattle.crossbeam_deque.specs.declared.handles.Worker.{Worker}
use Rattle.std.specs.declared.alloc.Global.{Global}
use Rattle.task_deal.specs.declared.rule.Account.{Account}
use Rattle.task_deal.specs.Jobs.{below, HasRun}
use Rattle.task_deal.specs.Rule.{sum_of, Fits}
use Rattle.task_deal.specs.Seats.{Each, Stands, own_taken, own_put}

-- all that was put into the deque was taken
abbrev pub IsEmptied : {Q : Type 0} → Worker ℕ Global Account Q → Type 0
IsEmptied w = (h : ℕ → ℕ) → own_put h w ≡ own_taken h w

-- what the job has run, weighed by h
abbrev pub run_sum : {J : Type 0} → (J → List ℕ) → (ℕ → ℕ) → J → ℕ
run_sum runs h j = sum_of h (runs j)

-- `first` are the jobs before the deal, `v` the owner's account of the source
pub record Ledger {J W Q : Type 0} (work : J → W) (runs : J → List ℕ) (spare : J → ℕ)
    (thieves : List (Stealer ℕ Global Account Q)) (tasks : ℕ) (first now : List J) (v : Account)
    (owns : List (Worker ℕ Global Account Q)) : Type 0 where
  pub stands : Each (Stands thieves 0) 0 (length owns) owns
  pub fits : All (λ w. Fits (worker_view w)) owns
  pub parts : v.parts ≡ 0
  pub put : v.put ≡ below tasks
  pub balance :
      (h : ℕ → ℕ) →
      sum_of (run_sum runs h) now + sum_of (own_put h) owns
      ≡ (sum_of (run_sum runs h) first + sum_of h v.taken) + sum_of (own_taken h) owns
  pub jobs : AllZip (HasRun work runs spare) first now
  pub spares : All (λ j. tasks ≤ spare j) first
