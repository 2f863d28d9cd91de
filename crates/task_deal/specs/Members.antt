-- What a worker has done.
use Rattle.std.specs.Prelude.{◌≡◌, ℕ, ◌+◌, List}
use Rattle.task_deal.specs.declared.rule.Shared.{Shared}
use Rattle.task_deal.specs.declared.member.Member.{Member}
use Rattle.task_deal.specs.Jobs.{HasRun}
use Rattle.task_deal.specs.Rule.{sum_of}
use Rattle.task_deal.specs.Seats.{gained, passed_on, IsSeatOf, SameDeque}

-- what it ran is what it gained and didn't pass on
abbrev pub Balances : {J : Type 0} → (J → List ℕ) → Member J → Member J → Type 0
Balances runs s t =
    (h : ℕ → ℕ) →
    sum_of h (runs t.job) + (gained h s.seat + passed_on h t.seat)
    ≡ sum_of h (runs s.job) + (gained h t.seat + passed_on h s.seat)

-- it stayed at its queues, its job ran more, and its accounts balance
pub record HasWorked {J W : Type 0} (shared : Shared) (work : J → W) (runs : J → List ℕ)
    (spare : J → ℕ) (s t : Member J) : Type 0 where
  pub seat : IsSeatOf shared t.seat
  pub same : SameDeque s.seat t.seat
  pub job : HasRun work runs spare s.job t.job
  pub balance : Balances runs s t
