use Rattle.task_deal.proofs.Common.{◌≡◌, ◌+◌, ◌≤◌, ◌++◌, ℕ, All, length, vec_len, vec_capacity, injector_view}
use Rattle.task_deal.proofs.Common.{IsInjectorPassOf, account, sum_of, backwards, HasPart, source_taken}
use Rattle.task_deal.proofs.apart.make_members.Given as goal

abbrev pub decreases-loop-job : goal.decreases-loop-job
decreases-loop-job g l = vec_len l.jobs

abbrev pub invariant-loop-job : goal.invariant-loop-job
invariant-loop-job g l =
    (IsInjectorPassOf l.source l.owner × (l.owner.id ≡ 0) ×
    (injector_view l.owner ≡ account (length l.members.items) (injector_view l.initial.owner).put
    (injector_view l.initial.owner).taken))
    × (All (λ m. HasPart l.source m.seat) l.members.items × ((h : ℕ → ℕ) → sum_of (source_taken h) l.members.items ≡ 0))
    × ((length l.owns.items ≡ length l.jobs.items) × (length l.purses.items ≡ length l.jobs.items) ×
    (length l.jobs.items + length l.members.items ≤ vec_capacity l.members))
    × (l.jobs.items ++ backwards (λ m. m.job) l.members.items ≡ l.initial.jobs.items)
    × (l.owns.items ++ backwards (λ m. m.seat.own) l.members.items ≡ l.initial.owns.items)
    × (l.purses.items ++ backwards (λ m. m.seat.purse) l.members.items ≡ l.initial.purses.items)
    × ((vec_capacity l.jobs ≡ vec_capacity l.initial.jobs) × (vec_capacity l.owns ≡ vec_capacity l.initial.owns) ×
    (vec_capacity l.purses ≡ vec_capacity l.initial.purses))
