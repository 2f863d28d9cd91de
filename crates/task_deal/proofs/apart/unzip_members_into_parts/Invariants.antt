use Rattle.task_deal.proofs.Common.{◌≡◌, ◌+◌, ◌≤◌, ◌++◌, ℕ, All, length, vec_len, vec_capacity, injector_view}
use Rattle.task_deal.proofs.Common.{IsInjectorPassOf, sum_of, backwards, HasPart, source_taken}
use Rattle.task_deal.proofs.apart.unzip_members_into_parts.Given as goal

abbrev pub decreases-loop-member : goal.decreases-loop-member
decreases-loop-member g l = vec_len l.members

abbrev pub invariant-loop-member : goal.invariant-loop-member
invariant-loop-member g l =
    (IsInjectorPassOf l.source l.owner × (l.owner.id ≡ 0) × ((injector_view l.owner).parts ≡ length l.members.items) ×
    ((injector_view l.owner).put ≡ (injector_view l.initial.owner).put))
    × All (λ m. HasPart l.source m.seat) l.members.items
    × ((length l.jobs.items + length l.members.items ≤ vec_capacity l.jobs) ×
    (length l.owns.items + length l.members.items ≤ vec_capacity l.owns) ×
    (length l.purses.items + length l.members.items ≤ vec_capacity l.purses))
    × (l.jobs.items ++ backwards (λ m. m.job) l.members.items ≡ backwards (λ m. m.job) l.initial.members.items)
    × (l.owns.items ++ backwards (λ m. m.seat.own) l.members.items ≡ backwards (λ m. m.seat.own)
    l.initial.members.items)
    × (l.purses.items ++ backwards (λ m. m.seat.purse) l.members.items ≡ backwards (λ m. m.seat.purse)
    l.initial.members.items)
    × ((h : ℕ → ℕ) → sum_of h (injector_view l.owner).taken + sum_of (source_taken h) l.members.items ≡ sum_of h
    (injector_view l.initial.owner).taken + sum_of (source_taken h) l.initial.members.items)
