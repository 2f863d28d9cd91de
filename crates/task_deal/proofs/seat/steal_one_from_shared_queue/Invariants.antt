use Rattle.task_deal.proofs.Common.{IsSeatOf, Gains, SameDeque}
use Rattle.task_deal.proofs.seat.steal_one_from_shared_queue.Given as goal

abbrev pub invariant-loop : goal.invariant-loop
invariant-loop g l = (goal.iterator-loop g).can_next l.iterator' × (goal.iterator-loop g).is_finite l.iterator' ×
    IsSeatOf l.shared l.seat × SameDeque l.initial.seat l.seat × Gains (λ h. 0) l.initial.seat l.seat
