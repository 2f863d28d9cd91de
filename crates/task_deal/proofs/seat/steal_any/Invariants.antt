use Rattle.task_deal.proofs.Common.{IsSeatOf, Gains, SameDeque}
use Rattle.task_deal.proofs.seat.steal_any.Given as goal

abbrev pub invariant-loop-at : goal.invariant-loop-at
invariant-loop-at g l = IsSeatOf l.shared l.seat × SameDeque l.initial.seat l.seat ×
    Gains (λ h. 0) l.initial.seat l.seat
