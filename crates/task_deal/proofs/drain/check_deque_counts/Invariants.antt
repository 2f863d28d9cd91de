use Rattle.task_deal.proofs.Common.{◌≡◌, length, worker_view, Fits, HaveTaken, Each, Stands}
use Rattle.task_deal.proofs.drain.check_deque_counts.Given as goal

abbrev pub invariant-loop-at : goal.invariant-loop-at
invariant-loop-at l = (length l.owns.items ≡ length l.initial.owns.items) ×
    Each (Stands l.shared.thieves.items 0) 0 (length l.owns.items) l.owns.items ×
    HaveTaken (λ h. 0) l.initial.owns.items l.owns.items × Each (λ _ w. Fits (worker_view w)) 0 l.at l.owns.items
