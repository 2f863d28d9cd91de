use Rattle.task_deal.proofs.Common.{◌≡◌, ◌<◌, List, length, injector_view, IsSettled, Each, IsEmptied, Ledger}
use Rattle.task_deal.proofs.drain.run_numbers_left.Given as goal

abbrev pub invariant-loop-at : goal.invariant-loop-at
invariant-loop-at g l = (0 < length l.jobs.items) × (length l.owns.items ≡ length l.fn.owns.items) ×
    IsSettled (injector_view l.owner) × Each (λ _ w. IsEmptied w) 0 l.at l.owns.items
    × ((first : List g.row.J.Denot) → Ledger g.J.Job.work g.J.Job.runs g.J.Job.spare l.shared.thieves.items l.tasks
    first l.fn.jobs.items (injector_view l.fn.owner) l.fn.owns.items →
    Ledger g.J.Job.work g.J.Job.runs g.J.Job.spare l.shared.thieves.items l.tasks first l.jobs.items
    (injector_view l.owner) l.owns.items)
