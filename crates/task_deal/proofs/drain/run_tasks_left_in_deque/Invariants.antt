use Rattle.task_deal.proofs.Common.{◌≡◌, worker_view, SameWorker, RanTaken, HasRun}
use Rattle.task_deal.proofs.drain.run_tasks_left_in_deque.Given as goal

abbrev pub invariant-loop : goal.invariant-loop
invariant-loop g l = (goal.iterator-loop g).can_next l.iterator' × (goal.iterator-loop g).is_finite l.iterator' ×
    SameWorker l.initial.own l.own × HasRun g.J.Job.work g.J.Job.runs g.J.Job.spare l.initial.job l.job
    × RanTaken g.J.Job.runs (worker_view l.initial.own) (worker_view l.own) l.initial.job l.job ×
    ((worker_view l.own).parts ≡ 0)
