use Rattle.task_deal.proofs.Common.{◌≡◌, injector_view, IsInjectorPassOf, RanTaken, HasRun}
use Rattle.task_deal.proofs.drain.run_tasks_left_in_shared_queue.Given as goal

abbrev pub invariant-loop : goal.invariant-loop
invariant-loop g l = (goal.iterator-loop g).can_next l.iterator' × (goal.iterator-loop g).is_finite l.iterator' ×
    IsInjectorPassOf l.source l.pass × (l.pass.id ≡ 0) ×
    HasRun g.J.Job.work g.J.Job.runs g.J.Job.spare l.initial.job l.job
    × RanTaken g.J.Job.runs (injector_view l.initial.pass) (injector_view l.pass) l.initial.job l.job ×
    ((injector_view l.pass).parts ≡ 0)
