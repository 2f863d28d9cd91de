use Rattle.task_deal.proofs.Common.{◌≡◌, [], injector_view, IsInjectorPassOf, account, below}
use Rattle.task_deal.proofs.pour.make_shared_queue_of_tasks.Given as goal

abbrev pub invariant-loop-task : goal.invariant-loop-task
invariant-loop-task g l = IsInjectorPassOf l.source l.pass × (l.pass.id ≡ 0) ×
    (injector_view l.pass ≡ account 0 (below l.task) [])
