use Rattle.task_deal.proofs.Lemmas.{begins, pushes}
use Rattle.task_deal.proofs.pour.make_shared_queue_of_tasks.Goals as goal

pub new_as-requires : goal.new_as-requires
new_as-requires g c = begins

pub push_as-requires-clause-rule : goal.push_as-requires-clause-rule
push_as-requires-clause-rule g c = pushes _ _ _ c.loop-task.invariant.1
