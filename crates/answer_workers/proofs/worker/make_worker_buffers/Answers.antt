use Rattle.answer_workers.proofs.Common.{length, ap, ◌∙◌, length-replicate}
use Rattle.answer_workers.proofs.worker.make_worker_buffers.Goals as goal

pub returns-clause-answer : goal.returns-clause-answer
returns-clause-answer c = ap length c.in_ok-answer.ensures.on ∙ length-replicate _ _

pub returns-clause-task : goal.returns-clause-task
returns-clause-task c = c.in_ok-task.ensures.room
