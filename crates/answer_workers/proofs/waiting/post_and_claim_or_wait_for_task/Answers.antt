use Rattle.answer_workers.proofs.Lemmas.{works_on}
use Rattle.answer_workers.proofs.waiting.post_and_claim_or_wait_for_task.Goals as goal

pub returns-clause-worked : goal.returns-clause-worked
returns-clause-worked g c = works_on c.args.worker.now c.post_answers_and_claim_tasks-outcome.new.worker
    c.poll_board_until_task_given.new.worker
    c.post_answers_and_claim_tasks-outcome.ensures.worked c.poll_board_until_task_given.ensures.worked
