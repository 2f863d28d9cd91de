use Rattle.answer_workers.proofs.Lemmas.{works_on}
use Rattle.answer_workers.proofs.visit.post_answers_and_claim_tasks.Goals as goal

pub returns-clause-worked : goal.returns-clause-worked
returns-clause-worked g c = works_on c.args.worker.now c.post_answers.new.worker c.claim_share_of_tasks.new.worker
    c.post_answers.ensures c.claim_share_of_tasks.ensures.worked
