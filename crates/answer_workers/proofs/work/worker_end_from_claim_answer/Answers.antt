use Rattle.answer_workers.proofs.Common.{subst, Worker, IsEnd}
use Rattle.board_core.specs.declared.replies.Claim.{Claim}
use Rattle.answer_workers.proofs.work.worker_end_from_claim_answer.Goals as goal

pub returns-in-Halted-clause-ended : goal.returns-in-Halted-clause-ended
returns-in-Halted-clause-ended c = λ (w : Worker) told. subst (λ (end : Claim). IsEnd end w) c.in-Halted.is told

pub returns-in-Given-clause-ended : goal.returns-in-Given-clause-ended
returns-in-Given-clause-ended c = tt
