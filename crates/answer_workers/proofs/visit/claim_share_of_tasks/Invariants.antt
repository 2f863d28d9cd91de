use Rattle.answer_workers.proofs.Common.{IsWorkerOf, HasWorked, AreGiven}
use Rattle.answer_workers.proofs.visit.claim_share_of_tasks.Given as goal

abbrev pub invariant-loop-k : goal.invariant-loop-k
invariant-loop-k g l = record {
  own : IsWorkerOf l.board l.worker;
  worked : HasWorked l.initial.worker l.worker;
  given : AreGiven l.k l.worker;
}
