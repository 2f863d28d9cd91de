use Rattle.answer_workers.proofs.Common.{◌≡◌, IsWorkerOf, HasWorked}
use Rattle.answer_workers.proofs.visit.post_answers.Given as goal

abbrev pub invariant-loop-k : goal.invariant-loop-k
invariant-loop-k g l = record {
  own : IsWorkerOf l.board l.worker;
  worked : HasWorked l.initial.worker l.worker;
  held : l.worker.held ≡ l.initial.worker.held;
}
