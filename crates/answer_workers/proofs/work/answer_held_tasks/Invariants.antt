use Rattle.answer_workers.proofs.Common.{◌≡◌, HasParts, market_at, AreGiven, AreAnswered}
use Rattle.answer_workers.proofs.work.answer_held_tasks.Given as goal

abbrev pub invariant-loop-k : goal.invariant-loop-k
invariant-loop-k g l = record {
  seat : l.worker.seat ≡ l.initial.worker.seat;
  parts : HasParts (market_at l.worker.seat) l.worker;
  given : AreGiven l.given l.worker;
  answered : AreAnswered l.k l.worker;
}
