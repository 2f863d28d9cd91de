use Rattle.answer_workers.proofs.Common.{◌≡◌, length}
use Rattle.answer_workers.proofs.Lemmas.{EachWorked, EachFinished}
use Rattle.answer_workers.proofs.all.find_how_workers_ended.Given as goal

abbrev pub invariant-loop-k : goal.invariant-loop-k
invariant-loop-k g l = record {
  count : length l.workers ≡ length l.initial.workers;
  worked : EachWorked l.initial.workers l.workers;
  finished : EachFinished l.k l.workers;
}
