use Rattle.answer_workers.proofs.Common.{IsWorkerOf, HasWorked, AreAnswered}
use Rattle.answer_workers.proofs.work.answer_tasks_until_board_ends.Given as goal

abbrev pub invariant-loop : goal.invariant-loop
invariant-loop g l = (goal.iterator-loop g).can_next l.iterator' × (goal.iterator-loop g).is_finite l.iterator' ×
    IsWorkerOf l.board l.worker × HasWorked l.initial.worker l.worker × AreAnswered l.answered l.worker
