use Rattle.answer_workers.proofs.Common.{IsWorkerOf, HasWorked}
use Rattle.answer_workers.proofs.waiting.poll_board_until_task_given.Given as goal

abbrev pub invariant-loop : goal.invariant-loop
invariant-loop g l = (goal.iterator-loop g).can_next l.iterator' × (goal.iterator-loop g).is_finite l.iterator' ×
    IsWorkerOf l.board l.worker × HasWorked l.initial.worker l.worker
