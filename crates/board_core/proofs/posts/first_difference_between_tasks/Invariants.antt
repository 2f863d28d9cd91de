use Rattle.board_core.proofs.Common.{task_unit, prices_of, task_numbers, AreSame}
use Rattle.board_core.proofs.posts.first_difference_between_tasks.Given as goal

abbrev pub invariant-loop-place : goal.invariant-loop-place
invariant-loop-place l = AreSame (task_numbers (prices_of l.own.prices) (task_unit l.own))
    (task_numbers (prices_of l.task.prices) (task_unit l.task)) l.place
