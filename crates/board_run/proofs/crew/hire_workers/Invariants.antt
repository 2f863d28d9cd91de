use Rattle.board_run.proofs.Common.{◌≤◌, vec_capacity, view_of, IsHired}
use Rattle.board_run.proofs.crew.hire_workers.Given as goal

abbrev pub invariant-loop : goal.invariant-loop
invariant-loop l = record {
  hired : IsHired (view_of l.fn.owner).setup l.board l.owner l.counter l.workers.items;
  room : l.count ≤ vec_capacity l.workers;
}
