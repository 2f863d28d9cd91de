use Rattle.answer_workers.proofs.Common.{◌≡◌, ◌≤◌, length, vec_capacity, Market, All, IsHeldFor, MOST_HELD}
use Rattle.answer_workers.proofs.worker.make_task_and_answer_buffers.Given as goal

abbrev pub invariant-loop : goal.invariant-loop
invariant-loop l = record {
  count : length l.held.items ≡ l.counter;
  room : MOST_HELD ≤ vec_capacity l.held;
  fits : (m : Market) → m.periods ≡ l.periods → All (IsHeldFor m) l.held.items;
}
