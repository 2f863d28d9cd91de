use Rattle.plan_settle.proofs.Common.{◌≡◌, ◌+◌, ◌≤◌, length, map, take, held_mark}
use Rattle.plan_settle.proofs.copies.window_of_fixed_commitment.Given as goal

abbrev pub invariant-loop-index : goal.invariant-loop-index
invariant-loop-index l = record {
  marked : l.window.items ≡ map held_mark (take l.index l.on.items);
  room : length l.on.items ≤ l.index + l.window.spare;
}
