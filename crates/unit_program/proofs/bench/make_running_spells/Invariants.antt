use Rattle.unit_program.proofs.Common.{◌≡◌, ◌≤◌, length, vec_capacity, HaveRoom}
use Rattle.unit_program.proofs.bench.make_running_spells.Given as goal

abbrev pub invariant-loop : goal.invariant-loop
invariant-loop l = record {
  count : length l.spells.items ≡ l.counter;
  capacity : l.count ≤ vec_capacity l.spells;
  room : HaveRoom l.pieces l.spells.items;
}
