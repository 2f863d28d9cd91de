use Rattle.unit_program.proofs.Common.{◌≡◌, ◌≤◌, length, vec_capacity}
use Rattle.unit_program.proofs.last.LastAnswers.make.Given as goal

abbrev pub invariant-loop : goal.invariant-loop
invariant-loop l = record {
  count : length l.last.items ≡ l.counter;
  capacity : l.units ≤ vec_capacity l.last;
}
