use Rattle.case_make.proofs.Common.{◌≡◌, ◌+◌, ◌≤◌, pos, map, take, length}
use Rattle.case_make.proofs.renewables.numbers_of_powers.Given as goal

abbrev pub invariant-loop-power : goal.invariant-loop-power
invariant-loop-power l = record {
  so_far : l.numbers.items ≡ map pos (take l.power-index l.powers.items);
  room : length l.powers.items ≤ l.numbers.spare + l.power-index;
}
