use Rattle.case_make.proofs.Common.{◌≡◌, ◌+◌, ◌≤◌, map, range_with_len, power_at}
use Rattle.case_make.proofs.schedules.powers_with_peak_hours.Given as goal

abbrev pub invariant-loop-index : goal.invariant-loop-index
invariant-loop-index l = record {
  so_far : l.powers.items ≡ map (power_at l.level l.high) (range_with_len 0 l.index);
  room : 48 ≤ l.powers.spare + l.index;
}
