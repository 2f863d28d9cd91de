use Rattle.case_make.proofs.Common.{◌≡◌, ◌+◌, ◌≤◌, map, range_with_len, most_at, moved_on}
use Rattle.case_make.proofs.renewables.draw_powers.Given as goal

abbrev pub invariant-loop : goal.invariant-loop
invariant-loop l = record {
  so_far : l.powers.items ≡ map (most_at l.fn.random 0) (range_with_len 0 l.counter);
  moved : l.random ≡ moved_on (1 + l.counter) l.fn.random;
  room : 48 ≤ l.powers.spare + l.counter;
}
