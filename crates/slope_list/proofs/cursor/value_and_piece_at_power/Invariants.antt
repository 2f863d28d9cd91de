use Rattle.slope_list.proofs.Common.{◌≡◌, ◌-◌, ◌≤◌, length, ◌≤ℤ◌, end_at, function_of}
use Rattle.slope_list.proofs.cursor.value_and_piece_at_power.Given as goal

abbrev pub decreases-loop-next : goal.decreases-loop-next
decreases-loop-next l = length l.pieces - l.next

abbrev pub invariant-loop-next : goal.invariant-loop-next
invariant-loop-next l = record {
  some : l.next ≤ length l.pieces;
  from_is : l.from ≡ end_at l.fn.start.first l.pieces l.next;
  low : l.from ≤ℤ l.at;
  value_is : l.value ≡ function_of l.fn.start l.pieces l.from;
}
