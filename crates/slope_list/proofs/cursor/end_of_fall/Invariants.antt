use Rattle.slope_list.proofs.Common.{ℕ, ◌-◌, ◌<◌, ◌≤◌, length, pos, ◌<ℤ◌, piece}
use Rattle.slope_list.proofs.cursor.end_of_fall.Given as goal

abbrev pub decreases-loop-next : goal.decreases-loop-next
decreases-loop-next l = length l.pieces - l.next

abbrev pub invariant-loop-next : goal.invariant-loop-next
invariant-loop-next l = record {
  some : l.next ≤ length l.pieces;
  falls : (k : ℕ) → k < l.next → (piece l.pieces k).slope <ℤ pos 0;
}
