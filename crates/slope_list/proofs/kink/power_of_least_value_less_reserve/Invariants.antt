use Rattle.slope_list.proofs.Common.{ℤ, pos, ◌+ℤ◌, ◌≤ℤ◌, ◌<ℤ◌, kinked, parts_from, IsPlaced}
use Rattle.slope_list.proofs.kink.power_of_least_value_less_reserve.Given as goal

abbrev pub decreases-loop-cursor : goal.decreases-loop-cursor
decreases-loop-cursor l = parts_from l.pieces l.step l.cursor

abbrev pub invariant-loop-cursor : goal.invariant-loop-cursor
invariant-loop-cursor l = record {
  placed : IsPlaced l.fn.start.first l.pieces l.cursor;
  falls : (x : ℤ) → l.fn.start.first ≤ℤ x → x <ℤ l.cursor.at →
      kinked l.fn.start l.pieces l.step (x +ℤ pos 1) <ℤ kinked l.fn.start l.pieces l.step x;
}
