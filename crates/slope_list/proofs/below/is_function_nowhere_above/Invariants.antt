use Rattle.slope_list.proofs.Common.{◌-◌, ◌+◌, length, ◌≤ℤ◌, IsReached, IsUnderTo}
use Rattle.slope_list.proofs.below.is_function_nowhere_above.Given as goal

abbrev pub invariant-loop-there : goal.invariant-loop-there
invariant-loop-there l = record {
  from : l.fn.other.first ≤ℤ l.at;
  here : IsReached l.fn.start l.pieces l.at l.here;
  there : IsReached l.fn.other l.others l.at l.there;
  under : IsUnderTo l.fn.start l.pieces l.fn.other l.others l.shift l.at;
}

abbrev pub decreases-loop-there : goal.decreases-loop-there
decreases-loop-there l = (length l.pieces - l.here.next) + (length l.others - l.there.next)
