use Rattle.price_space.proofs.Common.{map, proposal_of, IsFirstUpTo, values_of}
use Rattle.price_space.proofs.best_row.row_of_greatest_dual_value.Given as goal

abbrev pub invariant-loop-i : goal.invariant-loop-i
invariant-loop-i l = IsFirstUpTo (values_of (map proposal_of l.rows)) l.i l.best
