use Rattle.uc_mixture.proofs.Common.{◌≡◌, ◌*◌, pos, map, take, entry_of, weight_sum, IsFrom}
use Rattle.uc_mixture.proofs.weights.sum_of_weights.Given as goal

abbrev pub invariant-loop-entry : goal.invariant-loop-entry
invariant-loop-entry l = record {
  is : l.sum ≡ weight_sum (take l.entry-index (map entry_of l.entries));
  limit : IsFrom (pos 0) (pos (1000000000000 * l.entry-index)) l.sum;
}
