use Rattle.bundle_columns.proofs.Common.{◌<◌, length}
use Rattle.bundle_columns.proofs.weights.index_of_greatest_number.Given as goal

abbrev pub invariant-loop-index : goal.invariant-loop-index
invariant-loop-index l = l.best < length l.numbers.items
