use Rattle.std.proofs.Common.{◌<◌, length}
use Rattle.bundle_master.proofs.units.index_of_greatest_reduced_cost.Given as goal

abbrev pub invariant-loop-index : goal.invariant-loop-index
invariant-loop-index l = l.greatest < length l.columns
