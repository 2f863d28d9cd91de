use Rattle.std.proofs.Common.{◌≡◌}
use Rattle.bundle_master.proofs.units.add_columns.Given as goal

abbrev pub invariant-loop-index : goal.invariant-loop-index
invariant-loop-index l = l.matrix ≡ l.initial.matrix
