use Rattle.std.proofs.Common.{◌≡◌}
use Rattle.bundle_master.proofs.rows.add_rows_to_matrix.Given as goal

abbrev pub invariant-loop-row : goal.invariant-loop-row
invariant-loop-row l = l.matrix ≡ l.initial.matrix
