use Rattle.std.proofs.Common.{◌≡◌}
use Rattle.bundle_master.proofs.singles.add_row_variables_to_matrix.Given as goal

abbrev pub invariant-loop-single : goal.invariant-loop-single
invariant-loop-single l = (l.singles ≡ l.initial.singles) × (l.matrix ≡ l.initial.matrix)
