use Rattle.std.proofs.Common.{◌≡◌, length}
use Rattle.dense_matrix.proofs.matrix.Matrix.solve.Given as goal

abbrev pub invariant-loop-done : goal.invariant-loop-done
invariant-loop-done l = (length l.right ≡ l.done-end) × (l.done-end ≡ l.self)
