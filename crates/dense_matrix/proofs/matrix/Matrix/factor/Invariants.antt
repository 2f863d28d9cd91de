use Rattle.std.proofs.Common.{◌≡◌}
use Rattle.dense_matrix.proofs.matrix.Matrix.factor.Given as goal

abbrev pub invariant-loop-row : goal.invariant-loop-row
invariant-loop-row l = l.self ≡ l.initial.self

abbrev pub invariant-loop-pivot : goal.invariant-loop-pivot
invariant-loop-pivot l = (l.self ≡ l.pivot-end) × (l.self ≡ l.initial.self)
