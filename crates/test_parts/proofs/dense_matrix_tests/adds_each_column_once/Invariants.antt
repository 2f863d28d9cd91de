use Rattle.std.proofs.Common.{◌≡◌}
use Rattle.test_parts.proofs.dense_matrix_tests.adds_each_column_once.Given as goal

abbrev pub invariant-loop : goal.invariant-loop
invariant-loop g l = l.matrix ≡ 2
