use Rattle.bundle_columns.proofs.Common.{◌≡◌, length}
use Rattle.bundle_columns.proofs.pool.copy_powers.Given as goal

abbrev pub invariant-loop-k : goal.invariant-loop-k
invariant-loop-k l = length l.into.items ≡ length l.initial.into.items
