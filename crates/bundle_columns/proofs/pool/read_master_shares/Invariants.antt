use Rattle.bundle_columns.proofs.Common.{◌≡◌, length}
use Rattle.bundle_columns.proofs.pool.read_master_shares.Given as goal

abbrev pub invariant-loop-index : goal.invariant-loop-index
invariant-loop-index l = length l.wanted.items ≡ length l.initial.wanted.items
