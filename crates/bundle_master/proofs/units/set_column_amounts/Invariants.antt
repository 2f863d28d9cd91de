use Rattle.std.proofs.Common.{◌≡◌}
use Rattle.bundle_master.proofs.units.set_column_amounts.Given as goal

abbrev pub invariant-loop-period : goal.invariant-loop-period
invariant-loop-period l = l.amounts ≡ l.initial.amounts
