use Rattle.std.proofs.Common.{◌≡◌}
use Rattle.bundle_master.proofs.units.start_units_on_central_path.Given as goal

abbrev pub invariant-loop-unit : goal.invariant-loop-unit
invariant-loop-unit l = l.units ≡ l.initial.units
