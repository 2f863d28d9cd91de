use Rattle.std.proofs.Common.{◌≡◌}
use Rattle.bundle_master.proofs.units.add_units_to_newton_right_side.Given as goal

abbrev pub invariant-loop-unit : goal.invariant-loop-unit
invariant-loop-unit l = l.units ≡ l.initial.units
