use Rattle.std.proofs.Common.{◌≡◌}
use Rattle.bundle_master.proofs.units.set_newton_steps_of_units.Given as goal

abbrev pub invariant-loop-unit : goal.invariant-loop-unit
invariant-loop-unit l = l.units ≡ l.initial.units
