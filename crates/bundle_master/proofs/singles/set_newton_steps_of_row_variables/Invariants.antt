use Rattle.std.proofs.Common.{◌≡◌}
use Rattle.bundle_master.proofs.singles.set_newton_steps_of_row_variables.Given as goal

abbrev pub invariant-loop-single : goal.invariant-loop-single
invariant-loop-single l = l.singles ≡ l.initial.singles
