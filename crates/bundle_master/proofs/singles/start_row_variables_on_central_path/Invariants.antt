use Rattle.std.proofs.Common.{◌≡◌}
use Rattle.bundle_master.proofs.singles.start_row_variables_on_central_path.Given as goal

abbrev pub invariant-loop-single : goal.invariant-loop-single
invariant-loop-single l = l.singles ≡ l.initial.singles
