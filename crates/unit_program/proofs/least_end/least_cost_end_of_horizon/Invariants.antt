use Rattle.unit_program.proofs.Common.{thermal_of, cost_at}
use Rattle.unit_program.proofs.Lemmas.{IsLeastOf}
use Rattle.unit_program.proofs.least_end.least_cost_end_of_horizon.Given as goal

abbrev pub invariant-loop-last : goal.invariant-loop-last
invariant-loop-last l = IsLeastOf (thermal_of l.unit) l.periods (cost_at l.rows) l.last l.least
