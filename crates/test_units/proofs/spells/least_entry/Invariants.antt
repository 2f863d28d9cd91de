use Rattle.test_units.proofs.Common.{thermal_of, cost_at}
use Rattle.test_units.proofs.Lemmas.{IsLeastSoFar}
use Rattle.test_units.proofs.spells.least_entry.Given as goal

abbrev pub invariant-loop-last : goal.invariant-loop-last
invariant-loop-last l = IsLeastSoFar (thermal_of l.unit) (cost_at l.rows) l.before l.last l.least
