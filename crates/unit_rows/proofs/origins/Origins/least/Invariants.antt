use Rattle.unit_rows.proofs.Common.{thermal_of}
use Rattle.unit_rows.proofs.Lemmas.{IsLeastUpTo}
use Rattle.unit_rows.proofs.origins.Origins.least.Given as goal

abbrev pub invariant-loop-index : goal.invariant-loop-index
invariant-loop-index l = IsLeastUpTo (thermal_of l.unit) l.period l.self l.index l.least
