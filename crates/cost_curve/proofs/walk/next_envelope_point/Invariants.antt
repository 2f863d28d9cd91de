use Rattle.cost_curve.proofs.Common.{IsWayOn}
use Rattle.cost_curve.proofs.walk.next_envelope_point.Given as goal

abbrev pub invariant-loop-index : goal.invariant-loop-index
invariant-loop-index l = IsWayOn l.points l.from l.index l.found
