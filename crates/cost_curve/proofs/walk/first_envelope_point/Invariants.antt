use Rattle.cost_curve.proofs.Common.{◌<◌, point_at, IsStart}
use Rattle.cost_curve.proofs.walk.first_envelope_point.Given as goal

abbrev pub invariant-loop-index : goal.invariant-loop-index
invariant-loop-index l = (l.best < l.index) × IsStart (point_at l.points l.best) l.index l.points
