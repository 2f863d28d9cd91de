use Rattle.cost_curve.proofs.Common.{arith}
use Rattle.cost_curve.proofs.Lemmas.{IsStart-one}
use Rattle.cost_curve.proofs.walk.first_envelope_point.Goals as goal

pub loop-index-init : goal.loop-index-init
loop-index-init c = (omega arith, IsStart-one c.args.points.now)
