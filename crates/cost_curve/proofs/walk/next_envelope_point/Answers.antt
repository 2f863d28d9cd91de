use Rattle.cost_curve.proofs.Lemmas.{IsWayOn-none}
use Rattle.cost_curve.proofs.walk.next_envelope_point.Goals as goal

pub loop-index-init : goal.loop-index-init
loop-index-init c = IsWayOn-none c.args.points.now c.args.from c.requires.points c.requires.within
