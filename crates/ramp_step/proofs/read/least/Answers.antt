use Rattle.ramp_step.proofs.Lemmas.{turn_is_least}
use Rattle.ramp_step.proofs.read.least.Goals as goal

pub returns : goal.returns
returns c = turn_is_least c.args.knots.now c.args.used c.turn-j.result c.requires.breaks c.turn-j.ensures
