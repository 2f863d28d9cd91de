use Rattle.ramp_step.proofs.Lemmas.{turn_is_least, nearest_is_least}
use Rattle.ramp_step.proofs.law.turn_is_least.Goals as goal

pub returns-clause-least : goal.returns-clause-least
returns-clause-least c = turn_is_least

pub returns-clause-nearest : goal.returns-clause-nearest
returns-clause-nearest c = nearest_is_least
