use Rattle.ramp_step.proofs.Lemmas.{one_knot_is_point, same_knots_are_same, runs_stand_between}
use Rattle.ramp_step.proofs.law.knots_decide.Goals as goal

pub returns-clause-point : goal.returns-clause-point
returns-clause-point c = one_knot_is_point

pub returns-clause-same : goal.returns-clause-same
returns-clause-same c = same_knots_are_same

pub returns-clause-runs : goal.returns-clause-runs
returns-clause-runs c = runs_stand_between
