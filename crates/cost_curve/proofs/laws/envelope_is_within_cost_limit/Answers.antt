use Rattle.cost_curve.proofs.laws.envelope_is_within_cost_limit.Goals as goal

pub returns : goal.returns
returns c = λ ps x are span. c.power_costs_are_within.ensures ps x are.some are.points span
