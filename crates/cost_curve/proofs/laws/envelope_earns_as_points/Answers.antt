use Rattle.cost_curve.proofs.EnvelopeValues as values
use Rattle.cost_curve.proofs.laws.envelope_earns_as_points.Goals as goal

pub returns : goal.returns
returns c = values.envelope_earns_as_points c.envelope_is_greatest.ensures
