use Rattle.slope_list.proofs.Lemmas.{IsPlace-on_curve}
use Rattle.slope_list.proofs.shape_laws.curve_powers_are_within_limits.Goals as goal

pub returns : goal.returns
returns c = IsPlace-on_curve
