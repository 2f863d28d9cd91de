use Rattle.slope_list.proofs.Lemmas.{curve_value-there}
use Rattle.slope_list.proofs.shape_laws.curve_has_value_at_each_power.Goals as goal

pub returns : goal.returns
returns c = curve_value-there
