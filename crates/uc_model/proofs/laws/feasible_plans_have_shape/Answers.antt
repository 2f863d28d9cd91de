use Rattle.uc_model.proofs.Lemmas.{plan_shape}
use Rattle.uc_model.proofs.laws.feasible_plans_have_shape.Goals as goal

pub returns : goal.returns
returns c = plan_shape
