use Rattle.plan_settle.proofs.Lemmas.{fixing}
use Rattle.plan_settle.proofs.held_laws.plan_stays_feasible_with_fixed_commitments.Goals as goal

pub returns : goal.returns
returns c = fixing c.dual_is_at_most_cost.ensures
