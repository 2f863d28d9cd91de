use Rattle.price_settle.proofs.Settlements.{one_settlement}
use Rattle.price_settle.proofs.laws.plan_has_at_most_one_settlement.Goals as goal

pub returns : goal.returns
returns c = one_settlement c.least_best_schedule_is_unique.ensures
