use Rattle.price_settle.proofs.Settlements.{have_each}
use Rattle.price_settle.proofs.laws.settlements_have_each_unit.Goals as goal

pub returns : goal.returns
returns c = have_each c.unit_numbers_go_by_kind.ensures c.feasible_plans_have_shape.ensures
