use Rattle.plan_check.proofs.Common.{arith, ints, market_of, schedules_of}
use Rattle.plan_check.proofs.Lemmas.{plan_cost_is}
use Rattle.plan_check.proofs.costs.cost_of_plan.Goals as goal

pub returns : goal.returns
returns c =
    let whole = plan_cost_is (market_of c.args.case.now) (schedules_of c.args.plan.now) c.requires.shape.count in
    omega (arith, ints, whole)
