use Rattle.plan_check.proofs.Common.{arith, ints}
use Rattle.plan_check.proofs.costs.cost_of_start.Goals as goal

pub returns-clause-limit : goal.returns-clause-limit
returns-clause-limit c =
    record { at_least = omega (arith, ints); at_most = omega (arith, ints) }
