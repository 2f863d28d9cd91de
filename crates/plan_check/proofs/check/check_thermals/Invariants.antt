use Rattle.plan_check.proofs.Common.{market_of, schedules_of, thermal_refusals}
use Rattle.plan_check.proofs.Lemmas.{NoneBefore}
use Rattle.plan_check.proofs.check.check_thermals.Given as goal

abbrev pub invariant-loop-index : goal.invariant-loop-index
invariant-loop-index l = NoneBefore (λ n s unit. thermal_refusals (market_of l.case).periods unit n.unit s) 1 l.index
    (market_of l.case).thermal (schedules_of l.plan)
