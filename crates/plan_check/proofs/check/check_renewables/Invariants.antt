use Rattle.plan_check.proofs.Common.{length, drop, market_of, schedules_of, told, renewable_broken, RenewableRange}
use Rattle.uc_model.specs.declared.kinds.Kind.TheVariants as kinds
use Rattle.plan_check.proofs.Lemmas.{NoneBefore}
use Rattle.plan_check.proofs.check.check_renewables.Given as goal

abbrev pub invariant-loop-index : goal.invariant-loop-index
invariant-loop-index l =
    NoneBefore (λ n s unit. told RenewableRange kinds.Renewable unit (market_of l.case).periods 1
    (renewable_broken n.unit s)) 1 l.index (market_of l.case).flat
    (drop (length (market_of l.case).thermal) (schedules_of l.plan))
