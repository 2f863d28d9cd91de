use Rattle.plan_check.proofs.Common.{rules, ◌<◌, Some, sym, ap, ◌∙◌, arith, market_of, schedules_of, reserve_broken}
use Rattle.plan_check.proofs.Common.{Reserve}
use Rattle.uc_model.specs.declared.kinds.Kind.TheVariants as kinds
use Rattle.plan_check.proofs.Lemmas.{told_none, told_first}
use Rattle.plan_check.proofs.check.check_reserve.Goals as goal

pub returns-in-Some : goal.returns-in-Some
returns-in-Some c =
    let lt : c.loop-index.index < c.args.case.now.periods = search rules in
    told_first Reserve kinds.Case 0 c.args.case.now.periods 1
    (reserve_broken (market_of c.args.case.now) (schedules_of c.args.plan.now))
    c.loop-index.index (c.in-Some.sides.left, c.in-Some.sides.right) lt c.loop-index.invariant (sym c.in-Some.ensures) ∙
    ap Some (sym c.fault_of_rule.ensures)

pub returns : goal.returns
returns c =
    told_none Reserve kinds.Case 0 c.args.case.now.periods 1
    (reserve_broken (market_of c.args.case.now) (schedules_of c.args.plan.now))
    (λ k lt. c.loop-index.invariant k (omega (arith, lt)))
