use Rattle.hull_input.proofs.Common.{rules, refl, inl, ap, ℤ, w128, to_z-of_z, market_of, schedules_of, PlannedCase}
use Rattle.hull_input.proofs.Common.{err_from_is_err_and}
use Rattle.hull_input.proofs.files.checked_case_and_schedule.Goals as goal

pub returns-in_err-cost-clause-answers : goal.returns-in_err-cost-clause-answers
returns-in_err-cost-clause-answers c =
    let p = err_from_is_err_and c.from_residual.result c.from_residual.ensures.1 in
    rw (p.1, p.2) (inl (c.in_err-cost.field-0.0, refl, c.in_err-cost.ensures.refused))

pub returns-clause-answers : goal.returns-clause-answers
returns-clause-answers c =
    let m = market_of c.args.case in
    let plan = schedules_of c.args.plan in
    let feasible = c.in_ok-cost.ensures.feasible.0 refl in
    let none = (c.feasible_exactly_without_broken_rule.ensures m plan c.requires).1 feasible in
    let at = λ (z : ℤ). let a : PlannedCase = record { market = m; plan = plan; cost = z } in a in
    rw (to_z-of_z w128 c.in_ok-cost.cost (search rules)) (feasible, none, ap at c.in_ok-cost.ensures.cost)
