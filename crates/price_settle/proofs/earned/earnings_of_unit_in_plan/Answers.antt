use Rattle.price_settle.proofs.Common.{rules, sym, subst, FitsSigned, arith, to_z-of_z, w128, AllZip, units, IsEarned}
use Rattle.price_settle.proofs.Common.{market_of, schedules_of, prices_of, IsFeasible, fits_within}
use Rattle.std.specs.Int.{w64}
use Rattle.price_settle.proofs.Lemmas.{scheduled_within}
use Rattle.price_settle.proofs.earned.earnings_of_unit_in_plan.Goals as goal

within : (c : goal.After-wide_earnings_of_unit_in_plan) → IsEarned c.wide_earnings_of_unit_in_plan.result
within c =
    let m = market_of c.args.case.now in
    let ps = schedules_of c.args.plan.now in
    let feasible = subst (λ n. AllZip (λ u s. IsFeasible u n s) (units m) ps) (sym c.requires.horizon)
    c.requires.feasible.feasible in
    scheduled_within c.earnings_are_within.ensures (prices_of c.args.prices.now) c.args.prices.now.valid (units m) ps
    c.args.number c.wide_earnings_of_unit_in_plan.result
    (c.units_are_within.ensures m c.args.case.now.valid) feasible c.wide_earnings_of_unit_in_plan.ensures

fits : (c : goal.After-wide_earnings_of_unit_in_plan) → FitsSigned w64 c.wide_earnings_of_unit_in_plan.result
fits c = fits_within w64 3500000000000000000 c.wide_earnings_of_unit_in_plan.result (within c) (omega arith)

pub overflow_cast-result : goal.overflow_cast-result
overflow_cast-result c =
    let f : FitsSigned w128 c.wide_earnings_of_unit_in_plan.result = search rules in
    let g = fits c in
    simp to_z-of_z g

pub returns-clause-value : goal.returns-clause-value
returns-clause-value c =
    let f : FitsSigned w128 c.wide_earnings_of_unit_in_plan.result = search rules in
    let g = fits c in
    simp to_z-of_z c.wide_earnings_of_unit_in_plan.ensures

pub returns-clause-limit : goal.returns-clause-limit
returns-clause-limit c =
    let f : FitsSigned w128 c.wide_earnings_of_unit_in_plan.result = search rules in
    let g = fits c in
    simp to_z-of_z (within c)
