use Rattle.plan_check.proofs.Common.{rules, ℤ, ap, ◌∙◌, w64, FitsSigned, to_z-of_z, int_le, market_of, unless, int_at}
use Rattle.plan_check.proofs.totals.reserve_requirement_violation.Goals as goal

pub returns : goal.returns
returns c =
    let m = market_of c.args.case.now in
    let k = c.args.index in
    let f1 : FitsSigned w64 c.required_and_given_reserve-reserves.result.required = search rules in
    let f2 : FitsSigned w64 c.required_and_given_reserve-reserves.result.given = search rules in
    let told = simp to_z-of_z at c.violation_above_limit.ensures in
    let reserves = c.required_and_given_reserve-reserves in
    told ∙ ap (λ (a : ℤ). unless (int_le a reserves.result.given) a reserves.result.given) reserves.ensures.required
    ∙ ap (λ (b : ℤ). unless (int_le (int_at m.reserves k) b) (int_at m.reserves k) b) reserves.ensures.given
