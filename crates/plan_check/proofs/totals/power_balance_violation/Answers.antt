use Rattle.plan_check.proofs.Common.{rules, ◌≡◌, ℤ, pos, Some, sym, ap, ◌∙◌, w64, FitsSigned, to_z, of_z, to_z-of_z}
use Rattle.plan_check.proofs.Common.{get_or_from_slice_get, units, market_of, schedules_of, int_at, total_power}
use Rattle.plan_check.proofs.Lemmas.{unbalanced}
use Rattle.plan_check.proofs.totals.power_balance_violation.Goals as goal

pub returns : goal.returns
returns c =
    let m = market_of c.args.case.now in
    let ps = schedules_of c.args.plan.now in
    let k = c.args.index in
    let f1 : FitsSigned w64 c.net_power-total.result = search rules in
    let f2 : FitsSigned w64 c.get-demand.result.now = search rules in
    let value = c.net_power-total.ensures.value in
    let demand = get_or_from_slice_get c.args.case.now.demand.items k c.get-demand.result.now (pos 0)
    c.get-demand.ensures.item in
    let differ : total_power (units m) ps k ≡ int_at m.demand k → ⊥ =
    λ e. c.if-total-demand.false (ap (of_z w64) (value ∙ e ∙ demand)) in
    ap (λ (x : ℤ). Some (x, to_z w64 (of_z w64 c.get-demand.result.now)))
    (to_z-of_z w64 c.net_power-total.result f1 ∙ value)
    ∙ ap (λ (y : ℤ). Some (total_power (units m) ps k, y)) (to_z-of_z w64 c.get-demand.result.now f2 ∙ sym demand)
    ∙ sym (unbalanced (total_power (units m) ps k) (int_at m.demand k) differ)
