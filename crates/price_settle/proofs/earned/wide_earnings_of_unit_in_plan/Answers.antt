use Rattle.price_settle.proofs.Common.{rules, ◌≡◌, ℕ, Some, sym, ◌∙◌, subst, FitsSigned, arith, to_z-of_z, w128}
use Rattle.price_settle.proofs.Common.{slice_get, AnyUnit, Schedule, units, market_of, schedules_of, schedule_of}
use Rattle.price_settle.proofs.Common.{prices_of, unit_of, IsFeasible, item_of, map_item, zip_item}
use Rattle.price_settle.proofs.Lemmas.{earned_item, HasLengths}
use Rattle.price_settle.proofs.earned.wide_earnings_of_unit_in_plan.Goals as goal

pub unit_at-named-requires : goal.unit_at-named-requires
unit_at-named-requires c =
    let m = market_of c.args.case.now in
    let count = (c.feasible_plans_have_shape.ensures m (schedules_of c.args.plan.now) c.requires.feasible).count in
    let within = c.requires.number in
    omega (arith, count, within)

-- the schedule of the number, and its lengths
module _ (c : goal.After-get) where
  plan_at : slice_get (schedules_of c.args.plan.now) c.args.number ≡ Some (schedule_of c.get.result.now)
  plan_at = map_item schedule_of c.args.plan.now.responses.items c.args.number c.get.result.now c.get.ensures.item

  lengths : HasLengths c.args.case.now.periods (schedule_of c.get.result.now)
  lengths =
      let ps = schedules_of c.args.plan.now in
      let shape = c.feasible_plans_have_shape.ensures (market_of c.args.case.now) ps c.requires.feasible in
      item_of (HasLengths c.args.case.now.periods) ps c.args.number (schedule_of c.get.result.now) shape.lengths plan_at

pub unit_earnings-requires-clause-horizon : goal.unit_earnings-requires-clause-horizon
unit_earnings-requires-clause-horizon c = (lengths c).0 ∙ sym c.requires.horizon

pub unit_earnings-requires-clause-own : goal.unit_earnings-requires-clause-own
unit_earnings-requires-clause-own c = c.unit_at-named.ensures.horizon ∙ sym (lengths c).0

pub unit_earnings-requires-clause-feasible : goal.unit_earnings-requires-clause-feasible
unit_earnings-requires-clause-feasible c =
    let m = market_of c.args.case.now in
    let s = schedule_of c.get.result.now in
    let u = unit_of c.unit_at-named.result.unit in
    let feasible = zip_item (λ (v : AnyUnit) (t : Schedule). IsFeasible v m.periods t) (units m)
    (schedules_of c.args.plan.now) c.args.number u s c.requires.feasible.feasible c.unit_at-named.ensures.unit
    (plan_at c) in
    subst (λ (n : ℕ). IsFeasible u n s) (sym (lengths c).0) feasible

pub returns : goal.returns
returns c =
    let f : FitsSigned w128 c.unit_earnings.result = search rules in
    let response = c.get.result.now in
    earned_item (market_of c.args.case.now) (schedules_of c.args.plan.now) (prices_of c.args.prices.now) c.args.number
    (unit_of c.unit_at-named.result.unit) (schedule_of response) _ c.unit_at-named.ensures.unit
    (map_item schedule_of c.args.plan.now.responses.items c.args.number response c.get.ensures.item)
    (to_z-of_z w128 c.unit_earnings.result f ∙ c.unit_earnings.ensures)
