use Rattle.plan_check.proofs.Common.{◌≡◌, ◌∙◌, length, ℕ, ◌++◌, Some, map, sym, subst, arith, ints, length-map}
use Rattle.plan_check.proofs.Common.{slice_get, AnyUnit}
use Rattle.plan_check.proofs.Common.{Thermal, Flat, NamedThermalUnit, NamedRenewableUnit, Schedule, cost_of, market_of}
use Rattle.plan_check.proofs.Common.{schedules_of, thermal_of, schedule_of, named_thermal_of, IsFeasible}
use Rattle.plan_check.proofs.Common.{IsThermalFeasible, item_of, map_item, zip_item, front_item, thermal_units}
use Rattle.plan_check.proofs.Common.{bid_units}
use Rattle.plan_check.proofs.Lemmas.{HasLengths, sum_over-more, sum_over-whole}
use Rattle.plan_check.proofs.costs.thermal_costs.Goals as goal
use Rattle.plan_check.proofs.costs.thermal_costs.Goals.{After-get-response}

-- the unit and its schedule at the place of the loop
module _ (c : After-get-response) where
  plan_at : slice_get (schedules_of c.args.plan.now) c.loop-index.index ≡ Some (schedule_of c.get-response.result.now)
  plan_at = map_item schedule_of c.args.plan.now.responses.items c.loop-index.index c.get-response.result.now
      c.get-response.ensures.item

  unit_at : slice_get (thermal_units (market_of c.args.case.now)) c.loop-index.index ≡ Some
      (Thermal (thermal_of c.get.result.now.unit))
  unit_at =
      let named = map_item named_thermal_of c.args.case.now.thermal.items c.loop-index.index c.get.result.now
      c.get.ensures.item in
      map_item (λ (n : NamedThermalUnit). Thermal n.unit) (market_of c.args.case.now).thermal c.loop-index.index
      (named_thermal_of c.get.result.now) named

  lengths : HasLengths c.args.case.now.periods (schedule_of c.get-response.result.now)
  lengths = item_of (HasLengths c.args.case.now.periods) (schedules_of c.args.plan.now) c.loop-index.index _
      c.requires.shape.lengths plan_at

pub power_costs-requires-clause-horizon : goal.power_costs-requires-clause-horizon
power_costs-requires-clause-horizon c =
    let l = lengths (goal.at.power_costs-requires-clause-horizon c).After-get-response in
    omega arith

pub costs_of_starts-requires : goal.costs_of_starts-requires
costs_of_starts-requires c =
    let l = lengths (goal.at.costs_of_starts-requires c).After-get-response in
    omega arith

pub power_costs-requires-clause-feasible : goal.power_costs-requires-clause-feasible
power_costs-requires-clause-feasible c =
    let m = market_of c.args.case.now in
    let u = Thermal (thermal_of c.get.result.now.unit) in
    let d = (goal.at.power_costs-requires-clause-feasible c).After-get-response in
    let flats = map (λ (n : NamedRenewableUnit). Flat n.unit) m.flat in
    let whole_at = front_item (thermal_units m ++ flats) (bid_units m) c.loop-index.index u
    (front_item (thermal_units m) flats c.loop-index.index u (unit_at d)) in
    let feasible = zip_item (λ (u : AnyUnit) (t : Schedule). IsFeasible u m.periods t)
    ((thermal_units m ++ flats) ++ bid_units m) (schedules_of c.args.plan.now) c.loop-index.index u _
    c.requires.feasible.feasible whole_at (plan_at d) in
    subst (λ (n : ℕ). IsThermalFeasible (thermal_of c.get.result.now.unit) n (schedule_of c.get-response.result.now))
    (sym (lengths d).0) feasible

pub loop-index-preserved : goal.loop-index-preserved
loop-index-preserved c =
    let d = (goal.at.loop-index-preserved c).After-get-response in
    let mapped = length-map c.args.case.now.thermal.items named_thermal_of in
    let more = sum_over-more cost_of _ _ c.loop-index.index _ _ (unit_at d) (plan_at d) in
    record {
      is = omega (arith, ints, more, mapped);
      limit = record {
        at_least = omega (arith, ints, mapped);
        at_most = omega (arith, ints, mapped);
      };
    }

pub returns-clause-value : goal.returns-clause-value
returns-clause-value c =
    let m = market_of c.args.case.now in
    let named = length-map c.args.case.now.thermal.items named_thermal_of in
    let mapped = length-map m.thermal (λ (n : NamedThermalUnit). Thermal n.unit) in
    let all : c.loop-index.index ≡ length (thermal_units m) = omega (arith, named, mapped) in
    c.loop-index.invariant.is ∙
    sum_over-whole cost_of (thermal_units m) (schedules_of c.args.plan.now) c.loop-index.index all
