use Rattle.convex_search.proofs.Common.{◌<◌, length, arith, market_of, schedules_of, schedule_of, named_thermal_of}
use Rattle.convex_search.proofs.Common.{length-map, map_item}
use Rattle.bundle_columns.proofs.Keeping.{some_item, feasible_at}
use Rattle.plan_check.proofs.UnitsApart.{others, plan_apart, plan_count}
use Rattle.convex_search.proofs.start.add_plan_columns.Goals as goal

pub get-requires : goal.get-requires
get-requires c =
    let m = market_of c.args.case.now in
    let plan = schedules_of c.args.plan.now in
    let count = plan_count m.periods m.thermal (others m) plan
    (plan_apart m m.periods plan c.requires.feasible.feasible) in
    let units = length-map c.args.case.now.thermal.items named_thermal_of in
    let responses = length-map c.args.plan.now.responses.items schedule_of in
    let lt : c.loop-number.number < length c.args.case.now.thermal.items = omega arith in
    omega (arith, count, units, responses, lt)

pub add_column_if_new-requires-clause-fit : goal.add_column_if_new-requires-clause-fit
add_column_if_new-requires-clause-fit c =
    let m = market_of c.args.case.now in
    let plan = schedules_of c.args.plan.now in
    let units = length-map c.args.case.now.thermal.items named_thermal_of in
    let some = some_item m.thermal c.loop-number.number (omega (arith, units)) in
    record {
      unit = some.0;
      is = some.1;
      feasible = feasible_at m.periods m.thermal (others m) plan c.loop-number.number some.0
          (schedule_of c.get.result.now) (plan_apart m m.periods plan c.requires.feasible.feasible) some.1
          (map_item schedule_of c.args.plan.now.responses.items c.loop-number.number c.get.result.now
          c.get.ensures.item);
    }
