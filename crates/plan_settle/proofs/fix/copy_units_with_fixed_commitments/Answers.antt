use Rattle.plan_settle.proofs.Common.{◌<◌, ◌≤◌, List, [], ◌∷◌, ◌++◌, map, take, length, sym, ap, ◌∙◌, arith}
use Rattle.plan_settle.proofs.Common.{length-map}
use Rattle.plan_settle.proofs.Common.{NamedThermalUnit, market_of, schedules_of, named_thermal_of, schedule_of}
use Rattle.plan_settle.proofs.Common.{zip_with, held_named}
use Rattle.plan_settle.proofs.Lemmas.{others, plan_apart, window_length, map_item, map_push, zip_more, zip_whole}
use Rattle.plan_settle.proofs.Lemmas.{plan_count, on_length}
use Rattle.plan_settle.proofs.fix.copy_units_with_fixed_commitments.Goals as goal

pub copy_named_unit_with_fixed_commitment-requires : goal.copy_named_unit_with_fixed_commitment-requires
copy_named_unit_with_fixed_commitment-requires c =
    let m = market_of c.args.case.now in
    let plan = schedules_of c.args.plan.now in
    let k = c.loop-index.index in
    let t = map_item named_thermal_of c.args.case.now.thermal.items k c.get.result.now c.get.ensures.item in
    let s = map_item schedule_of c.args.plan.now.responses.items k c.get-in-loop-index.result.now
    c.get-in-loop-index.ensures.item in
    let on = on_length m.periods m.thermal (others m) plan k (named_thermal_of c.get.result.now)
    (schedule_of c.get-in-loop-index.result.now) (plan_apart m m.periods plan c.requires.feasible) t s in
    on ∙ sym (window_length m c.args.case.now.valid k (named_thermal_of c.get.result.now) t)

pub loop-index-preserved : goal.loop-index-preserved
loop-index-preserved c =
    let m = market_of c.args.case.now in
    let plan = schedules_of c.args.plan.now in
    let k = c.loop-index.index in
    let u = c.in_ok-unit.unit in
    let t = map_item named_thermal_of c.args.case.now.thermal.items k c.get.result.now c.get.ensures.item in
    let s = map_item schedule_of c.args.plan.now.responses.items k c.get-in-loop-index.result.now
    c.get-in-loop-index.ensures.item in
    let room = c.loop-index.invariant.room in
    let spare = c.push.ensures.spare in
    record {
      held = ap (map named_thermal_of) c.push.ensures.items ∙ map_push named_thermal_of c.loop-index.units.items u
          ∙ ap (λ (l : List NamedThermalUnit). l ++ named_thermal_of u ∷ []) c.loop-index.invariant.held
          ∙ ap (λ (x : NamedThermalUnit). take k (zip_with held_named m.thermal plan) ++ x ∷ []) c.in_ok-unit.ensures
          ∙ sym (zip_more held_named m.thermal plan k (named_thermal_of c.get.result.now)
          (schedule_of c.get-in-loop-index.result.now) t s);
      room = omega (arith, room, spare);
    }

pub get-requires-in-loop-index : goal.get-requires-in-loop-index
get-requires-in-loop-index c =
    let m = market_of c.args.case.now in
    let plan = schedules_of c.args.plan.now in
    let count = plan_count m.periods m.thermal (others m) plan (plan_apart m m.periods plan c.requires.feasible) in
    let units = length-map c.args.case.now.thermal.items named_thermal_of in
    let responses = length-map c.args.plan.now.responses.items schedule_of in
    let lt : c.loop-index.index < length c.args.case.now.thermal.items = omega arith in
    omega (arith, count, units, responses, lt)

pub returns : goal.returns
returns c =
    let m = market_of c.args.case.now in
    let plan = schedules_of c.args.plan.now in
    let units = length-map c.args.case.now.thermal.items named_thermal_of in
    let le : length c.args.case.now.thermal.items ≤ c.loop-index.index = omega arith in
    c.loop-index.invariant.held ∙ zip_whole held_named m.thermal plan c.loop-index.index (omega (arith, units, le))
