use Rattle.bundle_columns.proofs.Common.{◌≡◌, ℕ, ◌<◌, ◌≤◌, List, length, map, ap, ◌∙◌, arith, subst, market_of}
use Rattle.bundle_columns.proofs.Common.{schedules_of, schedule_of, named_thermal_of, entries_of, map_item, length-map}
use Rattle.bundle_columns.proofs.Common.{refl, take_all, map_push, Some, slice_get, AllZip, Market, Schedule}
use Rattle.bundle_columns.proofs.Common.{NamedThermalUnit, IsFeasiblePlan, IsThermalFeasible}
use Rattle.bundle_columns.proofs.Keeping.{AreKeptOf, kept_more, kept_of_one, feasible_at, some_item}
use Rattle.plan_check.proofs.UnitsApart.{others, plan_apart, plan_count}
use Rattle.bundle_columns.proofs.plans.mixture_of_plan.Goals as goal

pub get-requires : goal.get-requires
get-requires c =
    let m = market_of c.args.case.now in
    let plan = schedules_of c.args.plan.now in
    let count = plan_count m.periods m.thermal (others m) plan (plan_apart m m.periods plan
    c.requires.feasible.feasible) in
    let units = length-map c.args.case.now.thermal.items named_thermal_of in
    let responses = length-map c.args.plan.now.responses.items schedule_of in
    let lt : c.loop-number.number < length c.args.case.now.thermal.items = omega arith in
    omega (arith, count, units, responses, lt)

-- the plan's schedule of the unit is feasible
abbrev fits : (m : Market) (plan : List Schedule) (k : ℕ) (s : Schedule) → IsFeasiblePlan m plan →
    k < length m.thermal → slice_get plan k ≡ Some s →
    (n : NamedThermalUnit) × (slice_get m.thermal k ≡ Some n) × IsThermalFeasible n.unit m.periods s
fits m plan k s f lt at =
    let some = some_item m.thermal k lt in (
      some.0,
      some.1,
      feasible_at m.periods m.thermal (others m) plan k some.0 s
          (plan_apart m m.periods plan f.feasible) some.1 at,
    )

pub entries_of_one_response-requires : goal.entries_of_one_response-requires
entries_of_one_response-requires c =
    let m = market_of c.args.case.now in
    let units = length-map c.args.case.now.thermal.items named_thermal_of in
    let fit = fits m (schedules_of c.args.plan.now) c.loop-number.number (schedule_of c.get.result.now)
    c.requires.feasible (omega (arith, units))
    (map_item schedule_of c.args.plan.now.responses.items c.loop-number.number c.get.result.now c.get.ensures.item) in
    let on = fit.2.schedule.on in
    let most = c.args.case.now.valid.horizon.at_most in
    record { some = c.requires.some; periods = omega (arith, on, most) }

pub loop-number-preserved : goal.loop-number-preserved
loop-number-preserved c =
    let m = market_of c.args.case.now in
    let units = length-map c.args.case.now.thermal.items named_thermal_of in
    let fit = fits m (schedules_of c.args.plan.now) c.loop-number.number (schedule_of c.get.result.now)
    c.requires.feasible (omega (arith, units))
    (map_item schedule_of c.args.plan.now.responses.items c.loop-number.number c.get.result.now c.get.ensures.item) in
    let es = entries_of c.in_ok-entries_of_one_response.field-0 in
    let room = c.loop-number.invariant.room in
    let spare = c.push.ensures.spare in
    record {
      kept = kept_more m.periods c.args.places m.thermal c.loop-number.number fit.0
          (map entries_of c.loop-number.thermal.items) (map entries_of c.push.new.self.items) es fit.1
          c.loop-number.invariant.kept
          (kept_of_one m.periods c.args.places fit.0.unit (schedule_of c.get.result.now) es fit.2
          c.in_ok-entries_of_one_response.ensures)
          (ap (λ l. map entries_of l) c.push.ensures.items ∙ map_push entries_of c.loop-number.thermal.items _);
      room = omega (arith, room, spare);
    }

pub returns : goal.returns
returns c =
    let m = market_of c.args.case.now in
    let units = length-map c.args.case.now.thermal.items named_thermal_of in
    let count : length m.thermal ≤ c.loop-number.number = omega (arith, units) in
    record {
      whole = refl;
      kept = subst (λ (l : List NamedThermalUnit). AllZip (AreKeptOf m.periods c.args.places) l
          (map entries_of c.loop-number.thermal.items)) (take_all c.loop-number.number m.thermal count)
          c.loop-number.invariant.kept;
    }
