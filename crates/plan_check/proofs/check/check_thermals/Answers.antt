use Rattle.plan_check.proofs.Common.{◌≡◌, ℕ, ◌+◌, Some, map, length, sym, ap, ◌∙◌, arith, length-map}
use Rattle.plan_check.proofs.Common.{err_from_is_err_and, slice_get, Schedule, NamedThermalUnit, IsThermalUnit}
use Rattle.plan_check.proofs.Common.{schedules_of, thermal_of, schedule_of, named_thermal_of, thermal_refusals, item_of}
use Rattle.plan_check.proofs.Common.{map_item}
use Rattle.plan_check.proofs.Lemmas.{over_units_first, over_units_none, NoneBefore-more, all_thermal_is, HasLengths}
use Rattle.plan_check.proofs.check.check_thermals.Goals as goal
use Rattle.plan_check.proofs.check.check_thermals.Goals.{After-get-response}

-- the unit and its schedule at the place of the loop
module _ (c : After-get-response) where
  unit_at : slice_get (map named_thermal_of c.args.case.now.thermal.items) c.loop-index.index ≡ Some
      (named_thermal_of c.get-unit.result.now)
  unit_at = map_item named_thermal_of c.args.case.now.thermal.items c.loop-index.index c.get-unit.result.now
      c.get-unit.ensures.item

  plan_at : slice_get (schedules_of c.args.plan.now) c.loop-index.index ≡ Some (schedule_of c.get-response.result.now)
  plan_at = map_item schedule_of c.args.plan.now.responses.items c.loop-index.index c.get-response.result.now
      c.get-response.ensures.item

  lengths : HasLengths c.args.case.now.periods (schedule_of c.get-response.result.now)
  lengths = item_of (HasLengths c.args.case.now.periods) (schedules_of c.args.plan.now) c.loop-index.index _
      c.requires.lengths plan_at

pub check_thermal-requires-clause-horizon : goal.check_thermal-requires-clause-horizon
check_thermal-requires-clause-horizon c =
    let l = lengths (goal.at.check_thermal-requires-clause-horizon c).After-get-response in
    omega arith

pub check_thermal-requires-clause-window : goal.check_thermal-requires-clause-window
check_thermal-requires-clause-window c =
    let d = (goal.at.check_thermal-requires-clause-window c).After-get-response in
    let limits = item_of (λ (n : NamedThermalUnit). IsThermalUnit n.unit ×
    (length n.unit.window ≡ c.args.case.now.periods)) (map named_thermal_of c.args.case.now.thermal.items)
    c.loop-index.index _ c.args.case.now.valid.thermal (unit_at d) in
    limits.1 ∙ sym (lengths d).0

pub returns-in_err-check_thermal : goal.returns-in_err-check_thermal
returns-in_err-check_thermal c =
    let s = schedule_of c.get-response.result.now in
    let d = (goal.at.returns-in_err-check_thermal c).After-get-response in
    let p = err_from_is_err_and c.from_residual.result c.from_residual.ensures.1 in
    let number : 1 + c.loop-index.index ≡ c.loop-index.index + 1 = omega arith in
    rw (p.1, p.2)
    (ap (λ xs. slice_get xs 0) (all_thermal_is c.args.case.now.periods 1
    (map named_thermal_of c.args.case.now.thermal.items) (schedules_of c.args.plan.now))
    ∙ over_units_first (λ (n : NamedThermalUnit) (s : Schedule) (unit : ℕ). thermal_refusals c.args.case.now.periods
    unit n.unit s) 1 c.loop-index.index (map named_thermal_of c.args.case.now.thermal.items)
    (schedules_of c.args.plan.now) _ s _ (unit_at d) (plan_at d) c.loop-index.invariant
    (ap (λ (x : ℕ). slice_get (thermal_refusals x (1 + c.loop-index.index) (thermal_of c.get-unit.result.now.unit) s) 0)
    (sym (lengths d).0) ∙
    ap (λ (x : ℕ). slice_get (thermal_refusals (length s.on) x (thermal_of c.get-unit.result.now.unit) s) 0) number
    ∙ c.in_err-check_thermal.ensures))

pub loop-index-preserved : goal.loop-index-preserved
loop-index-preserved c =
    let s = schedule_of c.get-response.result.now in
    let d = (goal.at.loop-index-preserved c).After-get-response in
    let number : 1 + c.loop-index.index ≡ c.loop-index.index + 1 = omega arith in
    NoneBefore-more (λ (n : NamedThermalUnit) (s : Schedule) (unit : ℕ). thermal_refusals c.args.case.now.periods unit
    n.unit s) 1 c.loop-index.index (map named_thermal_of c.args.case.now.thermal.items)
    (schedules_of c.args.plan.now) _ s (unit_at d) (plan_at d) c.loop-index.invariant
    (ap (λ (x : ℕ). thermal_refusals x (1 + c.loop-index.index) (thermal_of c.get-unit.result.now.unit) s)
    (sym (lengths d).0) ∙ ap (λ (x : ℕ). thermal_refusals (length s.on) x (thermal_of c.get-unit.result.now.unit) s)
    number ∙ c.in_ok-check_thermal.ensures)

pub returns : goal.returns
returns c =
    let count = length-map c.args.case.now.thermal.items named_thermal_of in
    all_thermal_is c.args.case.now.periods 1 (map named_thermal_of c.args.case.now.thermal.items)
    (schedules_of c.args.plan.now)
    ∙ over_units_none (λ (n : NamedThermalUnit) (s : Schedule) (unit : ℕ). thermal_refusals c.args.case.now.periods unit
    n.unit s) 1 (map named_thermal_of c.args.case.now.thermal.items) (schedules_of c.args.plan.now)
    (λ j n s lt e f. c.loop-index.invariant j n s (omega (arith, lt, count)) e f)
