use Rattle.plan_check.proofs.Common.{◌≡◌, ℕ, ◌+◌, Some, map, length, drop, sym, ap, ◌∙◌, arith, length-map}
use Rattle.plan_check.proofs.Common.{err_from_is_err_and, slice_get, RenewableRange, Schedule, NamedRenewableUnit}
use Rattle.plan_check.proofs.Common.{IsRenewableUnit, schedules_of, renewable_of, schedule_of, named_thermal_of}
use Rattle.plan_check.proofs.Common.{named_renewable_of, told, renewable_broken, item_of, map_item, drop_item}
use Rattle.uc_model.specs.declared.kinds.Kind.TheVariants as kinds
use Rattle.plan_check.proofs.Lemmas.{over_units_first, over_units_none, NoneBefore-more, all_renewable_is, HasLengths}
use Rattle.plan_check.proofs.check.check_renewables.Goals as goal
use Rattle.plan_check.proofs.check.check_renewables.Goals.{After-get-response}

-- the unit and its schedule at the place of the loop
module _ (c : After-get-response) where
  unit_at : slice_get (map named_renewable_of c.args.case.now.flat.items) c.loop-index.index ≡ Some
      (named_renewable_of c.get-flat.result.now)
  unit_at = map_item named_renewable_of c.args.case.now.flat.items c.loop-index.index c.get-flat.result.now
      c.get-flat.ensures.item

  whole_at : slice_get (schedules_of c.args.plan.now) (c.len-first.result + c.loop-index.index) ≡ Some
      (schedule_of c.get-response.result.now)
  whole_at = map_item schedule_of c.args.plan.now.responses.items (c.len-first.result + c.loop-index.index)
      c.get-response.result.now c.get-response.ensures.item

  plan_at : slice_get (drop (length (map named_thermal_of c.args.case.now.thermal.items))
      (schedules_of c.args.plan.now)) c.loop-index.index ≡ Some (schedule_of c.get-response.result.now)
  plan_at =
      let first_is : length (map named_thermal_of c.args.case.now.thermal.items) + c.loop-index.index
      ≡ c.len-first.result + c.loop-index.index =
      omega (arith, length-map c.args.case.now.thermal.items named_thermal_of, c.len-first.ensures) in
      drop_item (length (map named_thermal_of c.args.case.now.thermal.items)) (schedules_of c.args.plan.now)
      c.loop-index.index ∙ ap (slice_get (schedules_of c.args.plan.now)) first_is ∙ whole_at

  lengths : HasLengths c.args.case.now.periods (schedule_of c.get-response.result.now)
  lengths = item_of (HasLengths c.args.case.now.periods) (schedules_of c.args.plan.now)
      (c.len-first.result + c.loop-index.index) _ c.requires.lengths whole_at

pub check_renewable-requires-clause-horizon : goal.check_renewable-requires-clause-horizon
check_renewable-requires-clause-horizon c =
    let l = lengths (goal.at.check_renewable-requires-clause-horizon c).After-get-response in
    omega arith

pub check_renewable-requires-clause-range : goal.check_renewable-requires-clause-range
check_renewable-requires-clause-range c =
    let d = (goal.at.check_renewable-requires-clause-range c).After-get-response in
    let limits = item_of (λ (n : NamedRenewableUnit). IsRenewableUnit n.unit ×
    (length n.unit.least ≡ c.args.case.now.periods)) (map named_renewable_of c.args.case.now.flat.items)
    c.loop-index.index _ c.args.case.now.valid.flat (unit_at d) in
    limits.1 ∙ sym (lengths d).0

pub returns-in_err-check_renewable : goal.returns-in_err-check_renewable
returns-in_err-check_renewable c =
    let s = schedule_of c.get-response.result.now in
    let d = (goal.at.returns-in_err-check_renewable c).After-get-response in
    let p = err_from_is_err_and c.from_residual.result c.from_residual.ensures.1 in
    let number : 1 + c.loop-index.index ≡ c.loop-index.index + 1 = omega arith in
    rw (p.1, p.2)
    (ap (λ xs. slice_get xs 0)
    (all_renewable_is c.args.case.now.periods 1 (map named_renewable_of c.args.case.now.flat.items)
    (drop (length (map named_thermal_of c.args.case.now.thermal.items)) (schedules_of c.args.plan.now)))
    ∙ over_units_first (λ (n : NamedRenewableUnit) (s : Schedule) (unit : ℕ). told RenewableRange kinds.Renewable unit
    c.args.case.now.periods 1 (renewable_broken n.unit s)) 1 c.loop-index.index
    (map named_renewable_of c.args.case.now.flat.items)
    (drop (length (map named_thermal_of c.args.case.now.thermal.items)) (schedules_of c.args.plan.now)) _ s _
    (unit_at d) (plan_at d) c.loop-index.invariant
    (ap (λ (x : ℕ). slice_get (told RenewableRange kinds.Renewable (1 + c.loop-index.index) x 1
    (renewable_broken (renewable_of c.get-flat.result.now.flat) s)) 0) (sym (lengths d).0) ∙
    ap (λ (x : ℕ). slice_get (told RenewableRange kinds.Renewable x (length s.on) 1
    (renewable_broken (renewable_of c.get-flat.result.now.flat) s)) 0) number ∙ c.in_err-check_renewable.ensures))

pub loop-index-preserved : goal.loop-index-preserved
loop-index-preserved c =
    let s = schedule_of c.get-response.result.now in
    let d = (goal.at.loop-index-preserved c).After-get-response in
    let number : 1 + c.loop-index.index ≡ c.loop-index.index + 1 = omega arith in
    NoneBefore-more (λ (n : NamedRenewableUnit) (s : Schedule) (unit : ℕ). told RenewableRange kinds.Renewable unit
    c.args.case.now.periods 1 (renewable_broken n.unit s)) 1 c.loop-index.index
    (map named_renewable_of c.args.case.now.flat.items)
    (drop (length (map named_thermal_of c.args.case.now.thermal.items)) (schedules_of c.args.plan.now)) _ s
    (unit_at d) (plan_at d) c.loop-index.invariant
    (ap (λ (x : ℕ). told RenewableRange kinds.Renewable (1 + c.loop-index.index) x 1
    (renewable_broken (renewable_of c.get-flat.result.now.flat) s)) (sym (lengths d).0) ∙
    ap (λ (x : ℕ). told RenewableRange kinds.Renewable x (length s.on) 1
    (renewable_broken (renewable_of c.get-flat.result.now.flat) s)) number ∙ c.in_ok-check_renewable.ensures)

pub returns : goal.returns
returns c =
    let count = length-map c.args.case.now.flat.items named_renewable_of in
    all_renewable_is c.args.case.now.periods 1 (map named_renewable_of c.args.case.now.flat.items)
    (drop (length (map named_thermal_of c.args.case.now.thermal.items)) (schedules_of c.args.plan.now))
    ∙ over_units_none (λ (n : NamedRenewableUnit) (s : Schedule) (unit : ℕ). told RenewableRange kinds.Renewable unit
    c.args.case.now.periods 1 (renewable_broken n.unit s)) 1 (map named_renewable_of c.args.case.now.flat.items)
    (drop (length (map named_thermal_of c.args.case.now.thermal.items)) (schedules_of c.args.plan.now))
    (λ j n s lt e f. c.loop-index.invariant j n s (omega (arith, lt, count)) e f)
