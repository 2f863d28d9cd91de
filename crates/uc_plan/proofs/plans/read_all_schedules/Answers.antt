use Rattle.uc_plan.proofs.Common.{map, ap, length-map, err_from_is_err_and, market_of, named_thermal_of}
use Rattle.uc_plan.proofs.Common.{named_renewable_of, named_bid_of, schedule_of}
use Rattle.uc_plan.specs.Views.{groups_of}
use Rattle.uc_plan.proofs.Joined.{thermal_named, renewable_named, bids_named, thermal_fails, renewable_fails, all_added}
use Rattle.uc_plan.proofs.Joined.{all_shaped}
use Rattle.uc_plan.proofs.plans.read_all_schedules.Goals as goal

pub returns-in_err-read_schedules-clause-value : goal.returns-in_err-read_schedules-clause-value
returns-in_err-read_schedules-clause-value c =
    let m = market_of c.args.case.now in
    let g = groups_of c.args.groups in
    let fails = rw (c.as_slice-thermal.ensures, ← thermal_named c.args.case.now.thermal.items) at
    c.in_err-read_schedules.ensures.value in
    let p = err_from_is_err_and c.from_residual.result c.from_residual.ensures.1 in
    rw (p.1, p.2) (thermal_fails m g c.in_err-read_schedules.field-0.0 fails)

pub returns-in_err-read_schedules-2-clause-value : goal.returns-in_err-read_schedules-2-clause-value
returns-in_err-read_schedules-2-clause-value c =
    let m = market_of c.args.case.now in
    let g = groups_of c.args.groups in
    let t = c.in_ok-read_schedules.ensures.value in
    let t_read = rw (c.as_slice-thermal.ensures, ← thermal_named c.args.case.now.thermal.items) at t.1 in
    let fails = rw (c.as_slice-flat.ensures, ← renewable_named c.args.case.now.flat.items) at
    c.in_err-read_schedules-2.ensures.value in
    let p = err_from_is_err_and c.from_residual-in_err-read_schedules-2.result
    c.from_residual-in_err-read_schedules-2.ensures.1 in
    rw (p.1, p.2) (renewable_fails m g t.0 t_read c.in_err-read_schedules-2.field-0.0 fails)

pub returns-clause-value : goal.returns-clause-value
returns-clause-value c =
    let m = market_of c.args.case.now in
    let g = groups_of c.args.groups in
    let t = c.in_ok-read_schedules.ensures.value in
    let t_read = rw (c.as_slice-thermal.ensures, ← thermal_named c.args.case.now.thermal.items) at t.1 in
    let r = c.in_ok-read_schedules-2.ensures.value in
    let r_read = rw (c.as_slice-flat.ensures, ← renewable_named c.args.case.now.flat.items) at r.1 in
    let b = rw (c.as_slice-bids.ensures, ← bids_named c.args.case.now.bids.items) at c.read_schedules-3.ensures.value in
    all_added m g t.0 r.0 _ _ _ _ (ap (map schedule_of) c.requires.empty) t.2 r.2 _ c.read_schedules-3.result t_read
    r_read b

pub returns-clause-shape : goal.returns-clause-shape
returns-clause-shape c =
    let m = market_of c.args.case.now in
    let g = groups_of c.args.groups in
    let t = c.in_ok-read_schedules.ensures.value in
    let r = c.in_ok-read_schedules-2.ensures.value in
    let t_count = rw (c.as_slice-thermal.ensures, ← length-map c.args.case.now.thermal.items named_thermal_of) at t.3 in
    let r_count = rw (c.as_slice-flat.ensures, ← length-map c.args.case.now.flat.items named_renewable_of) at r.3 in
    let b = rw (
      c.as_slice-bids.ensures,
      ← bids_named c.args.case.now.bids.items,
      ← length-map c.args.case.now.bids.items named_bid_of,
    ) at c.read_schedules-3.ensures.value in
    all_shaped m g t.0 r.0 _ _ _ _ (ap (map schedule_of) c.requires.empty) t.2 r.2 c.read_schedules-3.result t_count
    r_count t.4 r.4 b
