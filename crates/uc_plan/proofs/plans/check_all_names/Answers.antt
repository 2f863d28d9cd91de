use Rattle.uc_plan.proofs.Common.{market_of, err_from_is_err_and}
use Rattle.uc_plan.specs.Views.{groups_of}
use Rattle.uc_plan.proofs.Joined.{thermal_named, renewable_named, bids_named, thermal_unknown, renewable_unknown}
use Rattle.uc_plan.proofs.Joined.{bids_named_last}
use Rattle.uc_plan.proofs.plans.check_all_names.Goals as goal

pub returns-in_err-check_names : goal.returns-in_err-check_names
returns-in_err-check_names c =
    let m = market_of c.args.case.now in
    let g = groups_of c.args.groups in
    let fails = rw (c.as_slice-thermal.ensures, ← thermal_named c.args.case.now.thermal.items) at
    c.in_err-check_names.ensures in
    let p = err_from_is_err_and c.from_residual.result c.from_residual.ensures.1 in
    rw (p.1, p.2) (thermal_unknown m g c.in_err-check_names.field-0.0 fails)

pub returns-in_err-check_names-2 : goal.returns-in_err-check_names-2
returns-in_err-check_names-2 c =
    let m = market_of c.args.case.now in
    let g = groups_of c.args.groups in
    let t_known = rw (c.as_slice-thermal.ensures, ← thermal_named c.args.case.now.thermal.items) at
    c.in_ok-check_names.ensures in
    let fails = rw (c.as_slice-flat.ensures, ← renewable_named c.args.case.now.flat.items) at
    c.in_err-check_names-2.ensures in
    let p = err_from_is_err_and c.from_residual-in_err-check_names-2.result
    c.from_residual-in_err-check_names-2.ensures.1 in
    rw (p.1, p.2) (renewable_unknown m g t_known c.in_err-check_names-2.field-0.0 fails)

pub returns : goal.returns
returns c =
    let m = market_of c.args.case.now in
    let g = groups_of c.args.groups in
    let t_known = rw (c.as_slice-thermal.ensures, ← thermal_named c.args.case.now.thermal.items) at
    c.in_ok-check_names.ensures in
    let r_known = rw (c.as_slice-flat.ensures, ← renewable_named c.args.case.now.flat.items) at
    c.in_ok-check_names-2.ensures in
    let last = rw (c.as_slice-bids.ensures, ← bids_named c.args.case.now.bids.items) at c.check_names-3.ensures in
    rw (← bids_named_last m g t_known r_known) last
