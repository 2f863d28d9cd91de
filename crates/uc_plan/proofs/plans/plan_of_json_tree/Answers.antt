use Rattle.uc_plan.proofs.Common.{length-map, err_from_is_err_and, market_of, named_bid_of, view}
use Rattle.uc_plan.specs.Views.{groups_of}
use Rattle.uc_plan.proofs.Joined.{names_fail, schedules_last}
use Rattle.uc_plan.proofs.plans.plan_of_json_tree.Goals as goal

pub returns-in_err-check_all_names-clause-value : goal.returns-in_err-check_all_names-clause-value
returns-in_err-check_all_names-clause-value c =
    let m = market_of c.args.case.now in
    let v = view c.args.root in
    let g = groups_of c.in_ok-groups.groups in
    let found = rw (c.len.ensures, ← length-map c.args.case.now.bids.items named_bid_of) at c.in_ok-groups.ensures in
    let p = err_from_is_err_and c.from_residual-in_err-check_all_names.result
    c.from_residual-in_err-check_all_names.ensures.1 in
    rw (p.1, p.2) (names_fail m v g found c.in_err-check_all_names.field-0.0 c.in_err-check_all_names.ensures)

pub returns-in_err-responses-clause-value : goal.returns-in_err-responses-clause-value
returns-in_err-responses-clause-value c =
    let m = market_of c.args.case.now in
    let v = view c.args.root in
    let g = groups_of c.in_ok-groups.groups in
    let found = rw (c.len.ensures, ← length-map c.args.case.now.bids.items named_bid_of) at c.in_ok-groups.ensures in
    let p = err_from_is_err_and c.from_residual-in_err-responses.result
    c.from_residual-in_err-responses.ensures.1 in
    rw (p.1, p.2, ← schedules_last m v g found c.in_ok-check_all_names.ensures)
    c.in_err-responses.ensures.value

pub returns-clause-value : goal.returns-clause-value
returns-clause-value c =
    let m = market_of c.args.case.now in
    let v = view c.args.root in
    let g = groups_of c.in_ok-groups.groups in
    let found = rw (c.len.ensures, ← length-map c.args.case.now.bids.items named_bid_of) at c.in_ok-groups.ensures in
    rw (← schedules_last m v g found c.in_ok-check_all_names.ensures) c.in_ok-responses.ensures.value
