use Rattle.plan_check.proofs.Common.{err_from_is_err_and, market_of, schedules_of}
use Rattle.plan_check.proofs.Lemmas.{first_thermal, first_renewable, first_bid, first_balance, found_last}
use Rattle.plan_check.proofs.check.check_all.Goals as goal

pub returns-in_err-check_thermals : goal.returns-in_err-check_thermals
returns-in_err-check_thermals c =
    let p = err_from_is_err_and c.from_residual.result c.from_residual.ensures.1 in
    rw (p.1, p.2) (first_thermal (market_of c.args.case.now) (schedules_of c.args.plan.now) _
    c.in_err-check_thermals.ensures)

pub returns-in_err-check_renewables : goal.returns-in_err-check_renewables
returns-in_err-check_renewables c =
    let p = err_from_is_err_and c.from_residual-in_err-check_renewables.result
    c.from_residual-in_err-check_renewables.ensures.1 in
    rw (p.1, p.2) (first_renewable (market_of c.args.case.now) (schedules_of c.args.plan.now) _
    c.in_ok-check_thermals.ensures c.in_err-check_renewables.ensures)

pub returns-in_err-check_bids : goal.returns-in_err-check_bids
returns-in_err-check_bids c =
    let p = err_from_is_err_and c.from_residual-in_err-check_bids.result c.from_residual-in_err-check_bids.ensures.1 in
    rw (p.1, p.2) (first_bid (market_of c.args.case.now) (schedules_of c.args.plan.now) _ c.in_ok-check_thermals.ensures
    c.in_ok-check_renewables.ensures c.in_err-check_bids.ensures)

pub returns-in_err-check_balance : goal.returns-in_err-check_balance
returns-in_err-check_balance c =
    let p = err_from_is_err_and c.from_residual-in_err-check_balance.result
    c.from_residual-in_err-check_balance.ensures.1 in
    rw (p.1, p.2) (first_balance (market_of c.args.case.now) (schedules_of c.args.plan.now) _
    c.in_ok-check_thermals.ensures c.in_ok-check_renewables.ensures c.in_ok-check_bids.ensures
    c.in_err-check_balance.ensures)

pub returns : goal.returns
returns c =
    found_last (market_of c.args.case.now) (schedules_of c.args.plan.now) c.check_reserve.result
    c.in_ok-check_thermals.ensures c.in_ok-check_renewables.ensures c.in_ok-check_bids.ensures
    c.in_ok-check_balance.ensures c.check_reserve.ensures
