use Rattle.report_read.proofs.Common.{refl, rules, w128, to_z-of_z, head_at, err_from_is_err_and}
use Rattle.report_read.proofs.Stopped.{no_title, no_periods, no_units, no_run, no_budget, no_ahead, no_cost}
use Rattle.report_read.proofs.Stopped.{no_proposals}
use Rattle.report_read.proofs.head.read_head.Goals as goal

pub returns : goal.returns
unfolding head_at
returns c =
    rw (
      to_z-of_z w128 c.in_ok-cost.cost (search rules),
      c.in_ok-read_word_line.ensures,
      c.in_ok-periods.ensures,
      c.in_ok-units.ensures,
      c.in_ok-budget.ensures,
      c.in_ok-ahead.ensures,
      c.in_ok-cost.ensures,
      c.in_ok-proposals.ensures,
    ) refl

pub returns-in_err-read_word_line : goal.returns-in_err-read_word_line
returns-in_err-read_word_line c =
    let p = err_from_is_err_and c.from_residual.result c.from_residual.ensures.1 in
    rw (p.1, p.2) (no_title c.in_err-read_word_line.field-0.0 _ c.in_err-read_word_line.ensures)

pub returns-in_err-periods : goal.returns-in_err-periods
returns-in_err-periods c =
    let p = err_from_is_err_and c.from_residual-in_err-periods.result c.from_residual-in_err-periods.ensures.1 in
    rw (p.1, p.2) (no_periods c.in_err-periods.field-0.0 _ _ c.in_ok-read_word_line.ensures c.in_err-periods.ensures)

pub returns-in_err-units : goal.returns-in_err-units
returns-in_err-units c =
    let p = err_from_is_err_and c.from_residual-in_err-units.result c.from_residual-in_err-units.ensures.1 in
    rw (p.1, p.2) (no_units c.in_err-units.field-0.0 _ _ _ _ c.in_ok-read_word_line.ensures c.in_ok-periods.ensures
    c.in_err-units.ensures)

pub returns-in_err-budget : goal.returns-in_err-budget
returns-in_err-budget c =
    let p = err_from_is_err_and c.from_residual-in_err-budget.result c.from_residual-in_err-budget.ensures.1 in
    rw (p.1, p.2) (no_run c.in_err-budget.field-0.0 _ _ _ _ _ _ c.in_ok-read_word_line.ensures c.in_ok-periods.ensures
    c.in_ok-units.ensures (no_budget c.in_err-budget.field-0.0 _ c.in_err-budget.ensures))

pub returns-in_err-ahead : goal.returns-in_err-ahead
returns-in_err-ahead c =
    let p = err_from_is_err_and c.from_residual-in_err-ahead.result c.from_residual-in_err-ahead.ensures.1 in
    rw (p.1, p.2) (no_run c.in_err-ahead.field-0.0 _ _ _ _ _ _ c.in_ok-read_word_line.ensures c.in_ok-periods.ensures
    c.in_ok-units.ensures
    (no_ahead c.in_err-ahead.field-0.0 _ _ _ c.in_ok-budget.ensures c.in_err-ahead.ensures))

pub returns-in_err-cost : goal.returns-in_err-cost
returns-in_err-cost c =
    let p = err_from_is_err_and c.from_residual-in_err-cost.result c.from_residual-in_err-cost.ensures.1 in
    rw (p.1, p.2) (no_run c.in_err-cost.field-0.0 _ _ _ _ _ _ c.in_ok-read_word_line.ensures c.in_ok-periods.ensures
    c.in_ok-units.ensures
    (no_cost c.in_err-cost.field-0.0 _ _ _ _ _ c.in_ok-budget.ensures c.in_ok-ahead.ensures c.in_err-cost.ensures))

pub returns-in_err-proposals : goal.returns-in_err-proposals
returns-in_err-proposals c =
    let p = err_from_is_err_and c.from_residual-in_err-proposals.result c.from_residual-in_err-proposals.ensures.1 in
    rw (p.1, p.2) (no_run c.in_err-proposals.field-0.0 _ _ _ _ _ _ c.in_ok-read_word_line.ensures
    c.in_ok-periods.ensures
    c.in_ok-units.ensures
    (no_proposals c.in_err-proposals.field-0.0 _ _ _ _ _ _ _ c.in_ok-budget.ensures c.in_ok-ahead.ensures
    c.in_ok-cost.ensures c.in_err-proposals.ensures))
