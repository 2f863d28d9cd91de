use Rattle.report_compare.proofs.Common.{rules, ℤ, Ok, Err, subst, w128, to_z-of_z, err_from_is_err_and}
use Rattle.report_compare.proofs.Common.{market_of, schedules_of, report_of, right_opening, opening_lines, Compares}
use Rattle.report_compare.proofs.Lemmas.{opening_told, opening_fails}
use Rattle.report_compare.proofs.verdict.check_opening_lines.Goals as goal

pub returns-clause-right : goal.returns-clause-right
returns-clause-right c =
    let audited = c.args.audited.now in
    let r = report_of audited.report.now in
    let told = rw (to_z-of_z w128 audited.cost (search rules)) at c.in_ok-compare_first_six_lines.ensures.lines in
    opening_told (Ok c.in_ok-compare_first_six_lines.field-0) (opening_lines r)
    (right_opening (market_of audited.case.now) audited.cost r)
    told

pub returns-in_err-compare_first_six_lines-clause-wrong : goal.returns-in_err-compare_first_six_lines-clause-wrong
returns-in_err-compare_first_six_lines-clause-wrong c =
    let audited = c.args.audited.now in
    let m = market_of audited.case.now in
    let plan = schedules_of audited.plan.now in
    let r = report_of audited.report.now in
    let p = err_from_is_err_and c.from_residual.result c.from_residual.ensures.1 in
    let wrong = c.in_err-compare_first_six_lines.field-0.0 in
    let q = c.right_reports_exist.ensures m plan r.budget r.ahead audited.feasible audited.bounds.budget_at_least
    audited.bounds.ahead_at_least in
    let told = rw (to_z-of_z w128 audited.cost (search rules)) at c.in_err-compare_first_six_lines.ensures.lines in
    let lines = subst (λ (x : ℤ). Compares 1 (Err wrong) (opening_lines r) (right_opening m x r))
    audited.cost_is told in
    rw (p.1, p.2)
    (opening_fails c.text_determines_the_report.ensures c.one_report_is_right.ensures m plan r q.0 q.1
    (Err wrong) lines)
