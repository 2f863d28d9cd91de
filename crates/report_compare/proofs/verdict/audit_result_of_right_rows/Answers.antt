use Rattle.report_compare.proofs.Common.{◌≡◌, ℤ, ◌+◌, map, length, subst, sym, refl, arith, min}
use Rattle.report_compare.proofs.Common.{length-map, none-some, market_of, schedules_of, proposal_of, IsRun, Fits}
use Rattle.report_compare.proofs.Common.{plan_cost, report_of, right_opening, opening_lines}
use Rattle.report_compare.proofs.Lemmas.{number_wrong, beyond, no_more, wrong_right}
use Rattle.report_compare.proofs.verdict.audit_result_of_right_rows.Goals as goal

pub returns-then-right-told : goal.returns-then-right-told
unfolding report_of
returns-then-right-told c =
    let audited = c.args.audited.now in
    let m = market_of audited.case.now in
    let plan = schedules_of audited.plan.now in
    let r = report_of audited.report.now in
    let rows = map proposal_of c.args.rows.now in
    let q = c.right_reports_exist.ensures m plan r.budget r.ahead audited.feasible audited.bounds.budget_at_least
    audited.bounds.ahead_at_least in
    let same = subst (λ (x : ℤ). opening_lines r ≡ right_opening m x r) audited.cost_is c.requires.opening in
    let run = subst (λ (x : ℤ). IsRun Fits m x (min r.budget (length r.rows + 1)) r.ahead rows) audited.cost_is
    c.requires.run in
    let long = length-map c.args.rows.now proposal_of in
    let wide = length-map audited.report.now.rows.items proposal_of in
    let other = c.if-right-told.true in
    let told = c.len-told.ensures in
    let apart : length rows ≡ length r.rows → ⊥ = λ e. omega (arith, e, long, wide, other, told) in
    let w = number_wrong m plan r q.0 q.1 c.text_determines_the_report.ensures c.one_report_is_right.ensures same
    (no_more c.rows_of_run_are_unique.ensures m (plan_cost m plan) r.budget r.ahead (length r.rows) rows q.0.rows run
    q.1.run apart) in
    record { right = (λ e. absurd (wrong_right 7 e), λ h. absurd (w.1 h)); wrong = w.0 }

pub first_difference-requires-clause-run : goal.first_difference-requires-clause-run
unfolding report_of
first_difference-requires-clause-run c =
    let audited = c.args.audited.now in
    let m = market_of audited.case.now in
    let r = report_of audited.report.now in
    let rows = map proposal_of c.args.rows.now in
    let long = length-map c.args.rows.now proposal_of in
    let wide = length-map audited.report.now.rows.items proposal_of in
    let same = c.if-right-told.false in
    let told = c.len-told.ensures in
    beyond m audited.cost r.budget r.ahead (length r.rows) rows c.requires.run
    (omega (arith, long, wide, same, told))

pub returns-in-None-clause-right : goal.returns-in-None-clause-right
returns-in-None-clause-right c = (λ e. c.in-None.ensures.right.0 refl, λ h. refl)

pub returns-in-Some-clause-right : goal.returns-in-Some-clause-right
returns-in-Some-clause-right c = (
  λ e. absurd (wrong_right c.in-Some.line e),
  λ h. absurd (none-some c.in-Some.line (sym (c.in-Some.ensures.right.1 h))),
)
