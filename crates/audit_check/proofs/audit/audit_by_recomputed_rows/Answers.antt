use Rattle.audit_check.proofs.Common.{rules, ℕ, ◌+◌, sym, ap, ◌∙◌, arith, min, w128, to_z-of_z, length-map, market_of}
use Rattle.audit_check.proofs.Common.{schedules_of, proposal_of, report_of}
use Rattle.audit_check.proofs.audit.audit_by_recomputed_rows.Goals as goal

pub make_audit_jobs-requires-clause-schedules : goal.make_audit_jobs-requires-clause-schedules
make_audit_jobs-requires-clause-schedules g c =
    let audited = c.args.audited.now in
    (schedules_of audited.plan.now, audited.feasible.feasible)

pub recomputed_rows_of_run-requires-clause-cost : goal.recomputed_rows_of_run-requires-clause-cost
recomputed_rows_of_run-requires-clause-cost g c =
    λ κs out. (
      schedules_of c.args.audited.now.plan.now,
      c.args.audited.now.feasible,
      rw (to_z-of_z w128 c.args.audited.now.cost (search rules)) (sym c.args.audited.now.cost_is),
    )

pub recomputed_rows_of_run-requires-clause-budget : goal.recomputed_rows_of_run-requires-clause-budget
unfolding report_of
recomputed_rows_of_run-requires-clause-budget g c = λ κs out.
    let most = c.row_count_to_audit-most.ensures in
    let least = c.args.audited.now.bounds.budget_at_least in
    let limit = c.args.audited.now.bounds.budget_at_most in
    (omega (arith, most, least), omega (arith, most, limit))

pub recomputed_rows_of_run-requires-clause-ahead : goal.recomputed_rows_of_run-requires-clause-ahead
unfolding report_of
recomputed_rows_of_run-requires-clause-ahead g c = λ κs out.
    let bounds = c.args.audited.now.bounds in
    (bounds.ahead_at_least, bounds.ahead_at_most)

pub make-requires-2 : goal.make-requires-2
make-requires-2 g c = c.workspace_of_last_job.ensures (market_of c.args.audited.now.case.now)
    c.recomputed_rows_of_run.ensures.jobs

pub audit_result_of_right_rows-audit-requires-clause-run : goal.audit_result_of_right_rows-audit-requires-clause-run
unfolding report_of
audit_result_of_right_rows-audit-requires-clause-run g c =
    let r = c.args.audited.now.report.now in
    let wide = length-map r.rows.items proposal_of in
    let most = c.row_count_to_audit-most.ensures ∙ ap (λ (n : ℕ). min r.budget (n + 1)) (sym wide) in
    let run = rw (to_z-of_z w128 c.args.audited.now.cost (search rules)) at c.in_ok-rows.ensures.run in
    rw (c.as_slice.ensures, sym most) run

pub make_audit_jobs-requires-clause-benches : goal.make_audit_jobs-requires-clause-benches
make_audit_jobs-requires-clause-benches g c = c.requires.benches

pub recomputed_rows_of_run-requires-clause-count : goal.recomputed_rows_of_run-requires-clause-count
recomputed_rows_of_run-requires-clause-count g c = λ κs out.
    let long = c.in_ok-jobs.ensures.count in
    let least = c.requires.count.0 in
    let most = c.requires.count.1 in
    (omega (arith, long, least), omega (arith, long, most))

pub recomputed_rows_of_run-requires-clause-jobs : goal.recomputed_rows_of_run-requires-clause-jobs
recomputed_rows_of_run-requires-clause-jobs g c = λ κs out. c.in_ok-jobs.ensures.jobs

pub audit_result_of_right_rows-audit-requires-clause-compare_room :
    goal.audit_result_of_right_rows-audit-requires-clause-compare_room
audit_result_of_right_rows-audit-requires-clause-compare_room g c = c.in_ok-compare_room.ensures

pub returns-clause-right : goal.returns-clause-right
returns-clause-right g c = c.audit_result_of_right_rows-audit.ensures.right

pub returns-clause-wrong : goal.returns-clause-wrong
returns-clause-wrong g c = c.audit_result_of_right_rows-audit.ensures.wrong
