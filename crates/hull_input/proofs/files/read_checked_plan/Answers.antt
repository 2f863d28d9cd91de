use Rattle.hull_input.proofs.Common.{err_from_is_err_and, market_of, schedules_of, planned_of, IsPlanFile, IsChecked}
use Rattle.hull_input.proofs.Lemmas.{refused_then, answer_then}
use Rattle.hull_input.proofs.files.read_checked_plan.Goals as goal

pub returns-in_err-plan-clause-answers : goal.returns-in_err-plan-clause-answers
returns-in_err-plan-clause-answers g c =
    let p = err_from_is_err_and c.from_residual.result c.from_residual.ensures.1 in
    let h = c.in_err-plan.ensures.answers in
    rw (p.1, p.2) (
      h.0,
      h.1,
      refused_then (IsPlanFile (market_of c.args.case) h.0) (IsChecked (market_of c.args.case)) _
          h.2,
    )

pub returns-clause-answers : goal.returns-clause-answers
returns-clause-answers g c =
    let h = c.in_ok-plan.ensures.answers in (
      h.0,
      h.1,
      answer_then (IsPlanFile (market_of c.args.case) h.0) (IsChecked (market_of c.args.case))
          (schedules_of c.in_ok-plan.plan) planned_of c.checked_case_and_schedule.result h.2
          c.checked_case_and_schedule.ensures.answers,
    )
