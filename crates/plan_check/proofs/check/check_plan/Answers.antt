use Rattle.plan_check.proofs.Common.{is_ok, refl, sym, ap, ◌∙◌, err_from_is_err_and, market_of, schedules_of, refusals}
use Rattle.plan_check.proofs.Lemmas.{refusals_are_exact, false_true, some_first}
use Rattle.plan_check.proofs.check.check_plan.Goals as goal

pub cost_of_plan-requires-clause-feasible : goal.cost_of_plan-requires-clause-feasible
cost_of_plan-requires-clause-feasible c =
    (refusals_are_exact (market_of c.args.case.now) (schedules_of c.args.plan.now) c.requires).0
    c.in_ok-check_all.ensures

pub returns-clause-feasible : goal.returns-clause-feasible
returns-clause-feasible c =
    let exact = refusals_are_exact (market_of c.args.case.now) (schedules_of c.args.plan.now) c.requires in
    (λ ok. exact.0 c.in_ok-check_all.ensures, λ feasible. refl)

pub returns-in_err-check_all-clause-feasible : goal.returns-in_err-check_all-clause-feasible
returns-in_err-check_all-clause-feasible c =
    let exact = refusals_are_exact (market_of c.args.case.now) (schedules_of c.args.plan.now) c.requires in
    let p = err_from_is_err_and c.from_residual.result c.from_residual.ensures.1 in (
      λ ok. absurd (false_true (sym (ap is_ok p.1) ∙ ok)),
      λ feasible. absurd (some_first (refusals (market_of c.args.case.now) (schedules_of c.args.plan.now)) _
          c.in_err-check_all.ensures (exact.1 feasible)),
    )
