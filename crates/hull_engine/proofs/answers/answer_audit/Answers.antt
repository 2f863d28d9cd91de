use Rattle.hull_engine.proofs.Common.{refl, ap, ◌∙◌, report_of, planned_run}
use Rattle.hull_report.specs.AuditText.{audit_text}
use Rattle.hull_engine.proofs.Common.{IsCommandAnswer, rest_with, nothing_read}
use Rattle.hull_command.specs.declared.ready.Purpose.TheVariants.{Audit}
use Rattle.hull_engine.proofs.Lemmas.{handed_on}
use Rattle.hull_engine.proofs.answers.answer_audit.Goals as goal

pub returns-in_err-proposal_count_of_right_report-clause-answers :
    goal.returns-in_err-proposal_count_of_right_report-clause-answers
returns-in_err-proposal_count_of_right_report-clause-answers g c =
    let terms = c.args.terms in
    handed_on (IsCommandAnswer (rest_with (Audit c.args.report) (planned_run terms) terms.budget terms.ahead)
    nothing_read)
    c.from_residual.result c.in_err-proposal_count_of_right_report.field-0.0 c.from_residual.ensures.1
    c.in_err-proposal_count_of_right_report.ensures.answers

pub returns-clause-answers : goal.returns-clause-answers
returns-clause-answers g c =
    let judged = c.in_ok-proposal_count_of_right_report.ensures.answers in (
      planned_run c.args.terms,
      judged,
      λ text is. (
        report_of c.args.report,
        refl,
        judged.0,
        is ∙ ap audit_text
            c.in_ok-proposal_count_of_right_report.ensures.count,
      ),
    )
