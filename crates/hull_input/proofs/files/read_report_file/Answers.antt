use Rattle.hull_input.proofs.Common.{err_from_is_err_and, Ok, ReportFile, IsBytes, IsReportIn}
use Rattle.hull_input.proofs.Lemmas.{refused_then, fault_then, report_refuses}
use Rattle.hull_input.proofs.files.read_report_file.Goals as goal

pub returns-in_err-bytes-clause-answers : goal.returns-in_err-bytes-clause-answers
returns-in_err-bytes-clause-answers g c =
    let p = err_from_is_err_and c.from_residual.result c.from_residual.ensures.1 in
    let h = c.in_err-bytes.ensures.answers in
    rw (p.1, p.2) (h.0, h.1, refused_then (IsBytes ReportFile h.0) IsReportIn _ h.2)

pub returns-in_err-read_report-clause-answers : goal.returns-in_err-read_report-clause-answers
returns-in_err-read_report-clause-answers g c =
    let r = c.from_residual-in_err-read_report in
    let p = err_from_is_err_and r.result r.ensures.1 in
    let h = c.in_ok-bytes.ensures.answers in
    let bytes = c.in_ok-bytes.bytes.items in
    rw (p.1, p.2) (
      h.0,
      h.1,
      fault_then (IsBytes ReportFile h.0) IsReportIn bytes _ h.2
          (report_refuses bytes c.in_err-read_report.field-0.0
          (rw c.as_slice.ensures.value at c.in_err-read_report.ensures.fault)),
    )

pub returns-clause-answers : goal.returns-clause-answers
returns-clause-answers g c =
    let h = c.in_ok-bytes.ensures.answers in
    let is = rw c.as_slice.ensures.value at c.in_ok-read_report.ensures.found in
    (h.0, h.1, (Ok c.in_ok-bytes.bytes.items, h.2, (c.in_ok-read_report.ensures.bounds, is)))
