-- The audit of the report that was read.
use Rattle.hull_command.proofs.Common.{inl, inr, List, ℕ, Option, Ok, Err, refl, sym, subst, ReportFile, TopFault}
use Rattle.hull_command.proofs.Common.{IsAuditText, IsFaultOf, Then, Reads, IsInput, IsWithinWork, IsReportFile}
use Rattle.hull_command.proofs.Common.{IsReported, IsAudit, PlannedCase, Completes, command_for, audit, audit_asked}
use Rattle.hull_command.proofs.Common.{rest_with, report_of}
use Rattle.hull_input.specs.Laws.{ReportBytesAreItsText}
use Rattle.hull_words.specs.declared.command.AuditWords.{AuditWords}
use Rattle.report_read.specs.declared.report.Report.{Report as ReadReport}
use Rattle.hull_command.specs.declared.ready.Purpose.TheVariants.{Audit}

-- what refuses the run of a report refuses its audit
pub audit_refused : (reads : Reads) (f : TopFault) → IsFaultOf (Then (IsInput reads) (IsReported reads)) f →
    IsFaultOf (Then (IsInput reads) (IsAudit reads)) f
audit_refused reads f (inl (Ok c, input, (Ok r, file, work))) = inl (Ok c, input, (Ok r, file, (Err f, work, refl)))
audit_refused reads f (inl (Ok c, input, (Err g, file, e))) = inl (Ok c, input, (Err g, file, e))
audit_refused reads f (inl (Err g, input, e)) = inl (Err g, input, e)
audit_refused reads f (inr memory) = inr memory

-- what judges the report completes the audit
pub completes_audit : ReportBytesAreItsText → (words : AuditWords) (reads : Reads) (c left : PlannedCase)
    (report : ReadReport) (budget ahead : ℕ) → IsInput reads (Ok c) →
    IsReportFile (reads ReportFile) (Ok (report_of report))
    → IsWithinWork (report_of report).budget c (Ok left) →
    Completes (command_for (Ok (audit (audit_asked words)))) reads (rest_with (Audit report) left budget ahead)
completes_audit text_read words reads c left report budget ahead input file work = record {
  due = λ found judged. (Ok c, input, (Ok (report_of report), file, (Ok left, work, judged)));
  text = λ i text printed. subst (λ (read : Option (List ℕ)). IsAuditText read i text)
      (sym (text_read (reads ReportFile) (report_of report) file)) printed;
}
