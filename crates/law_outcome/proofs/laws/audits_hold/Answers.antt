use Rattle.law_outcome.proofs.Common.{words_of}
use Rattle.law_outcome.proofs.AuditPromise.{audit_holds}
use Rattle.law_outcome.proofs.laws.audits_hold.Goals as goal

pub returns : goal.returns
returns g c words old new before after n h a same =
    audit_holds c.bytes_are_those_read.ensures c.report_bytes_are_its_text.ensures
    c.report_payments_make_up_the_gap.ensures c.run_prices_are_within.ensures c.payments_are_at_least_zero.ensures
    c.text_determines_the_report.ensures c.right_report_has_form.ensures c.printed_reports_are_in_form.ensures a _ _
    _ _
    (words_of words) n h.reads h.end h.are_reads h.ends h.status_is same
