use Rattle.law_outcome.proofs.SomethingDue.{something_is_due}
use Rattle.law_outcome.proofs.existence.something_is_due.Goals as goal

pub returns : goal.returns
returns c = something_is_due (record {
  case = c.case_or_fault.ensures;
  plan = c.schedule_file_has_value_or_fault.ensures;
  exact = c.feasible_exactly_without_broken_rule.ensures;
  report = c.each_text_is_report_or_has_fault.ensures;
  right = c.right_reports_exist.ensures;
  one_right = c.one_report_is_right.ensures;
  text = c.text_determines_the_report.ensures;
  form = c.right_report_has_form.ensures;
  differs = c.wrong_report_has_first_wrong_line.ensures;
  prices = c.prices_or_fault.ensures;
  mixture = c.mixture_file_has_value_or_fault.ensures;
})
