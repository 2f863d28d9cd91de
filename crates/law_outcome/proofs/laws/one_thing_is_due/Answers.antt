use Rattle.law_outcome.proofs.Common.{words_of}
use Rattle.law_outcome.proofs.Lemmas.{one_due}
use Rattle.law_outcome.proofs.laws.one_thing_is_due.Goals as goal

pub returns : goal.returns
returns c words reads a b =
    one_due (record {
      case = c.case_file_has_one_value_or_one_fault.ensures;
      plan = c.schedule_file_has_one_value_or_one_fault.ensures;
      report = c.no_two_reports_share_a_text.ensures;
      fault = c.at_most_one_line_is_in_fault.ensures;
      right = c.one_report_is_right.ensures;
      difference = c.texts_first_differ_at_one_line.ensures;
      prices = c.prices_file_has_one_value_or_one_fault.ensures;
      mixture = c.mixture_file_has_one_value_or_one_fault.ensures;
    }) (words_of words) reads a b
