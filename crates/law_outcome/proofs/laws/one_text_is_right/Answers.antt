use Rattle.law_outcome.proofs.Common.{words_of}
use Rattle.law_outcome.proofs.Lemmas.{one_text}
use Rattle.law_outcome.proofs.laws.one_text_is_right.Goals as goal

pub returns : goal.returns
returns c words reads i text other follows =
    one_text c.one_report_is_right.ensures c.right_side_of_fixed_report_is_unique.ensures
    c.text_determines_the_report.ensures
    c.right_report_has_form.ensures c.prices_file_has_one_value_or_one_fault.ensures
    c.plan_has_at_most_one_settlement.ensures c.mixture_file_has_one_value_or_one_fault.ensures
    (words_of words) reads i text other follows
