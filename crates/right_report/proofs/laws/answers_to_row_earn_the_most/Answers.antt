use Rattle.right_report.proofs.Lemmas.{tops_at}
use Rattle.right_report.proofs.laws.answers_to_row_earn_the_most.Goals as goal

pub returns : goal.returns
returns c = tops_at c.answers_of_history_fit_their_tasks.ensures c.each_row_has_answer_of_each_unit.ensures
    c.finished_has_row.ensures c.finished_history_is_whole_run.ensures
