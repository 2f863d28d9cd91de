use Rattle.right_report.proofs.Lemmas.{record_is_right}
use Rattle.right_report.proofs.laws.report_of_finished_board_is_right.Goals as goal

pub returns : goal.returns
returns c = record_is_right c.answers_of_history_fit_their_tasks.ensures c.each_row_has_answer_of_each_unit.ensures
    c.finished_has_row.ensures
    c.finished_history_is_whole_run.ensures
