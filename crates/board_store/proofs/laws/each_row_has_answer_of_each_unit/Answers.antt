use Rattle.board_store.proofs.Lemmas.{rows_are_made}
use Rattle.board_store.proofs.laws.each_row_has_answer_of_each_unit.Goals as goal

pub returns : goal.returns
returns c = rows_are_made
