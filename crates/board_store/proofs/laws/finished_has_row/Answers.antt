use Rattle.board_store.proofs.Lemmas.{has_row}
use Rattle.board_store.proofs.laws.finished_has_row.Goals as goal

pub returns : goal.returns
returns c = has_row
