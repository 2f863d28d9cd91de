use Rattle.board_store.proofs.Lemmas.{stays_finished}
use Rattle.board_store.proofs.laws.finished_stays_finished.Goals as goal

pub returns : goal.returns
returns c = stays_finished
