use Rattle.board_store.proofs.Lemmas.{answers_fit_now}
use Rattle.board_store.proofs.laws.answers_of_history_fit_their_tasks.Goals as goal

pub returns : goal.returns
returns c = answers_fit_now
