use Rattle.board_store.proofs.Lemmas.{run_fits}
use Rattle.board_store.proofs.laws.finished_history_is_whole_run.Goals as goal

pub returns : goal.returns
returns c = run_fits
