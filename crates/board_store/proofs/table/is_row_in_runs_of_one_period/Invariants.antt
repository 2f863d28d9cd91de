use Rattle.board_store.proofs.Common.{IsTrue}
use Rattle.board_store.proofs.Lemmas.{AreOnes}
use Rattle.board_store.proofs.table.is_row_in_runs_of_one_period.Given as goal

abbrev pub invariant-loop-k : goal.invariant-loop-k
invariant-loop-k g l = IsTrue l.same → AreOnes l.lengths l.values l.start l.row l.k
