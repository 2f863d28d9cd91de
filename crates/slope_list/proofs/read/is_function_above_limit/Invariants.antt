use Rattle.slope_list.proofs.Lemmas.{HasFallen}
use Rattle.slope_list.proofs.read.is_function_above_limit.Given as goal

abbrev pub invariant-loop-piece : goal.invariant-loop-piece
invariant-loop-piece l = HasFallen l.fn.start l.pieces l.piece-index l.at l.value
