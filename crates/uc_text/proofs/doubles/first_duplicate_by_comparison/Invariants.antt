use Rattle.uc_text.proofs.Common.{take, names_said, AreDifferent}
use Rattle.uc_text.proofs.doubles.first_duplicate_by_comparison.Given as goal

abbrev pub invariant-loop-index : goal.invariant-loop-index
invariant-loop-index l = AreDifferent (take l.index (names_said l.names))
