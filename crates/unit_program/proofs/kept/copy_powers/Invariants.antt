use Rattle.unit_program.proofs.Common.{◌≡◌, length}
use Rattle.unit_program.proofs.kept.copy_powers.Given as goal

abbrev pub invariant-loop-index : goal.invariant-loop-index
invariant-loop-index l = length l.into.items ≡ length l.fn.into.items
