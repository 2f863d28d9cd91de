use Rattle.uc_text.proofs.Common.{take, names_said}
use Rattle.uc_text.proofs.Lemmas.{Ascend}
use Rattle.uc_text.proofs.doubles.names_ascend.Given as goal

abbrev pub invariant-loop-name : goal.invariant-loop-name
invariant-loop-name l = Ascend (take l.name-index (names_said l.names)) l.last
