use Rattle.hull_input.proofs.Lemmas.{got}
use Rattle.hull_input.proofs.laws.bytes_are_those_read.Goals as goal

pub returns : goal.returns
returns c = got
