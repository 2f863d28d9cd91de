use Rattle.unit_table.proofs.Lemmas.{at_once_some, at_once_none}
use Rattle.unit_table.proofs.laws.stops_at_once_cost_nothing.Goals as goal

pub returns : goal.returns
returns c = λ g π periods some. (at_once_some g π periods, at_once_none g π periods some)
