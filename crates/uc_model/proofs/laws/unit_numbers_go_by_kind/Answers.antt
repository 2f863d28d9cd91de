use Rattle.uc_model.proofs.Lemmas.{units_numbered}
use Rattle.uc_model.proofs.laws.unit_numbers_go_by_kind.Goals as goal

pub returns : goal.returns
returns c = units_numbered
