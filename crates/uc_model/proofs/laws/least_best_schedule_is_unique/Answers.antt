use Rattle.uc_model.proofs.TieLaws.{one_least}
use Rattle.uc_model.proofs.laws.least_best_schedule_is_unique.Goals as goal

pub returns : goal.returns
returns c = one_least
