use Rattle.law_outcome.proofs.SettlementsExist.{settlements_exist}
use Rattle.law_outcome.proofs.existence.settlements_exist.Goals as goal

pub returns : goal.returns
returns c = settlements_exist c.best_responses_exist.ensures
