use Rattle.spell_run.proofs.Lemmas.{reserve_is_best}
use Rattle.spell_run.proofs.laws.most_reserve_is_best.Goals as goal

pub returns : goal.returns
returns c = reserve_is_best
