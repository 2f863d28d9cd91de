use Rattle.spell_run.proofs.Lemmas.{reserve_is_a_kink}
use Rattle.spell_run.proofs.laws.reserve_earnings_have_a_kink.Goals as goal

pub returns : goal.returns
returns c = reserve_is_a_kink
