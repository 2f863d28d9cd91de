use Rattle.spell_run.proofs.Common.{◌∙◌}
use Rattle.spell_run.proofs.Lemmas.{written_cast, best_stored}
use Rattle.spell_run.proofs.write.write_period_with_best_reserve.Goals as goal

pub returns-clause-written : goal.returns-clause-written
returns-clause-written c =
    written_cast c.requires.power c.best_reserve_after_power-reserve.ensures.bound
    (c.best_reserve_after_power-reserve.ensures.best ∙ best_stored c.args.step c.requires.before c.requires.power)
    c.write_on_period.ensures.written
