use Rattle.spell_run.proofs.Common.{signed}
use Rattle.spell_run.proofs.Lemmas.{reserve_is, reserve_out}
use Rattle.spell_run.proofs.write.best_reserve_after_power.Goals as goal

pub returns-clause-best : goal.returns-clause-best
returns-clause-best c =
    reserve_is c.requires.step c.requires.power c.requires.before c.min.result (record { sfits = c.min.type_inv })
    (let least = c.requires.step.reserve_price.at_least in omega signed) c.min.ensures.value

pub returns-clause-bound : goal.returns-clause-bound
returns-clause-bound c =
    rw (returns-clause-best c) (reserve_out c.requires.step c.requires.power c.requires.before c.requires.under
    c.requires.rise)
