use Rattle.spell_run.proofs.Common.{sym, ◌∙◌}
use Rattle.spell_run.proofs.Lemmas.{most_chosen}
use Rattle.spell_run.proofs.step.greatest_power_in_period.Goals as goal

pub returns-then-stops : goal.returns-then-stops
returns-then-stops c =
    let unit = c.args.unit.now in
    most_chosen unit.valid c.ranges.cap (record { sfits = c.min.type_inv }) c.min.ensures.value
    ∙ sym (cc)
