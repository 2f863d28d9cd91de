use Rattle.unit_program.proofs.ListLaws as lists
use Rattle.unit_program.proofs.laws.schedules_are_spells.Goals as goal

pub returns : goal.returns
returns c = lists.schedules_are_spells
