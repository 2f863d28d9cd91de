use Rattle.test_units.proofs.Common.{◌-◌}
use Rattle.test_units.proofs.best.+way_from.Given as goal

abbrev pub decreases-way_from : goal.decreases-way_from
decreases-way_from g l = l.spell.now.last - l.index
