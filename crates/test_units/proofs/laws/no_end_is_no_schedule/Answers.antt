use Rattle.test_units.proofs.Lemmas.{none_right}
use Rattle.test_units.proofs.laws.no_end_is_no_schedule.Goals as goal

pub returns : goal.returns
returns c g π periods ends horizon up down complete none =
    none_right g π periods horizon ends up down complete none
