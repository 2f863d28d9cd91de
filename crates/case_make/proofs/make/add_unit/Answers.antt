use Rattle.case_make.proofs.Common.{sym, subst, IsSteady}
use Rattle.case_make.proofs.Lemmas.{unit_within}
use Rattle.case_make.proofs.make.add_unit.Goals as goal

pub push-requires-clause-steady : goal.push-requires-clause-steady
push-requires-clause-steady c = subst IsSteady (sym c.in_ok-unit_schedule.ensures)
    (unit_within c.draw_unit-draws.result c.draw_unit-draws.ensures.ranges).steady
