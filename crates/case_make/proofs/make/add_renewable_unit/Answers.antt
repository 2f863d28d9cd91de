use Rattle.case_make.proofs.Common.{sym, subst, IsSteady}
use Rattle.case_make.proofs.Lemmas.{full_within}
use Rattle.case_make.proofs.make.add_renewable_unit.Goals as goal

pub push-requires-clause-steady : goal.push-requires-clause-steady
push-requires-clause-steady c = subst IsSteady (sym c.in_ok-full_output_schedule.ensures)
    (full_within c.in_ok-powers.powers.items c.in_ok-powers.ensures.sizes).steady
