use Rattle.case_make.proofs.Common.{◌*◌, ◌∙◌, sym, subst, arith, IsSmall}
use Rattle.case_make.proofs.LaterLaws.{renewable_units_later}
use Rattle.case_make.proofs.MadeLaws.{plan_made}
use Rattle.case_make.proofs.Lemmas.{thermal_small}
use Rattle.case_make.proofs.make.draw_units.Goals as goal

pub add_renewables-requires-clause-small : goal.add_renewables-requires-clause-small
add_renewables-requires-clause-small c =
    subst (IsSmall 40000000) (sym c.in_ok-thermal.ensures.plan) (thermal_small c.args.random.now 73 (omega arith))

pub returns-clause-thermal : goal.returns-clause-thermal
returns-clause-thermal c = c.in_ok-thermal.ensures.units

pub returns-clause-flat : goal.returns-clause-flat
returns-clause-flat c =
    c.in_ok-flat.ensures.units ∙ renewable_units_later (9 * 73) 81 c.args.random.now _ c.in_ok-thermal.ensures.moved

pub returns-clause-plan : goal.returns-clause-plan
returns-clause-plan c =
    plan_made c.args.random.now _ _ _ c.in_ok-thermal.ensures.plan c.in_ok-flat.ensures.plan
    c.in_ok-thermal.ensures.moved

pub returns-clause-summed : goal.returns-clause-summed
returns-clause-summed c = c.in_ok-flat.ensures.summed
