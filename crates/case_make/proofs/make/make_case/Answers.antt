use Rattle.case_make.proofs.Common.{ap, sym, ◌∙◌, subst, IsMarket, IsSmall, market_from, plan_from, start_of}
use Rattle.case_make.proofs.MadeLaws.{market_for_is, if_made, if_both}
use Rattle.case_make.proofs.MarketLaws.{feasible_for, made_limited, plan_small}
use Rattle.case_make.proofs.make.make_case.Goals as goal

pub case_and_schedule_of_units-requires-clause-small : goal.case_and_schedule_of_units-requires-clause-small
case_and_schedule_of_units-requires-clause-small c =
    subst (IsSmall 100000000) (sym c.in_ok-thermal.ensures.plan) (plan_small c.new-random.result)

pub case_and_schedule_of_units-requires-clause-market : goal.case_and_schedule_of_units-requires-clause-market
case_and_schedule_of_units-requires-clause-market c =
    let units = c.in_ok-thermal.ensures in
    subst IsMarket (sym (market_for_is c.new-random.result _ _ _ units.plan units.thermal units.flat))
    (made_limited c.new-random.result)

pub returns-clause-case : goal.returns-clause-case
unfolding start_of
returns-clause-case c =
    let units = c.in_ok-thermal.ensures in
    let made = market_for_is c.new-random.result _ _ _ units.plan units.thermal units.flat in
    if_made _ _ c.case_and_schedule_of_units.result (λ pair e. e ∙ made ∙ ap market_from c.new-random.ensures)
    c.case_and_schedule_of_units.ensures.case

pub returns-clause-plan : goal.returns-clause-plan
unfolding start_of
returns-clause-plan c =
    if_made _ _ c.case_and_schedule_of_units.result
    (λ pair e. e ∙ c.in_ok-thermal.ensures.plan ∙ ap plan_from c.new-random.ensures)
    c.case_and_schedule_of_units.ensures.plan

pub returns-clause-feasible : goal.returns-clause-feasible
returns-clause-feasible c =
    let g = c.new-random.result in
    let units = c.in_ok-thermal.ensures in
    let made = market_for_is g _ _ _ units.plan units.thermal units.flat in
    if_both _ _ _ c.case_and_schedule_of_units.result (λ pair e f. feasible_for g _ _ (e ∙ made) (f ∙ units.plan))
    c.case_and_schedule_of_units.ensures.case
    c.case_and_schedule_of_units.ensures.plan
