use Rattle.unit_table.proofs.Common.{rules, shown, arith, FitsSigned, w64, OnTrue_at, ints, to_z-of_z, live_at}
use Rattle.unit_table.proofs.Common.{IsBeyond}
use Rattle.unit_table.proofs.Lemmas.{live_from, beyond_goes, kept_none}
use Rattle.unit_table.proofs.running_spell.stop_spell_if_above_cost_limit.Goals as goal

pub is_spell_above_cost_limit-requires-clause-bound : goal.is_spell_above_cost_limit-requires-clause-bound
is_spell_above_cost_limit-requires-clause-bound c = (c.requires.small c.args.first _
    (live_from c.args.spells.now c.args.first _ c.running_spell_of_first_period-spell.ensures
    c.if-not-spell.false)).cost

pub is_spell_above_cost_limit-requires-clause-values : goal.is_spell_above_cost_limit-requires-clause-values
is_spell_above_cost_limit-requires-clause-values c = (c.requires.small c.args.first _
    (live_from c.args.spells.now c.args.first _ c.running_spell_of_first_period-spell.ensures
    c.if-not-spell.false)).values

pub returns-then-is_spell_above_cost_limit-clause-stands : goal.returns-then-is_spell_above_cost_limit-clause-stands
returns-then-is_spell_above_cost_limit-clause-stands c = λ u π limits ends t n here now.
    let x = c.running_spell_of_first_period-spell.result.now in
    let fits_limit : FitsSigned w64 c.args.limit = search rules in
    let beyond : IsBeyond c.args.limit x.cost (shown x.running) = simp to_z-of_z at
    (OnTrue_at c.if-is_spell_above_cost_limit.true c.is_spell_above_cost_limit.ensures) in
    beyond_goes u π limits ends t (live_at c.args.spells.now) _ n c.args.first _ now
    (live_from c.args.spells.now c.args.first _ c.running_spell_of_first_period-spell.ensures c.if-not-spell.false)
    (λ y v there. (let above = beyond y v there in omega (arith, ints))) c.stop_running_spell_at.ensures.off
    c.stop_running_spell_at.ensures.others

pub returns-then-not-spell-clause-kept : goal.returns-then-not-spell-clause-kept
returns-then-not-spell-clause-kept c = kept_none c.args.spells.now

pub returns-else-is_spell_above_cost_limit-clause-kept : goal.returns-else-is_spell_above_cost_limit-clause-kept
returns-else-is_spell_above_cost_limit-clause-kept c = kept_none c.args.spells.now
