use Rattle.unit_table.proofs.Common.{live_at, ◌∙◌, arith, FitsSigned, w64, rules, sym, to_z-of_z}
use Rattle.unit_table.proofs.Lemmas.{fewer_none, fewer_then, fewer_small, kept_none, kept_then}
use Rattle.unit_table.proofs.running_spell.stop_spells_above_cost_limit.Goals as goal

pub stop_spell_if_above_cost_limit-requires-clause-end : goal.stop_spell_if_above_cost_limit-requires-clause-end
stop_spell_if_above_cost_limit-requires-clause-end c =
    let below = c.requires.roster.below c.loop-index.index c.get.result.now (omega arith) c.get.ensures.item in
    omega arith

pub loop-index-preserved : goal.loop-index-preserved
loop-index-preserved c = record {
  fewer = fewer_then _ _ _ c.loop-index.invariant.fewer c.stop_spell_if_above_cost_limit.ensures.fewer;
  kept = kept_then _ _ _ c.loop-index.invariant.kept c.stop_spell_if_above_cost_limit.ensures.kept;
  stands = λ u π limits ends t n here now. c.stop_spell_if_above_cost_limit.ensures.stands u π limits ends t n here
      (c.loop-index.invariant.stands u π limits ends t n here now);
}

pub loop-index-init : goal.loop-index-init
loop-index-init c = record {
  fewer = fewer_none (live_at c.args.spells.now);
  kept = kept_none c.args.spells.now;
  stands = λ u π limits ends t n here now. now;
}

pub returns-clause-stands : goal.returns-clause-stands
returns-clause-stands c = λ u π limits ends t n here now.
    let fits : FitsSigned w64 c.args.limit = search rules in
    c.loop-index.invariant.stands u π limits ends t n (here ∙ sym (to_z-of_z w64 c.args.limit fits)) now

pub stop_spell_if_above_cost_limit-requires-clause-small : goal.stop_spell_if_above_cost_limit-requires-clause-small
stop_spell_if_above_cost_limit-requires-clause-small c = fewer_small _ _ c.loop-index.invariant.fewer c.requires.small
