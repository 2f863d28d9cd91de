use Rattle.unit_table.proofs.Common.{rules, length, refl, ◌∙◌, live_at, scaled_Fits}
use Rattle.unit_table.proofs.Lemmas.{live_here, live_other, going_off, item_at, fewer_but, kept_written, stopped_one}
use Rattle.unit_table.proofs.running_spell.stop_running_spell_at.Goals as goal

pub returns-clause-off : goal.returns-clause-off
returns-clause-off c =
    live_here c.args.spells.now _ c.args.index c.stop_running_spell.new.spell c.requires refl ∙
    going_off c.stop_running_spell.new.spell c.stop_running_spell.ensures.off

pub returns-clause-others : goal.returns-clause-others
returns-clause-others c = live_other c.args.spells.now _ c.args.index c.stop_running_spell.new.spell c.requires refl

pub returns-clause-fewer : goal.returns-clause-fewer
returns-clause-fewer c =
    fewer_but (live_at c.args.spells.now) _ c.args.index
    (live_here c.args.spells.now _ c.args.index c.stop_running_spell.new.spell c.requires refl ∙
    going_off c.stop_running_spell.new.spell c.stop_running_spell.ensures.off)
    (live_other c.args.spells.now _ c.args.index c.stop_running_spell.new.spell c.requires refl)

pub returns-clause-kept : goal.returns-clause-kept
returns-clause-kept c =
    kept_written c.args.spells.now _ c.args.index c.stop_running_spell.new.spell _ c.requires refl
    (item_at c.args.spells.now c.args.index c.requires _)
    (stopped_one _ _ c.stop_running_spell.ensures.off c.stop_running_spell.ensures.running
    c.stop_running_spell.ensures.trace)

pub offset_bounds-spells-index : goal.offset_bounds-spells-index
offset_bounds-spells-index c = scaled_Fits c.args.index (length c.args.spells.now) _ c.requires (search rules)
