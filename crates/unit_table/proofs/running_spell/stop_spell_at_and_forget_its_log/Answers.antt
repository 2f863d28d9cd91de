use Rattle.unit_table.proofs.Common.{◌≡◌, rules, length, refl, ◌∙◌, scaled_Fits}
use Rattle.unit_table.proofs.Lemmas.{live_here, going_off, item_at, written_here, written_other, rooms_written}
use Rattle.unit_table.proofs.running_spell.stop_spell_at_and_forget_its_log.Goals as goal

pub returns-clause-off : goal.returns-clause-off
returns-clause-off c =
    live_here c.args.spells.now _ c.args.index c.stop_spell_and_forget_its_log.new.spell c.requires refl ∙
    going_off c.stop_spell_and_forget_its_log.new.spell c.stop_spell_and_forget_its_log.ensures.off

pub returns-clause-none : goal.returns-clause-none
returns-clause-none c = λ r is.
    let here = written_here c.args.spells.now _ c.args.index c.stop_spell_and_forget_its_log.new.spell c.requires
    refl in
    let same : c.stop_spell_and_forget_its_log.new.spell ≡ r = (cc) in
    rw same at c.stop_spell_and_forget_its_log.ensures.trace

pub returns-clause-others : goal.returns-clause-others
returns-clause-others c = written_other c.args.spells.now _ c.args.index c.stop_spell_and_forget_its_log.new.spell
    c.requires refl

pub returns-clause-rooms : goal.returns-clause-rooms
returns-clause-rooms c =
    rooms_written c.args.spells.now _ c.args.index c.stop_spell_and_forget_its_log.new.spell _ c.requires refl
    (item_at c.args.spells.now c.args.index c.requires _) c.stop_spell_and_forget_its_log.ensures.running

pub offset_bounds-spells-index : goal.offset_bounds-spells-index
offset_bounds-spells-index c = scaled_Fits c.args.index (length c.args.spells.now) _ c.requires (search rules)
