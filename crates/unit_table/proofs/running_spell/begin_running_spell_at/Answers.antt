use Rattle.unit_table.proofs.Common.{rules, length, refl, ◌∙◌, scaled_Fits, state_of}
use Rattle.unit_table.proofs.Lemmas.{live_here, live_other, going_on, item_at, kept_written, begun_one}
use Rattle.unit_table.proofs.running_spell.begin_running_spell_at.Goals as goal

pub returns-clause-begun : goal.returns-clause-begun
returns-clause-begun c =
    let begun = c.begin_running_spell.ensures in
    let a = c.begin_running_spell.new.spell in (
      state_of a,
      live_here c.args.spells.now _ c.args.first a c.requires.end refl ∙ going_on a begun.on,
      record { before = begun.before; cost = begun.cost; frontier = begun.frontier },
    )

pub returns-clause-others : goal.returns-clause-others
returns-clause-others c = live_other c.args.spells.now _ c.args.first c.begin_running_spell.new.spell c.requires.end
    refl

pub returns-clause-kept : goal.returns-clause-kept
returns-clause-kept c =
    let begun = c.begin_running_spell.ensures in
    kept_written c.args.spells.now _ c.args.first c.begin_running_spell.new.spell _ c.requires.end refl
    (item_at c.args.spells.now c.args.first c.requires.end _)
    (begun_one _ _ begun.count begun.room begun.trace)

pub offset_bounds-spells-first : goal.offset_bounds-spells-first
offset_bounds-spells-first c = scaled_Fits c.args.first (length c.args.spells.now) _ c.requires.end (search rules)
