use Rattle.unit_table.proofs.Common.{rules, Some, length, sym, ap, ◌∙◌, scaled_Fits}
use Rattle.unit_table.proofs.Lemmas.{item_at}
use Rattle.unit_table.proofs.running_spell.running_spell_of_first_period.Goals as goal

pub returns : goal.returns
returns c =
    item_at c.args.spells.now c.args.first c.requires c.index-spells-first.result ∙
    ap Some (sym c.index-spells-first.is)

pub offset_bounds-spells-first : goal.offset_bounds-spells-first
offset_bounds-spells-first c = scaled_Fits c.args.first (length c.args.spells.now) _ c.requires (search rules)
