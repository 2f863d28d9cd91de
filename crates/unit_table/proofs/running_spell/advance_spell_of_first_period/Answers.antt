use Rattle.unit_table.proofs.Common.{scaled_Fits, rules, arith, length, asked}
use Rattle.unit_table.proofs.Lemmas.{item_at, live_from, on_same, off_from, run_written, run_skipped}
use Rattle.unit_table.proofs.running_spell.advance_spell_of_first_period.Goals as goal

pub advance_spell_and_write_table_row-requires-clause-on : goal.advance_spell_and_write_table_row-requires-clause-on
advance_spell_and_write_table_row-requires-clause-on c =
    on_same _ c.running_spell_of_first_period.result.now _ c.running_spell_of_first_period.ensures
    (item_at c.args.spells.now c.args.first c.requires.spells c.index-spells-first.result)
    c.if-running_spell_of_first_period.true

pub advance_spell_and_write_table_row-requires-clause-ready :
    goal.advance_spell_and_write_table_row-requires-clause-ready
advance_spell_and_write_table_row-requires-clause-ready c =
    let at = item_at c.args.spells.now c.args.first c.requires.spells c.index-spells-first.result in
    c.requires.ready _ (live_from c.args.spells.now c.args.first _ at
    (on_same _ c.running_spell_of_first_period.result.now _
    c.running_spell_of_first_period.ensures at c.if-running_spell_of_first_period.true))

pub advance_spell_and_write_table_row-requires-clause-room : goal.advance_spell_and_write_table_row-requires-clause-room
advance_spell_and_write_table_row-requires-clause-room c =
    c.requires.room _ (item_at c.args.spells.now c.args.first c.requires.spells c.index-spells-first.result)

pub advance_spell_and_write_table_row-requires-clause-alike :
    goal.advance_spell_and_write_table_row-requires-clause-alike
advance_spell_and_write_table_row-requires-clause-alike c =
    c.requires.alike _ (item_at c.args.spells.now c.args.first c.requires.spells c.index-spells-first.result)

pub advance_spell_and_write_table_row-requires-clause-trace :
    goal.advance_spell_and_write_table_row-requires-clause-trace
advance_spell_and_write_table_row-requires-clause-trace c =
    c.requires.log.traces c.args.first _
    (item_at c.args.spells.now c.args.first c.requires.spells c.index-spells-first.result)

pub advance_spell_and_write_table_row-requires-clause-entry :
    goal.advance_spell_and_write_table_row-requires-clause-entry
advance_spell_and_write_table_row-requires-clause-entry c = c.requires.log.spare

pub advance_spell_and_write_table_row-requires-clause-small_log :
    goal.advance_spell_and_write_table_row-requires-clause-small_log
advance_spell_and_write_table_row-requires-clause-small_log c = (let small = c.requires.log.small in omega arith)

pub returns-then-running_spell_of_first_period-clause-run : goal.returns-then-running_spell_of_first_period-clause-run
returns-then-running_spell_of_first_period-clause-run c =
    let at = item_at c.args.spells.now c.args.first c.requires.spells c.index-spells-first.result in
    let on = on_same _ c.running_spell_of_first_period.result.now _
    c.running_spell_of_first_period.ensures at c.if-running_spell_of_first_period.true in
    let taken = c.advance_spell_and_write_table_row.ensures in
    run_written (asked c.args.period.now) c.args.table.now.items c.advance_spell_and_write_table_row.new.table.items
    c.args.spells.now
    c.args.first c.args.log.now
    _ c.advance_spell_and_write_table_row.new.spell at on c.advance_spell_and_write_table_row.new.log taken.more
    taken.goes taken.ends taken.noted
    c.requires.log.traces taken.entry ((c.requires.room _ at).count on) taken.room taken.same

pub returns-else-running_spell_of_first_period-clause-run : goal.returns-else-running_spell_of_first_period-clause-run
returns-else-running_spell_of_first_period-clause-run c =
    run_skipped (asked c.args.period.now) c.args.table.now.items c.args.table.now.items c.args.spells.now
    c.args.first c.args.log.now
    (off_from c.args.spells.now c.args.first _ c.running_spell_of_first_period.ensures
    c.if-running_spell_of_first_period.false)
    c.requires.within c.requires.room c.requires.log.traces

pub offset_bounds-spells-first : goal.offset_bounds-spells-first
offset_bounds-spells-first c = scaled_Fits c.args.first (length c.args.spells.now) _ c.requires.spells (search rules)
