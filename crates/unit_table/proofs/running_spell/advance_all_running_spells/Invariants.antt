use Rattle.unit_table.proofs.Common.{◌≡◌, suc, space_of, asked}
use Rattle.unit_table.proofs.Lemmas.{IsListRun}
use Rattle.unit_table.proofs.running_spell.advance_all_running_spells.Given as goal

abbrev pub invariant-loop-index : goal.invariant-loop-index
invariant-loop-index l = record {
  run : IsListRun (asked l.period) l.fn.table.items l.fn.spells l.fn.log l.roster (suc (suc l.period.index))
      l.index l.table.items l.spells l.log;
  space : space_of l.spare ≡ space_of l.fn.spare;
}
