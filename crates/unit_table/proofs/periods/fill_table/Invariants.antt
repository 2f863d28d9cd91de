use Rattle.unit_table.proofs.Common.{◌≡◌, length, IsSweptTo, AreAsLong, AreOrigins}
use Rattle.unit_table.proofs.Common.{space_of, cost_at, unit_of, asked_at}
use Rattle.unit_table.proofs.periods.fill_table.Given as goal

abbrev pub invariant-loop-index : goal.invariant-loop-index
invariant-loop-index l = record {
  now : IsSweptTo (asked_at l.question l.index) l.table.items l.spells l.roster l.shared.log.items;
  same : AreAsLong l.fn.table.items l.table.items l.fn.spells l.spells l.fn.roster l.roster l.fn.shared.log
      l.shared.log;
  origins : AreOrigins (unit_of l.question) (cost_at l.table.items) l.index l.origins;
  space : space_of l.shared.spare ≡ space_of l.fn.shared.spare;
  list_same : length l.origins.list.items ≡ length l.fn.origins.list.items;
}
