use Rattle.price_settle.proofs.Common.{◌≡◌, ◌+◌, ◌≤◌, map, range_with_len, units, market_of, schedules_of, total_power}
use Rattle.price_settle.proofs.Common.{total_reserve}
use Rattle.price_settle.proofs.totals.write_totals_of_responses.Given as goal

abbrev pub invariant-loop-index : goal.invariant-loop-index
invariant-loop-index l = record {
  supply : l.supply.items ≡ map (total_power (units (market_of l.case)) (schedules_of l.responses))
      (range_with_len 0 l.index);
  reserve : l.reserve.items ≡ map (total_reserve (units (market_of l.case)) (schedules_of l.responses))
      (range_with_len 0 l.index);
  supply_room : (market_of l.case).periods ≤ l.index + l.supply.spare;
  reserve_room : (market_of l.case).periods ≤ l.index + l.reserve.spare;
}
