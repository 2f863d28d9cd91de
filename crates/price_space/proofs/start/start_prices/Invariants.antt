use Rattle.price_space.proofs.Common.{◌≡◌, ◌+◌, ◌≤◌, map, range_with_len, market_of, start_price}
use Rattle.price_space.proofs.start.start_prices.Given as goal

abbrev pub invariant-loop-k : goal.invariant-loop-k
invariant-loop-k l = record {
  so_far : l.prices.items ≡ map (start_price (market_of l.case)) (range_with_len 0 l.k);
  room : l.case.periods ≤ l.k + l.prices.spare;
}
