use Rattle.convex_search.proofs.Common.{◌≡◌, length, All, IsFrom}
use Rattle.uc_model.specs.Limits.{price_limit}
use Rattle.convex_search.proofs.points.round_prices_of_list.Given as goal

abbrev pub invariant-loop-k : goal.invariant-loop-k
invariant-loop-k l = record {
  limits : All (IsFrom l.low price_limit) l.into.items;
  count : length l.into.items ≡ length l.initial.into.items;
}
