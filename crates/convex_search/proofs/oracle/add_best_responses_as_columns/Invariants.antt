use Rattle.convex_search.proofs.Common.{◌≡◌, ◌+◌, ◌*◌, ◌≤◌, length, market_of, prices_of}
use Rattle.convex_search.proofs.Common.{schedule_of, IsPool, places_in}
use Rattle.unit_program.proofs.Lemmas.{AreTopsTo}
use Rattle.unit_program.specs.Tops.{IsBenchOver}
use Rattle.uc_model.specs.Data.{unit_count}
use Rattle.convex_search.proofs.oracle.add_best_responses_as_columns.Given as goal

abbrev pub invariant-loop-number : goal.invariant-loop-number
invariant-loop-number l = record {
  tops : AreTopsTo (market_of l.case) (prices_of l.prices) l.number l.oracle.earned.items;
  bench : IsBenchOver (market_of l.case) l.oracle.bench;
  answer : length (schedule_of l.oracle.answer.response).on ≡ (market_of l.case).periods;
  room : l.number-end ≤ l.number + l.oracle.earned.spare;
  earned : unit_count (market_of l.case) ≤ length l.oracle.earned.items + l.oracle.earned.spare;
  given : length l.oracle.given.items ≡ 2 * (market_of l.case).periods;
  pool : IsPool (market_of l.case) (places_in l.initial.pool) l.pool;
}
