use Rattle.unit_program.proofs.Common.{◌≡◌, ◌+◌, ◌≤◌, length, market_of, prices_of, schedule_of, IsBenchOver}
use Rattle.unit_program.proofs.Lemmas.{AreTopsTo}
use Rattle.unit_program.proofs.earn.earn_all.Given as goal

abbrev pub invariant-loop-number : goal.invariant-loop-number
invariant-loop-number l = record {
  tops : AreTopsTo (market_of l.case) (prices_of l.prices) l.number l.into.items;
  bench : IsBenchOver (market_of l.case) l.bench;
  buffer : length (schedule_of l.buffer.response).on ≡ (market_of l.case).periods;
  room : l.number-end ≤ l.number + l.into.spare;
}
