use Rattle.plan_settle.proofs.Common.{◌≡◌, ◌+◌, ◌≤◌, length, map, All, unit_count, market_of, prices_of, schedule_of}
use Rattle.plan_settle.proofs.Common.{Answered, IsBenchOver, AreAnswersTo}
use Rattle.plan_settle.proofs.answers.answer_each_unit_at_prices.Given as goal

abbrev pub invariant-loop-number : goal.invariant-loop-number
invariant-loop-number l = record {
  answers : AreAnswersTo (market_of l.case) (prices_of l.prices) l.number (map schedule_of l.responses.items)
      l.earned.items;
  bench : IsBenchOver (market_of l.case) l.bench;
  left : length l.answers.items + l.number ≡ unit_count (market_of l.case);
  periods : All (λ (a : Answered). length (schedule_of a.response).on ≡ (market_of l.case).periods) l.answers.items;
  response_room : unit_count (market_of l.case) ≤ l.number + l.responses.spare;
  earned_room : unit_count (market_of l.case) ≤ l.number + l.earned.spare;
}
