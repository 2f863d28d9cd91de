use Rattle.price_settle.proofs.Common.{◌≡◌, ◌+◌, ◌*◌, ℤ, pos, neg_ℤ, ◌-ℤ◌, length, take, unit_count, IsFrom, market_of}
use Rattle.price_settle.proofs.Common.{schedules_of, prices_of, total, zip_with, earned_in}
use Rattle.price_settle.proofs.settlement.settle.Given as goal

abbrev pub invariant-loop-number : goal.invariant-loop-number
invariant-loop-number l = record {
  scheduled : l.into.scheduled.items ≡ take l.number
      (earned_in (market_of l.case) (schedules_of l.plan) (prices_of l.prices));
  count : length l.into.scheduled.items ≡ l.number;
  payments : l.into.payments.items ≡ zip_with (λ (e s : ℤ). e -ℤ s) l.earned l.into.scheduled.items;
  total : l.into.total ≡ total l.into.payments.items;
  limit : IsFrom (neg_ℤ (pos (7000000000000000000 * l.number))) (pos (7000000000000000000 * l.number)) l.into.total;
  scheduled_room : l.number + l.into.scheduled.spare ≡ unit_count (market_of l.case) + l.fn.into.scheduled.spare;
  payments_room : l.number + l.into.payments.spare ≡ unit_count (market_of l.case) + l.fn.into.payments.spare;
}
