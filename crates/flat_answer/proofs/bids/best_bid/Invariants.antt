use Rattle.flat_answer.proofs.Common.{length, bid_of, prices_of, schedule_of}
use Rattle.flat_answer.proofs.Lemmas.{bid_can, bid_earns, IsAnswered}
use Rattle.flat_answer.proofs.bids.best_bid.Given as goal

abbrev pub invariant-loop-k : goal.invariant-loop-k
invariant-loop-k l = IsAnswered (length l.prices.energy.items) (bid_can (bid_of l.bid))
    (bid_earns (bid_of l.bid) (prices_of l.prices)) l.k (schedule_of l.into.response) l.into.earned
