use Rattle.plan_check.proofs.Common.{◌≡◌, ℕ, ◌+◌, ℤ, neg_ℤ, Some, length, drop, sym, ap, ◌∙◌, arith, ints, length-map}
use Rattle.plan_check.proofs.Common.{slice_get}
use Rattle.plan_check.proofs.Common.{Bid, NamedBidUnit, cost_of, IsBidUnit, market_of, schedules_of, schedule_of}
use Rattle.plan_check.proofs.Common.{named_bid_of, item_of, map_item, drop_item, bid_units}
use Rattle.plan_check.proofs.Lemmas.{HasLengths, sum_over-more, sum_over-whole}
use Rattle.plan_check.proofs.costs.worth_of_bids.Goals as goal
use Rattle.plan_check.proofs.costs.worth_of_bids.Goals.{After-get-in-loop-index}

-- the bid and its schedule at the place of the loop
module _ (c : After-get-in-loop-index) where
  unit_at : slice_get (market_of c.args.case.now).bids c.loop-index.index ≡ Some (named_bid_of c.get.result.now)
  unit_at = map_item named_bid_of c.args.case.now.bids.items c.loop-index.index c.get.result.now c.get.ensures.item

  whole_at : slice_get (schedules_of c.args.plan.now) (c.producer_count-first.result + c.loop-index.index) ≡ Some
      (schedule_of c.get-in-loop-index.result.now)
  whole_at = map_item schedule_of c.args.plan.now.responses.items (c.producer_count-first.result + c.loop-index.index)
      c.get-in-loop-index.result.now c.get-in-loop-index.ensures.item

  lengths : HasLengths c.args.case.now.periods (schedule_of c.get-in-loop-index.result.now)
  lengths = item_of (HasLengths c.args.case.now.periods) (schedules_of c.args.plan.now)
      (c.producer_count-first.result + c.loop-index.index) _ c.requires.lengths whole_at

pub worth_of_bid-sum-requires-clause-horizon : goal.worth_of_bid-sum-requires-clause-horizon
worth_of_bid-sum-requires-clause-horizon c =
    let l = lengths (goal.at.worth_of_bid-sum-requires-clause-horizon c).After-get-in-loop-index in
    omega arith

pub worth_of_bid-sum-requires-clause-blocks : goal.worth_of_bid-sum-requires-clause-blocks
worth_of_bid-sum-requires-clause-blocks c =
    let d = (goal.at.worth_of_bid-sum-requires-clause-blocks c).After-get-in-loop-index in
    let limits = item_of (λ (n : NamedBidUnit). IsBidUnit n.unit × (length n.unit.blocks ≡ c.args.case.now.periods))
    (market_of c.args.case.now).bids c.loop-index.index _ c.args.case.now.valid.bids (unit_at d) in
    limits.1 ∙ sym (lengths d).0

pub loop-index-preserved : goal.loop-index-preserved
loop-index-preserved c =
    let m = market_of c.args.case.now in
    let ps = schedules_of c.args.plan.now in
    let i = c.loop-index.index in
    let d = (goal.at.loop-index-preserved c).After-get-in-loop-index in
    let skip = sym c.producer_count-first.ensures in
    let plan_at = drop_item (length m.thermal + length m.flat) ps i ∙ ap (λ (n : ℕ). slice_get ps (n + i)) skip ∙
    whole_at d in
    let u_at = map_item (λ (n : NamedBidUnit). Bid n.unit) m.bids i (named_bid_of c.get.result.now) (unit_at d) in
    let mapped = length-map c.args.case.now.bids.items named_bid_of in
    let more = sum_over-more cost_of (bid_units m) (drop (length m.thermal + length m.flat) ps) i _ _ u_at plan_at in
    record {
      is = omega (arith, ints, more, mapped);
      limit = record {
        at_least = omega (arith, ints, mapped);
        at_most = omega (arith, ints, mapped);
      };
    }

pub returns-clause-value : goal.returns-clause-value
returns-clause-value c =
    let m = market_of c.args.case.now in
    let named = length-map c.args.case.now.bids.items named_bid_of in
    let mapped = length-map m.bids (λ (n : NamedBidUnit). Bid n.unit) in
    let all : c.loop-index.index ≡ length (bid_units m) = omega (arith, named, mapped) in
    c.loop-index.invariant.is ∙ ap (λ (z : ℤ). neg_ℤ z) (sum_over-whole cost_of (bid_units m)
    (drop (length m.thermal + length m.flat) (schedules_of c.args.plan.now)) c.loop-index.index all)
