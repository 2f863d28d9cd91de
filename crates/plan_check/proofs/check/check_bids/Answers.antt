use Rattle.plan_check.proofs.Common.{◌≡◌, ℕ, ◌+◌, Some, map, length, drop, sym, ap, ◌∙◌, arith, length-map}
use Rattle.plan_check.proofs.Common.{err_from_is_err_and, slice_get, BidRange, Schedule, NamedBidUnit, IsBidUnit}
use Rattle.plan_check.proofs.Common.{schedules_of, bid_of, schedule_of, named_thermal_of, named_renewable_of}
use Rattle.plan_check.proofs.Common.{named_bid_of, told, bid_broken, item_of, map_item, drop_item}
use Rattle.uc_model.specs.declared.kinds.Kind.TheVariants as kinds
use Rattle.plan_check.proofs.Lemmas.{over_units_first, over_units_none, NoneBefore-more, all_bids_is, HasLengths}
use Rattle.plan_check.proofs.check.check_bids.Goals as goal
use Rattle.plan_check.proofs.check.check_bids.Goals.{After-get-response}

-- the unit and its schedule at the place of the loop
module _ (c : After-get-response) where
  unit_at : slice_get (map named_bid_of c.args.case.now.bids.items) c.loop-index.index ≡ Some
      (named_bid_of c.get-bid.result.now)
  unit_at = map_item named_bid_of c.args.case.now.bids.items c.loop-index.index c.get-bid.result.now
      c.get-bid.ensures.item

  whole_at : slice_get (schedules_of c.args.plan.now) (c.producer_count-first.result + c.loop-index.index) ≡ Some
      (schedule_of c.get-response.result.now)
  whole_at = map_item schedule_of c.args.plan.now.responses.items (c.producer_count-first.result + c.loop-index.index)
      c.get-response.result.now c.get-response.ensures.item

  plan_at : slice_get
      (drop (length (map named_thermal_of c.args.case.now.thermal.items) + length
      (map named_renewable_of c.args.case.now.flat.items)) (schedules_of c.args.plan.now)) c.loop-index.index ≡ Some
      (schedule_of c.get-response.result.now)
  plan_at =
      let first_is : (length (map named_thermal_of c.args.case.now.thermal.items) + length
      (map named_renewable_of c.args.case.now.flat.items)) + c.loop-index.index ≡ c.producer_count-first.result
      + c.loop-index.index = omega (arith, c.producer_count-first.ensures) in
      drop_item
      ((length (map named_thermal_of c.args.case.now.thermal.items) + length
      (map named_renewable_of c.args.case.now.flat.items))) (schedules_of c.args.plan.now) c.loop-index.index ∙
      ap (slice_get (schedules_of c.args.plan.now)) first_is ∙ whole_at

  lengths : HasLengths c.args.case.now.periods (schedule_of c.get-response.result.now)
  lengths = item_of (HasLengths c.args.case.now.periods) (schedules_of c.args.plan.now)
      (c.producer_count-first.result + c.loop-index.index) _ c.requires.lengths whole_at

pub check_bid-requires-clause-horizon : goal.check_bid-requires-clause-horizon
check_bid-requires-clause-horizon c =
    let l = lengths (goal.at.check_bid-requires-clause-horizon c).After-get-response in
    omega arith

pub check_bid-requires-clause-blocks : goal.check_bid-requires-clause-blocks
check_bid-requires-clause-blocks c =
    let d = (goal.at.check_bid-requires-clause-blocks c).After-get-response in
    let limits = item_of (λ (n : NamedBidUnit). IsBidUnit n.unit × (length n.unit.blocks ≡ c.args.case.now.periods))
    (map named_bid_of c.args.case.now.bids.items) c.loop-index.index _ c.args.case.now.valid.bids (unit_at d) in
    limits.1 ∙ sym (lengths d).0

pub returns-in_err-check_bid : goal.returns-in_err-check_bid
returns-in_err-check_bid c =
    let s = schedule_of c.get-response.result.now in
    let d = (goal.at.returns-in_err-check_bid c).After-get-response in
    let p = err_from_is_err_and c.from_residual.result c.from_residual.ensures.1 in
    let number : 1 + c.loop-index.index ≡ c.loop-index.index + 1 = omega arith in
    rw (p.1, p.2)
    (ap (λ xs. slice_get xs 0) (all_bids_is c.args.case.now.periods 1 (map named_bid_of c.args.case.now.bids.items)
    (drop (length (map named_thermal_of c.args.case.now.thermal.items) + length
    (map named_renewable_of c.args.case.now.flat.items)) (schedules_of c.args.plan.now)))
    ∙ over_units_first (λ (n : NamedBidUnit) (s : Schedule) (unit : ℕ). told BidRange kinds.Bid unit
    c.args.case.now.periods 1 (bid_broken n.unit s)) 1 c.loop-index.index
    (map named_bid_of c.args.case.now.bids.items)
    (drop (length (map named_thermal_of c.args.case.now.thermal.items) + length
    (map named_renewable_of c.args.case.now.flat.items)) (schedules_of c.args.plan.now)) _ s _ (unit_at d)
    (plan_at d) c.loop-index.invariant
    (ap (λ (x : ℕ). slice_get (told BidRange kinds.Bid (1 + c.loop-index.index) x 1
    (bid_broken (bid_of c.get-bid.result.now.bid) s)) 0) (sym (lengths d).0) ∙
    ap (λ (x : ℕ). slice_get (told BidRange kinds.Bid x (length s.on) 1
    (bid_broken (bid_of c.get-bid.result.now.bid) s)) 0) number ∙ c.in_err-check_bid.ensures))

pub loop-index-preserved : goal.loop-index-preserved
loop-index-preserved c =
    let s = schedule_of c.get-response.result.now in
    let d = (goal.at.loop-index-preserved c).After-get-response in
    let number : 1 + c.loop-index.index ≡ c.loop-index.index + 1 = omega arith in
    NoneBefore-more (λ (n : NamedBidUnit) (s : Schedule) (unit : ℕ). told BidRange kinds.Bid unit
    c.args.case.now.periods 1 (bid_broken n.unit s)) 1 c.loop-index.index
    (map named_bid_of c.args.case.now.bids.items)
    (drop (length (map named_thermal_of c.args.case.now.thermal.items) + length
    (map named_renewable_of c.args.case.now.flat.items)) (schedules_of c.args.plan.now)) _ s (unit_at d) (plan_at d)
    c.loop-index.invariant
    (ap (λ (x : ℕ). told BidRange kinds.Bid (1 + c.loop-index.index) x 1
    (bid_broken (bid_of c.get-bid.result.now.bid) s)) (sym (lengths d).0) ∙
    ap (λ (x : ℕ). told BidRange kinds.Bid x (length s.on) 1 (bid_broken (bid_of c.get-bid.result.now.bid) s))
    number ∙ c.in_ok-check_bid.ensures)

pub returns : goal.returns
returns c =
    let count = length-map c.args.case.now.bids.items named_bid_of in
    all_bids_is c.args.case.now.periods 1 (map named_bid_of c.args.case.now.bids.items)
    (drop (length (map named_thermal_of c.args.case.now.thermal.items) + length
    (map named_renewable_of c.args.case.now.flat.items)) (schedules_of c.args.plan.now))
    ∙ over_units_none (λ (n : NamedBidUnit) (s : Schedule) (unit : ℕ). told BidRange kinds.Bid unit
    c.args.case.now.periods 1 (bid_broken n.unit s)) 1 (map named_bid_of c.args.case.now.bids.items)
    (drop (length (map named_thermal_of c.args.case.now.thermal.items) + length
    (map named_renewable_of c.args.case.now.flat.items)) (schedules_of c.args.plan.now))
    (λ j n s lt e f. c.loop-index.invariant j n s (omega (arith, lt, count)) e f)
