use Rattle.plan_check.proofs.Common.{rules, ◌<◌, Some, length, sym, ap, ◌∙◌, arith, bid_of, schedule_of, bid_broken}
use Rattle.plan_check.proofs.Common.{BidRange}
use Rattle.uc_model.specs.declared.kinds.Kind.TheVariants as kinds
use Rattle.plan_check.proofs.Lemmas.{told_none, told_first}
use Rattle.plan_check.proofs.check.check_bid.Goals as goal

pub returns-in-Some : goal.returns-in-Some
returns-in-Some c =
    let r = bid_of c.args.bid.now in
    let s = schedule_of c.args.response.now in
    let lt : c.loop-index.index < length c.args.response.now.on.items = search rules in
    told_first BidRange kinds.Bid c.args.number (length c.args.response.now.on.items) 1 (bid_broken r s)
    c.loop-index.index (c.in-Some.sides.left, c.in-Some.sides.right) lt c.loop-index.invariant (sym c.in-Some.ensures) ∙
    ap Some (sym c.fault_of_rule.ensures)

pub returns : goal.returns
returns c =
    told_none BidRange kinds.Bid c.args.number (length c.args.response.now.on.items) 1
    (bid_broken (bid_of c.args.bid.now) (schedule_of c.args.response.now))
    (λ k lt. c.loop-index.invariant k (omega (arith, lt)))
