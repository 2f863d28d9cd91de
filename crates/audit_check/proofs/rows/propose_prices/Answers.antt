use Rattle.audit_check.proofs.Common.{map, arith, to_z-of_z, length-map, w128, market_of, proposal_of, prices_of}
use Rattle.audit_check.proofs.Lemmas.{moved_over}
use Rattle.audit_check.proofs.rows.propose_prices.Goals as goal

pub returns-clause-horizon : goal.returns-clause-horizon
returns-clause-horizon c =
    let some = c.requires.some in
    let made = rw (to_z-of_z w128 c.args.cost c.ranges.cost) at c.next_prices-moved.ensures.made in
    moved_over c.next_prices-moved.result (market_of c.args.case.now) c.args.cost (map proposal_of c.args.rows.now)
    (prices_of c.next_prices-moved.new.into) (prices_of c.args.into.now)
    made c.next_prices-moved.ensures.unchanged (omega (arith, some, length-map c.args.rows.now proposal_of))
    c.requires.horizon
