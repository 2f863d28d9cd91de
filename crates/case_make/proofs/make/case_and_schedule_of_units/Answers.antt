use Rattle.case_make.proofs.Common.{ap, map, sym, subst, IsMarket, named_bid_of}
use Rattle.case_make.proofs.MadeLaws.{demand_made, requirement_made, market_made, reserve_low}
use Rattle.case_make.proofs.make.case_and_schedule_of_units.Goals as goal

pub requirements-requires : goal.requirements-requires
requirements-requires c = reserve_low _ _ _ c.requires.summed c.requires.small

pub invariant_of-case : goal.invariant_of-case
invariant_of-case c =
    let sums = c.requires.summed in
    record {
      valid = subst IsMarket
          (sym (market_made _ _ _ _ _ _ (demand_made _ _ _ sums)
          (requirement_made _ _ _ _ sums c.in_ok-reserves.ensures) (ap (map named_bid_of) c.in_ok-bids.ensures.empty)))
          c.requires.market;
    }

pub returns-clause-case : goal.returns-clause-case
returns-clause-case c =
    let sums = c.requires.summed in
    market_made _ _ _ _ _ _ (demand_made _ _ _ sums) (requirement_made _ _ _ _ sums c.in_ok-reserves.ensures)
    (ap (map named_bid_of) c.in_ok-bids.ensures.empty)
