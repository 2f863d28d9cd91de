use Rattle.test_parts.proofs.Common.{rules}
use Rattle.test_parts.proofs.price_space_tests.thermal_case.Goals as goal

pub invariant_of-result : goal.invariant_of-result
invariant_of-result c = record {
  valid = record {
    horizon = search rules;
    demand_length = search rules;
    demand = search rules;
    reserves_length = search rules;
    reserves = search rules;
    thermal_count = search rules;
    flat_count = search rules;
    bid_count = search rules;
    some_unit = search rules;
    thermal = c.in_ok-thermal.ensures.units;
    flat = search rules;
    bids = search rules;
  };
}
