use Rattle.std.proofs.Common.{rules}
use Rattle.cost_curve.proofs.SlopeLaws.{next_fits, even_slope, even_price, up_slope, up_price, up_width}
use Rattle.cost_curve.proofs.Common.{arith, ints}
use Rattle.cost_curve.proofs.walk.slope_between_points.Goals as goal

pub overflow_add-result : goal.overflow_add-result
overflow_add-result c = next_fits c.args.from.now c.args.to.now c.requires.from_limits c.requires.to_limits
    c.requires.rising _ _ c.div_euclid-price.ensures c.rem_euclid-rest.ensures.value

pub invariant_of-result : goal.invariant_of-result
invariant_of-result c = record {
  price_limit = even_price c.args.from.now c.args.to.now c.requires.from_limits c.requires.to_limits c.requires.rising _
      _ c.div_euclid-price.ensures c.rem_euclid-rest.ensures.value;
  width_limit = record { at_least = omega (arith, ints); at_most = omega (arith, ints) };
}

pub returns-then-rest-eq0 : goal.returns-then-rest-eq0
returns-then-rest-eq0 c = even_slope c.args.from.now c.args.to.now c.requires.from_limits c.requires.to_limits
    c.requires.rising _ _ c.div_euclid-price.ensures c.rem_euclid-rest.ensures.value c.if-rest-eq0.true

pub invariant_of-result-2 : goal.invariant_of-result-2
invariant_of-result-2 c = record {
  price_limit = up_price c.args.from.now c.args.to.now c.requires.from_limits c.requires.to_limits c.requires.rising _ _
      c.div_euclid-price.ensures c.rem_euclid-rest.ensures.value c.if-rest-eq0.false;
  width_limit = up_width c.args.from.now c.args.to.now c.requires.from_limits c.requires.to_limits c.requires.rising _ _
      c.div_euclid-price.ensures c.rem_euclid-rest.ensures.value c.if-rest-eq0.false;
}

pub returns : goal.returns
returns c = up_slope c.args.from.now c.args.to.now c.requires.from_limits c.requires.to_limits c.requires.rising _ _
    c.div_euclid-price.ensures c.rem_euclid-rest.ensures.value c.if-rest-eq0.false

-- (found at once by this search alone, and slowly by all that is tried without an answer)
pub overflow_sub-run : goal.overflow_sub-run
overflow_sub-run c = search rules

pub overflow_sub-rise : goal.overflow_sub-rise
overflow_sub-rise c = search rules

pub div_euclid-price-requires-clause-nonzero : goal.div_euclid-price-requires-clause-nonzero
div_euclid-price-requires-clause-nonzero c = search rules

pub div_euclid-price-requires-clause-no_overflow : goal.div_euclid-price-requires-clause-no_overflow
div_euclid-price-requires-clause-no_overflow c = search rules

pub rem_euclid-rest-requires-clause-nonzero : goal.rem_euclid-rest-requires-clause-nonzero
rem_euclid-rest-requires-clause-nonzero c = search rules

pub rem_euclid-rest-requires-clause-no_overflow : goal.rem_euclid-rest-requires-clause-no_overflow
rem_euclid-rest-requires-clause-no_overflow c = search rules

pub overflow_sub-result : goal.overflow_sub-result
overflow_sub-result c = search rules
