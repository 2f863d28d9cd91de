use Rattle.test_tiny.proofs.Common.{rules, arith, ◌≡◌, ◌+◌, ℕ, ℤ, ◌+ℤ◌, length, ap, ◌∙◌, add-one, ints, to_z-of_z, w128}
use Rattle.test_tiny.proofs.Common.{cast_signed, FitsSigned, thermal_of, schedule_of, prices_of, sum_below, net_in}
use Rattle.test_tiny.proofs.EarningsLaws.{earnings-net}
use Rattle.test_tiny.proofs.earnings.earnings_of.Goals as goal

pub loop-index-preserved : goal.loop-index-preserved
loop-index-preserved c =
    let a : FitsSigned w128 c.plus-earned.result = search rules in
    let b : FitsSigned w128 c.net.result = search rules in
    let f : ℕ → ℤ = net_in (thermal_of c.args.unit.now) (prices_of c.args.prices.now)
    (schedule_of c.args.response.now) in
    let more : sum_below (c.loop-index.index + 1) f ≡ sum_below c.loop-index.index f +ℤ f c.loop-index.index =
    ap (λ (n : ℕ). sum_below n f) (add-one c.loop-index.index) in
    let so : cast_signed w128 c.loop-index.earned-bits ≡ sum_below c.loop-index.index f =
    c.loop-index.invariant.so_far in
    let value : c.net.result ≡ f c.loop-index.index = c.net.ensures.value in
    let sum = c.plus-earned.ensures in
    let low = c.loop-index.invariant.bound.at_least in
    let high = c.loop-index.invariant.bound.at_most in
    let low' = c.net.ensures.bound.at_least in
    let high' = c.net.ensures.bound.at_most in
    record {
      so_far = to_z-of_z w128 c.plus-earned.result a ∙ omega (arith, ints, sum, more, so, value);
      bound = record {
        at_least = omega (arith, ints, sum, low, low');
        at_most =
            omega (arith, ints, sum, high, high');
      };
    }

pub returns : goal.returns
returns c =
    let all : c.loop-index.index ≡ length c.args.response.now.on.items =
    omega (arith, c.loop-index-test.false, c.loop-index.auto.index-end, c.requires) in
    c.loop-index.invariant.so_far
    ∙ earnings-net (thermal_of c.args.unit.now) (prices_of c.args.prices.now) (schedule_of c.args.response.now)
    c.loop-index.index all
