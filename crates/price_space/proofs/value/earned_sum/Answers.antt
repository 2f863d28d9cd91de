use Rattle.price_space.proofs.Common.{arith, ints, rules, w64, w128, FitsSigned, to_z-of_z}
use Rattle.plain_lists.proofs.ListLaws.{item_of}
use Rattle.uc_model.specs.Limits.{IsEarned}
use Rattle.price_space.proofs.EarnedSums.{total_more}
use Rattle.price_space.proofs.value.earned_sum.Goals as goal

pub sum_with_earnings-sum-requires : goal.sum_with_earnings-sum-requires
sum_with_earnings-sum-requires c =
    let low = c.loop-number.invariant.limit.at_least in
    let high = c.loop-number.invariant.limit.at_most in
    let test = c.loop-number-test.true in
    let few = c.requires.count in
    record { at_least = omega (arith, ints, low, test, few); at_most = omega (arith, ints, high, test, few) }

pub loop-number-preserved : goal.loop-number-preserved
loop-number-preserved c =
    let x = c.earnings_of_unit_number.result in
    let f1 : FitsSigned w64 c.earnings_of_unit_number.result = search rules in
    let f2 : FitsSigned w128 c.sum_with_earnings-sum.result = search rules in
    let is = simp to_z-of_z at c.sum_with_earnings-sum.ensures in
    let same = c.loop-number.sum-is in
    let so_far = c.loop-number.invariant.so_far in
    let low = c.loop-number.invariant.limit.at_least in
    let high = c.loop-number.invariant.limit.at_most in
    let one = item_of IsEarned c.args.earned.now c.loop-number.number x c.requires.bound
    c.earnings_of_unit_number.ensures in
    let least = one.at_least in
    let most = one.at_most in
    let more = total_more c.args.earned.now c.loop-number.number x c.earnings_of_unit_number.ensures in
    rw (to_z-of_z w128 c.sum_with_earnings-sum.result f2) (record {
      so_far = omega (arith, ints, is, same, so_far, more);
      limit = record {
        at_least = omega (arith, ints, is, same, low, least);
        at_most =
            omega (arith, ints, is, same, high, most);
      };
    })
