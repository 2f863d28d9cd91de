use Rattle.price_settle.proofs.Common.{rules, ◌≡◌, ℤ, pos, ◌*ℤ◌, ◌+◌, ◌*◌, sym, ap, ◌∙◌, subst, w64, FitsSigned, arith}
use Rattle.price_settle.proofs.Common.{w128, ints, to_z-of_z, get_or_from_slice_get, IsFrom, price_limit, market_of}
use Rattle.price_settle.proofs.Common.{schedules_of, int_at, item_of, sum_more, IsWithin, sum_within}
use Rattle.price_settle.proofs.Common.{signed_product_within, fits_within, surplus_at}
use Rattle.price_settle.proofs.settlement.worth_of_surplus.Goals as goal

-- what the reserve of a period is worth is far from the limits of its type
within : (c : goal.After-worth_at_price-sum) → IsWithin 2000000000000000000000 c.worth_at_price-sum.result
within c =
    let k = c.loop-index.index in
    let f1 : FitsSigned w64 c.get-price.result.now = search rules in
    let f2 : FitsSigned w64 c.surplus_reserve_at.result = search rules in
    let paid = simp to_z-of_z at c.worth_at_price-sum.ensures in
    let price = item_of (IsFrom (pos 0) price_limit) c.args.prices.now.reserve.items k c.get-price.result.now
    c.args.prices.now.valid.reserve c.get-price.ensures.item in
    let low = price.at_least in
    subst (IsWithin 2000000000000000000000) (sym paid)
    (signed_product_within 10000000 200000000000000 c.get-price.result.now c.surplus_reserve_at.result
    (record { at_least = omega (arith, ints, low); at_most = price.at_most }) c.surplus_reserve_at.ensures.limit)

pub overflow_add-sum : goal.overflow_add-sum
overflow_add-sum c =
    let f : FitsSigned w128 c.worth_at_price-sum.result = search rules in
    let known = c.loop-index.invariant.limit in
    let horizon = c.args.case.now.valid.horizon.at_most in
    let test = c.loop-index-test.true in
    simp to_z-of_z (fits_within w128 (2000000000000000000000 * c.loop-index.index + 2000000000000000000000) _
    (sum_within (2000000000000000000000 * c.loop-index.index) 2000000000000000000000 _ c.worth_at_price-sum.result known
    (within c)) (omega (arith, horizon, test)))

pub loop-index-preserved : goal.loop-index-preserved
loop-index-preserved c =
    let m = market_of c.args.case.now in
    let ps = schedules_of c.args.plan.now in
    let k = c.loop-index.index in
    let f1 : FitsSigned w64 c.get-price.result.now = search rules in
    let f2 : FitsSigned w64 c.surplus_reserve_at.result = search rules in
    let price = get_or_from_slice_get c.args.prices.now.reserve.items k c.get-price.result.now (pos 0)
    c.get-price.ensures.item in
    let paid = simp to_z-of_z at c.worth_at_price-sum.ensures in
    let value : c.worth_at_price-sum.result ≡ int_at c.args.prices.now.reserve.items k *ℤ surplus_at m ps k =
    paid ∙ ap (λ (z : ℤ). z *ℤ c.surplus_reserve_at.result) (sym price) ∙
    ap (λ (z : ℤ). int_at c.args.prices.now.reserve.items k *ℤ z) c.surplus_reserve_at.ensures.value in
    let known = c.loop-index.invariant in
    let is = known.is in
    let low = known.limit.at_least in
    let high = known.limit.at_most in
    let call = within c in
    let call_low = call.at_least in
    let call_high = call.at_most in
    let horizon = c.args.case.now.valid.horizon.at_most in
    let test = c.loop-index-test.true in
    let more = sum_more k (λ j. int_at c.args.prices.now.reserve.items j *ℤ surplus_at m ps j) in
    record {
      is = omega (arith, ints, is, low, high, value, call_low, call_high, more, horizon, test);
      limit = record {
        at_least = omega (arith, ints, low, high, call_low, call_high, horizon, test);
        at_most =
            omega (arith, ints, low, high, call_low, call_high, horizon, test);
      };
    }
