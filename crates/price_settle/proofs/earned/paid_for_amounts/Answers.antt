use Rattle.price_settle.proofs.Common.{rules, ◌≡◌, ℤ, pos, neg_ℤ, ◌*ℤ◌, sym, ap, ◌∙◌, w64, Fits, w32, FitsSigned}
use Rattle.price_settle.proofs.Common.{arith, ints, to_z-of_z, get_or_from_slice_get, slice_index, IsFrom, price_limit}
use Rattle.price_settle.proofs.Common.{int_at, sum_more, item_of, product_within}
use Rattle.price_settle.proofs.earned.paid_for_amounts.Goals as goal

pub loop-index-preserved : goal.loop-index-preserved
loop-index-preserved c =
    let k = c.loop-index.index in
    let f1 : FitsSigned w64 c.get-price.result.now = search rules in
    let f2 : FitsSigned w64 c.from.result = search rules in
    let price = get_or_from_slice_get c.args.prices.now.items k c.get-price.result.now (pos 0)
    c.get-price.ensures.item in
    let amount = get_or_from_slice_get c.args.amounts.now.items k c.get-amount.result.now 0 c.get-amount.ensures.item in
    let wide = c.from.ensures in
    let paid = simp to_z-of_z at c.worth_at_price-sum.ensures in
    let value : c.worth_at_price-sum.result ≡ int_at c.args.prices.now.items k *ℤ pos
    (slice_index c.args.amounts.now.items k) =
    paid ∙ ap (λ (z : ℤ). z *ℤ c.from.result) (sym price) ∙
    ap (λ (z : ℤ). int_at c.args.prices.now.items k *ℤ z) (wide ∙ ap pos (sym amount)) in
    let known = c.loop-index.invariant in
    let is = known.is in
    let low = known.limit.at_least in
    let high = known.limit.at_most in
    let few : Fits w32 c.get-amount.result.now = search rules in
    let call =
    product_within 10000000 4294967296 c.get-price.result.now c.from.result
    (item_of (IsFrom (neg_ℤ price_limit) price_limit) c.args.prices.now.items k c.get-price.result.now c.requires.prices
    c.get-price.ensures.item)
    (record { at_least = omega (arith, ints, wide); at_most = omega (arith, ints, wide, few) }) in
    let call_low = call.at_least in
    let call_high = call.at_most in
    let horizon = c.requires.horizon in
    let test = c.loop-index-test.true in
    let len = c.len-index-end.ensures in
    let more = sum_more k (λ j. int_at c.args.prices.now.items j *ℤ pos (slice_index c.args.amounts.now.items j)) in
    record {
      is = omega (arith, ints, is, low, high, value, paid, call_low, call_high, more, horizon, test, len);
      limit = record {
        at_least = omega (arith, ints, low, high, paid, call_low, call_high, horizon, test, len);
        at_most = omega (arith, ints, low, high, paid, call_low, call_high, horizon, test, len);
      };
    }
