use Rattle.price_settle.proofs.Common.{◌≡◌, ◌++◌, ◌∷◌, [], ℤ, List, map, sym, ap, ◌∙◌, arith, rules, w64, w128}
use Rattle.price_settle.proofs.Common.{FitsSigned, to_z-of_z, range_with_len, map-range_with_len_more, units, market_of}
use Rattle.price_settle.proofs.Common.{schedules_of, total_power, total_reserve}
use Rattle.price_settle.proofs.totals.write_totals_of_responses.Goals as goal

pub loop-index-preserved : goal.loop-index-preserved
loop-index-preserved c =
    let m = market_of c.args.case.now in
    let rs = schedules_of c.args.responses.now in
    let k = c.loop-index.index in
    let p = total_power (units m) rs in
    let r = total_reserve (units m) rs in
    let f1 : FitsSigned w64 c.net_power.result = search rules in
    let f2 : FitsSigned w128 c.from.result = search rules in
    let f3 : FitsSigned w64 c.required_and_given_reserve.result.given = search rules in
    let f4 : FitsSigned w128 c.from-in-loop-index.result = search rules in
    let power : c.from.result ≡ p k = simp to_z-of_z at c.from.ensures ∙ c.net_power.ensures.value in
    let given : c.from-in-loop-index.result ≡ r k =
    simp to_z-of_z at c.from-in-loop-index.ensures ∙ c.required_and_given_reserve.ensures.given in
    let pushed = simp to_z-of_z at c.push.ensures.items in
    let pushed_reserve = simp to_z-of_z at c.push-in-loop-index.ensures.items in
    let spare = c.push.ensures.spare in
    let reserve_spare = c.push-in-loop-index.ensures.spare in
    let room = c.loop-index.invariant.supply_room in
    let reserve_room = c.loop-index.invariant.reserve_room in
    record {
      supply = pushed ∙ ap (λ (l : List ℤ). l ++ c.from.result ∷ []) c.loop-index.invariant.supply ∙
          ap (λ (x : ℤ). map p (range_with_len 0 k) ++ x ∷ []) power ∙
          sym (map-range_with_len_more p 0 k k (omega arith));
      reserve = pushed_reserve ∙ ap (λ (l : List ℤ). l ++ c.from-in-loop-index.result ∷ [])
          c.loop-index.invariant.reserve ∙ ap (λ (x : ℤ). map r (range_with_len 0 k) ++ x ∷ []) given
          ∙ sym (map-range_with_len_more r 0 k k (omega arith));
      supply_room = omega (arith, spare, room);
      reserve_room = omega (arith, reserve_spare, reserve_room);
    }
