use Rattle.plan_check.proofs.Common.{suc, List, [], ◌∷◌, ◌++◌, map, take, sym, ap, ◌∙◌, arith, ints, take_more}
use Rattle.plan_check.proofs.Common.{Response, Schedule, schedule_of, power_in, reserve_in, powers_at, reserves_at}
use Rattle.plan_check.proofs.Lemmas.{total_map-append}
use Rattle.plan_check.proofs.totals.totals_at.Goals as goal

pub loop-response-preserved : goal.loop-response-preserved
loop-response-preserved c =
    let rs = c.args.responses.now in
    let i = c.loop-response.response-index in
    let k = c.args.index in
    let x = c.response-item.result in
    let called = c.totals_with_response-totals.ensures in
    let more = take_more rs i x c.loop-response-test.true ∙
    ap (λ (y : Response). take i rs ++ y ∷ []) (sym c.response-item.is) in
    let powers = ap (λ (l : List Response). powers_at (map schedule_of l) k) more ∙
    total_map-append (λ (s : Schedule). power_in s (suc k)) schedule_of (take i rs) x in
    let reserves = ap (λ (l : List Response). reserves_at (map schedule_of l) k) more ∙
    total_map-append (λ (s : Schedule). reserve_in s (suc k)) schedule_of (take i rs) x in
    let cp_low = called.power_limit.at_least in
    let cq_low = called.reserve_limit.at_least in
    record {
      power = omega (arith, ints, powers);
      reserve = omega (arith, ints, reserves);
      power_limit = record { at_least = cp_low; at_most = omega (arith, ints) };
      reserve_limit = record { at_least = cq_low; at_most = omega (arith, ints) };
    }
