use Rattle.plan_check.proofs.Common.{◌<◌, ℕ, List, map, length, take, drop, sym, ap, ◌∙◌, subst, arith, ints, take-map}
use Rattle.plan_check.proofs.Common.{All-take, All-drop, All, Response, market_of, schedules_of, schedule_of, drop-map}
use Rattle.plan_check.proofs.Common.{powers_at}
use Rattle.plan_check.proofs.Lemmas.{covers, total_power_is}
use Rattle.plan_check.proofs.totals.net_power.Goals as goal

pub totals_at-given-requires-clause-index : goal.totals_at-given-requires-clause-index
totals_at-given-requires-clause-index c =
    let P = λ (r : Response). c.args.index < length (schedule_of r).on in
    let front = c.split_at.ensures.front ∙
    ap (λ (rs : List Response). take c.producer_count-producers.result rs) c.as_slice.ensures in
    subst (λ (rs : List Response). All (λ (r : Response). c.args.index < length (schedule_of r).on) rs) (sym front)
    (All-take (λ (r : Response). c.args.index < length (schedule_of r).on) c.producer_count-producers.result
    c.args.plan.now.responses.items
    (covers c.args.plan.now.responses.items c.args.case.now.periods c.args.index c.requires.shape.lengths
    c.requires.within))

pub totals_at-bought-requires-clause-index : goal.totals_at-bought-requires-clause-index
totals_at-bought-requires-clause-index c =
    let back = c.split_at.ensures.back ∙
    ap (λ (rs : List Response). drop c.producer_count-producers.result rs) c.as_slice.ensures in
    subst (λ (rs : List Response). All (λ (r : Response). c.args.index < length (schedule_of r).on) rs) (sym back)
    (All-drop (λ (r : Response). c.args.index < length (schedule_of r).on) c.producer_count-producers.result
    c.args.plan.now.responses.items
    (covers c.args.plan.now.responses.items c.args.case.now.periods c.args.index c.requires.shape.lengths
    c.requires.within))

pub returns-clause-value : goal.returns-clause-value
returns-clause-value c =
    let m = market_of c.args.case.now in
    let ps = schedules_of c.args.plan.now in
    let k = c.args.index in
    let n = c.producer_count-producers.result in
    let items = c.args.plan.now.responses.items in
    let whole = total_power_is m ps c.requires.shape.count k in
    let count = sym c.producer_count-producers.ensures in
    let front_n = ap (λ (j : ℕ). powers_at (take j ps) k) count in
    let back_n = ap (λ (j : ℕ). powers_at (drop j ps) k) count in
    let front = c.split_at.ensures.front ∙
    ap (λ (rs : List Response). take c.producer_count-producers.result rs) c.as_slice.ensures in
    let back = c.split_at.ensures.back ∙
    ap (λ (rs : List Response). drop c.producer_count-producers.result rs) c.as_slice.ensures in
    let given = c.totals_at-given.ensures.power ∙ ap (λ (rs : List Response). powers_at (map schedule_of rs) k) front ∙
    ap (λ ss. powers_at ss k) (sym (take-map schedule_of n items)) in
    let bought = c.totals_at-bought.ensures.power ∙ ap (λ (rs : List Response). powers_at (map schedule_of rs) k) back ∙
    ap (λ ss. powers_at ss k) (sym (drop-map schedule_of n items)) in
    omega (arith, ints, whole, front_n, back_n, given, bought)
