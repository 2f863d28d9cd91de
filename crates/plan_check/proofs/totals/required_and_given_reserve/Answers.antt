use Rattle.plan_check.proofs.Common.{rules, ◌<◌, pos, List, map, length, sym, ap, ◌∙◌, subst, w64, FitsSigned}
use Rattle.plan_check.proofs.Common.{to_z-of_z, get_or_from_slice_get, All, Response, IsPower, market_of, schedules_of}
use Rattle.plan_check.proofs.Common.{schedule_of, item_of, reserves_at}
use Rattle.plan_check.proofs.Lemmas.{covers, total_reserve_is}
use Rattle.plan_check.proofs.totals.required_and_given_reserve.Goals as goal

pub totals_at-totals-requires-clause-index : goal.totals_at-totals-requires-clause-index
totals_at-totals-requires-clause-index c =
    subst (λ (rs : List Response). All (λ (r : Response). c.args.index < length (schedule_of r).on) rs)
    (sym c.as_slice.ensures)
    (covers c.args.plan.now.responses.items c.args.case.now.periods c.args.index c.requires.shape.lengths
    c.requires.within)

pub returns-clause-required : goal.returns-clause-required
returns-clause-required c =
    let f : FitsSigned w64 c.get.result.now = search rules in
    simp to_z-of_z
    (sym (get_or_from_slice_get c.args.case.now.reserves.items c.args.index c.get.result.now (pos 0)
    c.get.ensures.item))

pub returns-clause-given : goal.returns-clause-given
returns-clause-given c =
    let m = market_of c.args.case.now in
    let ps = schedules_of c.args.plan.now in
    let k = c.args.index in
    let f : FitsSigned w64 c.totals_at-totals.result.reserve = search rules in
    simp to_z-of_z (c.totals_at-totals.ensures.reserve ∙
    ap (λ (rs : List Response). reserves_at (map schedule_of rs) k) c.as_slice.ensures ∙
    sym (total_reserve_is m ps c.requires.shape.count k))

pub returns-clause-required_limit : goal.returns-clause-required_limit
returns-clause-required_limit c =
    let f : FitsSigned w64 c.get.result.now = search rules in
    simp to_z-of_z (item_of IsPower c.args.case.now.reserves.items c.args.index c.get.result.now
    c.args.case.now.valid.reserves c.get.ensures.item)
