use Rattle.gap_proof.proofs.Common.{rules, pos, ℤ, ◌-ℤ◌, ◌*ℤ◌, ap, sym, ◌∙◌, FitsSigned, arith, ints, to_z-of_z}
use Rattle.gap_proof.proofs.Common.{w64, w128, int_at, get_or_from_slice_get, IsFrom, IsPower}
use Rattle.plain_lists.proofs.ListLaws.{item_of}
use Rattle.gap_proof.proofs.mixture_sums.shortfalls_of_mixture_at.Goals as goal

pub returns-clause-power : goal.returns-clause-power
returns-clause-power c =
    let x = c.args.mixture.now.weight in
    let k = c.args.index in
    let demand = c.args.case.now.demand.items in
    let f : FitsSigned w128 c.weighted_shortfall.result = search rules in
    let fx : FitsSigned w64 x = search rules in
    let fd : FitsSigned w64 c.get.result.now = search rules in
    let fg : FitsSigned w128 c.weighted_output_of_mixture-given.result.power = search rules in
    let is = simp to_z-of_z at c.weighted_shortfall.ensures.value in
    let at = get_or_from_slice_get demand k c.get.result.now (pos 0) c.get.ensures.item in
    simp to_z-of_z
    (is ∙ ap (λ (z : ℤ). (x *ℤ z) -ℤ c.weighted_output_of_mixture-given.result.power) (sym at)
    ∙ ap (λ (z : ℤ). (x *ℤ int_at demand k) -ℤ z) c.weighted_output_of_mixture-given.ensures.power)

pub returns-clause-reserve : goal.returns-clause-reserve
returns-clause-reserve c =
    let x = c.args.mixture.now.weight in
    let k = c.args.index in
    let reserves = c.args.case.now.reserves.items in
    let f : FitsSigned w128 c.weighted_shortfall-2.result = search rules in
    let fx : FitsSigned w64 x = search rules in
    let fd : FitsSigned w64 c.get-2.result.now = search rules in
    let fg : FitsSigned w128 c.weighted_output_of_mixture-given.result.reserve = search rules in
    let is = simp to_z-of_z at c.weighted_shortfall-2.ensures.value in
    let at = get_or_from_slice_get reserves k c.get-2.result.now (pos 0) c.get-2.ensures.item in
    simp to_z-of_z
    (is ∙ ap (λ (z : ℤ). (x *ℤ z) -ℤ c.weighted_output_of_mixture-given.result.reserve) (sym at)
    ∙ ap (λ (z : ℤ). (x *ℤ int_at reserves k) -ℤ z) c.weighted_output_of_mixture-given.ensures.reserve)

-- (found by what is tried without an answer too, but slowly)
pub weighted_shortfall-requires-clause-weight : goal.weighted_shortfall-requires-clause-weight
weighted_shortfall-requires-clause-weight c =
    let fx : FitsSigned w64 c.args.mixture.now.weight = search rules in
    let a = c.requires.shape.whole.at_least in
    let weight : IsFrom (pos 0) (pos 1000000000000) c.args.mixture.now.weight =
    record { at_least = omega (arith, ints, a); at_most = c.requires.shape.whole.at_most } in
    simp to_z-of_z weight

pub weighted_shortfall-requires-2-clause-weight : goal.weighted_shortfall-requires-2-clause-weight
weighted_shortfall-requires-2-clause-weight c =
    let fx : FitsSigned w64 c.args.mixture.now.weight = search rules in
    let a = c.requires.shape.whole.at_least in
    let weight : IsFrom (pos 0) (pos 1000000000000) c.args.mixture.now.weight =
    record { at_least = omega (arith, ints, a); at_most = c.requires.shape.whole.at_most } in
    simp to_z-of_z weight

pub weighted_shortfall-requires-clause-required : goal.weighted_shortfall-requires-clause-required
weighted_shortfall-requires-clause-required c =
    let fd : FitsSigned w64 c.get.result.now = search rules in
    simp to_z-of_z (item_of IsPower c.args.case.now.demand.items c.args.index c.get.result.now
    c.args.case.now.valid.demand c.get.ensures.item)

pub weighted_shortfall-requires-2-clause-required : goal.weighted_shortfall-requires-2-clause-required
weighted_shortfall-requires-2-clause-required c =
    let fd : FitsSigned w64 c.get-2.result.now = search rules in
    simp to_z-of_z (item_of IsPower c.args.case.now.reserves.items c.args.index c.get-2.result.now
    c.args.case.now.valid.reserves c.get-2.ensures.item)
