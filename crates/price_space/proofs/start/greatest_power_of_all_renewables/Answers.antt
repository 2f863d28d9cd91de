use Rattle.price_space.proofs.Common.{◌≡◌, ◌<◌, List, length, get_or, ap, subst, arith, ints, NamedFlat}
use Rattle.price_space.proofs.Lemmas.{flat_horizon, most_more}
use Rattle.price_space.proofs.start.greatest_power_of_all_renewables.Goals as goal

pub greatest_power_of_renewable-power-requires : goal.greatest_power_of_renewable-power-requires
greatest_power_of_renewable-power-requires c =
    let same = c.as_slice-named-items.ensures in
    let lengths = ap (length {A = NamedFlat}) same in
    let test = c.loop-named-test.true in
    let within : c.loop-named.named-index < length c.args.case.now.flat.items = omega (arith, test, lengths) in
    let is = subst (λ (xs : List NamedFlat). c.named-item.result ≡ get_or xs c.loop-named.named-index
    c.named-item.result) same c.named-item.is in
    let wide = flat_horizon c.args.case.now.periods c.args.case.now.flat.items c.loop-named.named-index
    c.named-item.result c.args.case.now.valid.flat within is in
    let inside = c.requires in
    omega (arith, wide, inside)

pub loop-named-preserved : goal.loop-named-preserved
loop-named-preserved c =
    let same = c.as_slice-named-items.ensures in
    let lengths = ap (length {A = NamedFlat}) same in
    let test = c.loop-named-test.true in
    let within : c.loop-named.named-index < length c.args.case.now.flat.items = omega (arith, test, lengths) in
    let is = subst (λ (xs : List NamedFlat). c.named-item.result ≡ get_or xs c.loop-named.named-index
    c.named-item.result) same c.named-item.is in
    let more = most_more c.args.k c.args.case.now.flat.items c.loop-named.named-index c.named-item.result within is in
    let so_far = c.loop-named.invariant.so_far in
    let bound = c.loop-named.invariant.bound in
    let power = c.greatest_power_of_renewable-power.ensures.power in
    let few = c.greatest_power_of_renewable-power.ensures.bound in
    record { so_far = omega (arith, ints, more, so_far, power); bound = omega (arith, bound, few) }
