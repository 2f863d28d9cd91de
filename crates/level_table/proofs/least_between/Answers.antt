use Rattle.level_table.proofs.Common.{rules, ◌≡◌, ◌+◌, ◌<◌, length, arith, to_z, of_z, length-take, length-drop, ℤ, pos}
use Rattle.level_table.proofs.Common.{◌+ℤ◌, FitsSigned, w64, ints, to_z-of_z}
use Rattle.level_table.proofs.Lemmas.{none_between, least_between_is}
use Rattle.level_table.proofs.least_between.Goals as goal

pub returns-then-end-start : goal.returns-then-end-start
returns-then-end-start c =
    let lo : FitsSigned w64 c.args.lo = c.ranges.lo in
    let from : FitsSigned w64 c.args.from = c.ranges.from in
    let to : FitsSigned w64 c.args.to = c.ranges.to in
    let below = simp to_z-of_z at c.count_below-start.ensures.below in
    let above = simp to_z-of_z at c.count_up_to-end.ensures.above in
    none_between c.args.values.now c.args.lo c.args.from c.args.to c.count_below-start.result c.count_up_to-end.result
    below above (omega arith)

pub returns : goal.returns
returns c =
    let lo : FitsSigned w64 c.args.lo = c.ranges.lo in
    let from : FitsSigned w64 c.args.from = c.ranges.from in
    let to : FitsSigned w64 c.args.to = c.ranges.to in
    let below = simp to_z-of_z at c.count_below-start.ensures.below in
    let first = simp to_z-of_z at c.count_below-start.ensures.above in
    let last = simp to_z-of_z at c.count_up_to-end.ensures.up_to in
    let above = simp to_z-of_z at c.count_up_to-end.ensures.above in
    let value_fits : FitsSigned w64 c.in_ok-value.value = search rules in
    let is = c.in_ok-value.ensures in
    let inside = is.inside in
    let within = c.count_up_to-end.ensures.within in
    let at = c.count_below-start.result + c.in_ok-value.at in
    let index : at < length c.args.values.now = omega (arith, length-take {A = ℤ}, length-drop {A = ℤ}) in
    let limit = c.requires.powers at index in
    let low = limit.0 in
    let high = limit.1 in
    let value : to_z w64 (of_z w64 c.in_ok-value.value) ≡ c.in_ok-value.value = to_z-of_z w64 _ value_fits in
    let power : to_z w64 (of_z w64 (to_z w64 (of_z w64 c.args.lo) +ℤ to_z w64 at)) ≡ c.args.lo +ℤ pos at =
    omega (arith, ints) in
    rw (value, power)
    (least_between_is c.args.values.now c.args.lo c.args.from c.args.to c.count_below-start.result
    c.count_up_to-end.result below above
    c.in_ok-value.value c.in_ok-value.at (omega arith) within first last is)
