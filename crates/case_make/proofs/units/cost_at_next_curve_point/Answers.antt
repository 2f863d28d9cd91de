use Rattle.case_make.proofs.Common.{◌+◌, ◌*◌, arith, mul-le}
use Rattle.case_make.proofs.Lemmas.{at_rises, at_most, max_range, cost_range}
use Rattle.case_make.proofs.units.cost_at_next_curve_point.Goals as goal

pub overflow_sub-width : goal.overflow_sub-width
overflow_sub-width c = let r = at_rises c.args.draws.now c.args.index (c.args.index + 1) (omega arith) in
    omega (arith, r)

pub overflow_add-result : goal.overflow_add-result
overflow_add-result c =
    let d = c.args.draws.now in
    let index = c.args.index in
    let price = mul-le (100 * d.energy_cost) (11 + index) 6000 13 (omega arith) (omega arith) in
    let top = max_range d c.requires.draws in
    let last = at_most d (index + 1) c.requires.draws (omega arith) in
    let before = cost_range d index c.requires.draws (omega arith) in
    let more = mul-le c.from.result c.from-2.result 78000 400000 (omega (arith, price)) (omega (arith, last, top)) in
    omega (arith, before, more)
