use Rattle.slope_list.proofs.Common.{◌≤◌, length, arith, length-take, Made}
use Rattle.slope_list.proofs.ShownLaws.{at_some}
use Rattle.slope_list.proofs.slopes.least_value_after_step.Goals as goal

pub slice_bounds-spot_of_least_value-end : goal.slice_bounds-spot_of_least_value-end
slice_bounds-spot_of_least_value-end c =
    let made = c.in-Some.made in
    let low = at_some (λ (d : Made). d.used ≤ length c.args.pieces.now) c.args.stepped.made made c.in-Some.is
    c.requires.room in
    let e = length-take made.used c.args.pieces.now in
    omega (arith, e, low)
