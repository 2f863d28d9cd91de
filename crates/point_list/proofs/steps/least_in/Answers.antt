use Rattle.point_list.proofs.Common.{◌≡◌, rules, to_z, of_z, FitsSigned, w64, to_z-of_z}
use Rattle.point_list.proofs.steps.least_in.Goals as goal

pub returns-in-None : goal.returns-in-None
returns-in-None c =
    let e-lo : to_z w64 (of_z w64 c.args.lo) ≡ c.args.lo = to_z-of_z w64 _ c.ranges.lo in
    let e-hi : to_z w64 (of_z w64 c.args.hi) ≡ c.args.hi = to_z-of_z w64 _ c.ranges.hi in
    rw (e-lo, e-hi) at c.in-None.ensures

pub returns-in-Some : goal.returns-in-Some
returns-in-Some c =
    let e-lo : to_z w64 (of_z w64 c.args.lo) ≡ c.args.lo = to_z-of_z w64 _ c.ranges.lo in
    let e-hi : to_z w64 (of_z w64 c.args.hi) ≡ c.args.hi = to_z-of_z w64 _ c.ranges.hi in
    let fits-value : FitsSigned w64 c.in-Some.lowest.value = search rules in
    let fits-at : FitsSigned w64 c.in-Some.lowest.at = search rules in
    let e-value : to_z w64 (of_z w64 c.in-Some.lowest.value) ≡ c.in-Some.lowest.value = to_z-of_z w64 _ fits-value in
    let e-at : to_z w64 (of_z w64 c.in-Some.lowest.at) ≡ c.in-Some.lowest.at = to_z-of_z w64 _ fits-at in
    rw (e-value, e-at) (rw (e-lo, e-hi) at c.in-Some.ensures)
