use Rattle.point_pool.proofs.Common.{rules, ◌≡◌, Some, None, ◌∙◌, arith, to_z, of_z, FitsSigned, w64, int_min, int_max}
use Rattle.point_pool.proofs.Common.{ints, to_z-of_z, value_of, knots_of, shown}
use Rattle.point_pool.proofs.Lemmas.{length-knots, nearest}
use Rattle.point_pool.proofs.pooled.PooledShape.least_in.Goals as goal

pub returns-in-Some : goal.returns-in-Some
returns-in-Some c =
    let home = c.args.home.now in
    let s = c.args.self.now in
    let q = c.lowest-lowest.result in
    let lo = c.args.lo in
    let hi = c.args.hi in
    let fits-at : FitsSigned w64 q.at = search rules in
    let e-lo : to_z w64 (of_z w64 lo) ≡ lo = to_z-of_z w64 _ c.ranges.lo in
    let e-hi : to_z w64 (of_z w64 hi) ≡ hi = to_z-of_z w64 _ c.ranges.hi in
    let e-at : to_z w64 (of_z w64 q.at) ≡ q.at = to_z-of_z w64 _ fits-at in
    let e-min : to_z w64 (of_z w64 c.min.result) ≡ int_min hi q.at =
    to_z-of_z w64 _ (record { sfits = c.min.type_inv }) ∙ rw (e-hi, e-at) at c.min.ensures.value in
    let at : to_z w64 (of_z w64 c.max-at.result) ≡ int_max lo (int_min hi q.at) =
    to_z-of_z w64 _ (record { sfits = c.max-at.type_inv }) ∙ rw (e-lo, e-min) at c.max-at.ensures.value in
    let len = length-knots home.slots.items s.head s.count in
    let fits-value : FitsSigned w64 c.in-Some.value = search rules in
    let e-value : to_z w64 (of_z w64 c.in-Some.value) ≡ c.in-Some.value = to_z-of_z w64 _ fits-value in
    let test = c.if-hi-lo.false in
    let there : Some c.in-Some.value ≡ value_of (shown home s) (int_max lo (int_min hi q.at)) =
    rw at at c.in-Some.ensures in
    rw (at, e-value) (nearest (knots_of home s) s.count len c.requires.breaks q c.lowest-lowest.ensures
    c.turn_is_least.ensures.nearest lo hi (omega (arith, ints)) (Some c.in-Some.value) there)

pub returns-in-None : goal.returns-in-None
returns-in-None c =
    let home = c.args.home.now in
    let s = c.args.self.now in
    let q = c.lowest-lowest.result in
    let lo = c.args.lo in
    let hi = c.args.hi in
    let fits-at : FitsSigned w64 q.at = search rules in
    let e-lo : to_z w64 (of_z w64 lo) ≡ lo = to_z-of_z w64 _ c.ranges.lo in
    let e-hi : to_z w64 (of_z w64 hi) ≡ hi = to_z-of_z w64 _ c.ranges.hi in
    let e-at : to_z w64 (of_z w64 q.at) ≡ q.at = to_z-of_z w64 _ fits-at in
    let e-min : to_z w64 (of_z w64 c.min.result) ≡ int_min hi q.at =
    to_z-of_z w64 _ (record { sfits = c.min.type_inv }) ∙ rw (e-hi, e-at) at c.min.ensures.value in
    let at : to_z w64 (of_z w64 c.max-at.result) ≡ int_max lo (int_min hi q.at) =
    to_z-of_z w64 _ (record { sfits = c.max-at.type_inv }) ∙ rw (e-lo, e-min) at c.max-at.ensures.value in
    let len = length-knots home.slots.items s.head s.count in
    let there : None ≡ value_of (shown home s) (int_max lo (int_min hi q.at)) = rw at at c.in-None.ensures in
    let test = c.if-hi-lo.false in
    nearest (knots_of home s) s.count len c.requires.breaks q c.lowest-lowest.ensures c.turn_is_least.ensures.nearest lo
    hi (omega (arith, ints)) None there
