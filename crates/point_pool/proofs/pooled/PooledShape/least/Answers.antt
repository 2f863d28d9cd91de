use Rattle.point_pool.proofs.Common.{rules, ◌≡◌, to_z, of_z, FitsSigned, w64, to_z-of_z, knots_of}
use Rattle.point_pool.proofs.Lemmas.{length-knots, IsLeast-turn}
use Rattle.point_pool.proofs.pooled.PooledShape.least.Goals as goal

pub returns : goal.returns
returns c =
    let home = c.args.home.now in
    let s = c.args.self.now in
    let q = c.lowest-lowest.result in
    let fits-value : FitsSigned w64 q.value = search rules in
    let fits-at : FitsSigned w64 q.at = search rules in
    let e-value : to_z w64 (of_z w64 q.value) ≡ q.value = to_z-of_z w64 _ fits-value in
    let e-at : to_z w64 (of_z w64 q.at) ≡ q.at = to_z-of_z w64 _ fits-at in
    rw (e-value, e-at) (IsLeast-turn (knots_of home s) s.count (length-knots home.slots.items s.head s.count)
    c.requires.breaks q c.lowest-lowest.ensures c.turn_is_least.ensures.least)
