use Rattle.point_list.proofs.Common.{◌≡◌, to_z, of_z, w64, to_z-of_z}
use Rattle.point_list.proofs.breaks.BreaksShape.add_reserve.Goals as goal

pub returns-clause-ok : goal.returns-clause-ok
returns-clause-ok c =
    let e-mu : to_z w64 (of_z w64 c.args.mu) ≡ c.args.mu = to_z-of_z w64 _ c.ranges.mu in
    let e-cap : to_z w64 (of_z w64 c.args.cap) ≡ c.args.cap = to_z-of_z w64 _ c.ranges.cap in
    let e-up : to_z w64 (of_z w64 c.args.up) ≡ c.args.up = to_z-of_z w64 _ c.ranges.up in
    rw (e-mu, e-cap, e-up) at c.add_reserve.ensures.ok
