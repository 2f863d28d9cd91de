use Rattle.test_whole.proofs.Common.{◌≡◌, refl, to_z, of_z, w64, to_z-of_z}
use Rattle.test_whole.proofs.SmallLaws.{CanAdd-reserve}
use Rattle.test_whole.proofs.steps.add_reserve.Goals as goal

pub add_reserve-requires-clause-fits : goal.add_reserve-requires-clause-fits
add_reserve-requires-clause-fits g c =
    let e-mu : to_z w64 (of_z w64 c.args.mu) ≡ c.args.mu = to_z-of_z w64 _ c.ranges.mu in
    let e-cap : to_z w64 (of_z w64 c.args.cap) ≡ c.args.cap = to_z-of_z w64 _ c.ranges.cap in
    let e-up : to_z w64 (of_z w64 c.args.up) ≡ c.args.up = to_z-of_z w64 _ c.ranges.up in
    rw (e-mu, e-cap, e-up) (CanAdd-reserve (g.S.Shape.function c.args.home.now c.args.s.now) c.args.mu c.args.cap
    c.args.up (c.if-not-is_small.ensures refl) c.requires.mu c.requires.cap c.requires.up)
