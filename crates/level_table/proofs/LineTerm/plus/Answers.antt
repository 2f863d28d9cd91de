use Rattle.level_table.proofs.Common.{rules, ◌≡◌, ◌∙◌, Some, refl, arith, to_z, of_z, ◌*ℤ◌, FitsSigned, w64, ints}
use Rattle.level_table.proofs.Common.{to_z-of_z, same_some}
use Rattle.level_table.proofs.LineTerm.plus.Goals as goal

pub along-requires-clause-after : goal.along-requires-clause-after
along-requires-clause-after c =
    let fit = c.requires.fits in
    let is : c.args.self.now.slope *ℤ c.args.x ≡ fit.0 =
    same_some (Some (c.args.self.now.slope *ℤ c.args.x)) refl fit.1 in
    let low = fit.2.0 in
    let high = fit.2.1 in
    let slope_fits : FitsSigned w64 c.args.self.now.slope = search rules in
    let slope : to_z w64 (of_z w64 c.args.self.now.slope) ≡ c.args.self.now.slope = to_z-of_z w64 _ slope_fits in
    let x : to_z w64 (of_z w64 c.args.x) ≡ c.args.x = to_z-of_z w64 _ c.ranges.x in
    rw (slope, x) (omega (arith, ints), omega (arith, ints))

pub returns : goal.returns
returns c =
    let slope_fits : FitsSigned w64 c.args.self.now.slope = search rules in
    let slope : to_z w64 (of_z w64 c.args.self.now.slope) ≡ c.args.self.now.slope = to_z-of_z w64 _ slope_fits in
    let x : to_z w64 (of_z w64 c.args.x) ≡ c.args.x = to_z-of_z w64 _ c.ranges.x in
    let value : to_z w64 (of_z w64 c.args.value) ≡ c.args.value = to_z-of_z w64 _ c.ranges.value in
    let result : to_z w64 (of_z w64 c.along.result) ≡ c.along.result =
    to_z-of_z w64 _ (record { sfits = c.along.type_inv }) in
    (c.args.self.now.slope *ℤ c.args.x, refl, result ∙ rw (value, slope, x) at c.along.ensures)
