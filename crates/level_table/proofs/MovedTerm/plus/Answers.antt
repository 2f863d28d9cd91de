use Rattle.level_table.proofs.Common.{◌≡◌, Some, refl, arith, to_z, of_z, ◌+ℤ◌, w64, ints, curve_value, same_some}
use Rattle.level_table.proofs.MovedTerm.plus.Goals as goal
use Rattle.level_table.proofs.MovedTerm.plus.Goals.{After-curve_at}

pub overflow_add-x : goal.overflow_add-x
overflow_add-x c =
    let fit = c.requires.fits in
    let power = c.curve_powers_are_within_limits.ensures c.args.self.now.curve.now c.requires.limited
    (c.args.x +ℤ c.args.self.now.shift) fit.0 fit.1 in
    let low = power.0 in
    let high = power.1 in
    omega (arith, ints)

pub curve_at-requires-clause-curve : goal.curve_at-requires-clause-curve
curve_at-requires-clause-curve c =
    let known = c.requires.limited in
    let first = known.first_place.0 in
    let first_most = known.first_place.1 in
    let last = known.last_place.0 in
    let last_most = known.last_place.1 in
    record {
      widths = known.blocks.widths;
      first_power = record { at_least = omega (arith, ints, first); at_most = first_most };
      last_power = record { at_least = omega (arith, ints, last); at_most = last_most };
      values = λ x v e. let a = (known.values x v e).0 in
          record { at_least = omega (arith, ints, a); at_most = (known.values x v e).1 };
    }

pub curve_at-requires-clause-inside : goal.curve_at-requires-clause-inside
curve_at-requires-clause-inside c =
    let fit = c.requires.fits in
    let power = c.curve_powers_are_within_limits.ensures c.args.self.now.curve.now c.requires.limited
    (c.args.x +ℤ c.args.self.now.shift) fit.0 fit.1 in
    let low = power.0 in
    let high = power.1 in
    let sum : to_z w64 (of_z w64 (to_z w64 (of_z w64 c.args.x) +ℤ to_z w64 (of_z w64 c.args.self.now.shift))) ≡ c.args.x
    +ℤ c.args.self.now.shift = omega (arith, ints) in
    rw (sum, fit.1) refl

rise_is : (c : After-curve_at) →
    curve_value c.args.self.now.curve.now (c.args.x +ℤ c.args.self.now.shift) ≡ Some c.curve_at.result
rise_is c =
    let fit = c.requires.fits in
    let power = c.curve_powers_are_within_limits.ensures c.args.self.now.curve.now c.requires.limited
    (c.args.x +ℤ c.args.self.now.shift) fit.0 fit.1 in
    let low = power.0 in
    let high = power.1 in
    let sum : to_z w64 (of_z w64 (to_z w64 (of_z w64 c.args.x) +ℤ to_z w64 (of_z w64 c.args.self.now.shift))) ≡ c.args.x
    +ℤ c.args.self.now.shift = omega (arith, ints) in
    rw sum at c.curve_at.ensures

pub overflow_add-result : goal.overflow_add-result
overflow_add-result c =
    let fit = c.requires.fits in
    let is : fit.0 ≡ c.curve_at.result =
    same_some (curve_value c.args.self.now.curve.now (c.args.x +ℤ c.args.self.now.shift)) fit.1
    (rise_is (goal.at.overflow_add-result c).After-curve_at) in
    let low = fit.2.0 in
    let high = fit.2.1 in
    omega (arith, ints)

pub returns : goal.returns
returns c =
    let fit = c.requires.fits in
    let rise = rise_is (goal.at.returns c).After-curve_at in
    let is : fit.0 ≡ c.curve_at.result =
    same_some (curve_value c.args.self.now.curve.now (c.args.x +ℤ c.args.self.now.shift)) fit.1 rise in
    let low = fit.2.0 in
    let high = fit.2.1 in
    (c.curve_at.result, rise, omega (arith, ints))
