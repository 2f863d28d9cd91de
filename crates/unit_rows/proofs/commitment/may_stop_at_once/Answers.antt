use Rattle.unit_rows.proofs.Common.{rules, ◌≡◌, true, false, ℤ, ◌+ℤ◌, ◌<ℤ◌, ◌≤ℤ◌, arith, ints, to_z-of_z, FitsSigned}
use Rattle.unit_rows.proofs.Common.{int_lt, int_le, IsTrue, w64}
use Rattle.unit_rows.proofs.commitment.may_stop_at_once.Goals as goal

not_above : (a b : ℤ) → int_lt a b ≡ false → b ≤ℤ a
not_above a b test = grind (arith, ints)

is_above : (a b : ℤ) → int_lt a b ≡ true → a <ℤ b
is_above a b test = grind (arith, ints)

at_most : (a b : ℤ) → IsTrue (int_le a b) → a ≤ℤ b
at_most a b test = grind (arith, ints)

pub returns-then-unit-clause-no : goal.returns-then-unit-clause-no
returns-then-unit-clause-no c = λ is may.
    let u = c.args.unit.now in
    let fits_power : FitsSigned w64 u.power0 = search rules in
    let fits_min : FitsSigned w64 u.min_power = search rules in
    let fits_ramp : FitsSigned w64 u.ramp_down = search rules in
    let fits : FitsSigned w64 (u.min_power +ℤ u.ramp_down) = search rules in
    let above = is_above (u.min_power +ℤ u.ramp_down) u.power0 (simp to_z-of_z at c.if-unit.true) in
    omega (arith, ints)

pub returns-clause-yes : goal.returns-clause-yes
returns-clause-yes c = λ is.
    let u = c.args.unit.now in
    let fits_power : FitsSigned w64 u.power0 = search rules in
    let fits_min : FitsSigned w64 u.min_power = search rules in
    let fits_up : FitsSigned w64 u.ramp_up = search rules in
    let fits_down : FitsSigned w64 u.ramp_down = search rules in
    let fits_stop : FitsSigned w64 u.stop_limit = search rules in
    let fits_max : FitsSigned w64 u.max_power = search rules in
    let fits_fall : FitsSigned w64 (u.min_power +ℤ u.ramp_down) = search rules in
    let fits_rise : FitsSigned w64 (u.power0 +ℤ u.ramp_up) = search rules in
    let fits_cap : FitsSigned w64 c.min.result = search rules in
    let is_cap = simp to_z-of_z at c.min.ensures.value in
    let cap = not_above c.min.result u.power0 (simp to_z-of_z at c.if-unit-min.false) in
    let fall = not_above (u.min_power +ℤ u.ramp_down) u.power0 (simp to_z-of_z at c.if-unit.false) in
    let rise = at_most u.min_power (u.power0 +ℤ u.ramp_up) (simp to_z-of_z at is) in
    record { cap = rw (is_cap) at cap; down = omega (arith, ints); up = omega (arith, ints) }
