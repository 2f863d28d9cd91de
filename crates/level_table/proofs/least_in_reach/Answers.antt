use Rattle.level_table.proofs.Common.{rules, ◌≡◌, Some, None, arith, to_z, of_z, ◌+ℤ◌, ◌-ℤ◌, FitsSigned, w64, ints}
use Rattle.level_table.proofs.Common.{to_z-of_z, value_of, table}
use Rattle.level_table.proofs.least_in_reach.Goals as goal

pub unreachable-requires : goal.unreachable-requires
unreachable-requires c =
    let some = c.requires.some in
    let y = some.0 in
    let lo : to_z w64 (of_z w64 c.args.lo) ≡ c.args.lo = to_z-of_z w64 _ c.ranges.lo in
    let from : to_z w64 (of_z w64 (to_z w64 (of_z w64 c.args.x) -ℤ to_z w64 (of_z w64 c.args.up))) ≡ c.args.x
    -ℤ c.args.up = omega (arith, ints) in
    let to : to_z w64 (of_z w64 (to_z w64 (of_z w64 c.args.x) +ℤ to_z w64 (of_z w64 c.args.down))) ≡ c.args.x
    +ℤ c.args.down = omega (arith, ints) in
    let none = rw (lo, from, to) at c.in-None.ensures in
    let n : value_of (table c.args.lo c.args.values.now) y ≡ None = none y (some.3).0 (some.3).1 in
    let h : value_of (table c.args.lo c.args.values.now) y ≡ Some some.1 = some.2 in
    cc

pub returns : goal.returns
returns c =
    let lo : to_z w64 (of_z w64 c.args.lo) ≡ c.args.lo = to_z-of_z w64 _ c.ranges.lo in
    let from : to_z w64 (of_z w64 (to_z w64 (of_z w64 c.args.x) -ℤ to_z w64 (of_z w64 c.args.up))) ≡ c.args.x
    -ℤ c.args.up = omega (arith, ints) in
    let to : to_z w64 (of_z w64 (to_z w64 (of_z w64 c.args.x) +ℤ to_z w64 (of_z w64 c.args.down))) ≡ c.args.x
    +ℤ c.args.down = omega (arith, ints) in
    let fits : FitsSigned w64 c.in-Some.value = search rules in
    let value : to_z w64 (of_z w64 c.in-Some.value) ≡ c.in-Some.value = to_z-of_z w64 _ fits in
    rw value (c.in-Some.field-0-1, rw (lo, from, to) at c.in-Some.ensures)
