use Rattle.level_table.proofs.Common.{rules, ◌≡◌, length, arith, to_z, of_z, vec_len, pos, ◌+ℤ◌, FitsSigned, w64, ints}
use Rattle.level_table.proofs.Common.{to_z-of_z}
use Rattle.level_table.proofs.Lemmas.{IsLeast-from_list}
use Rattle.level_table.proofs.LevelsShape.least.Goals as goal

pub returns : goal.returns
returns c =
    let own_fits : FitsSigned w64 c.args.self.now.lo = search rules in
    let value_fits : FitsSigned w64 c.in_ok-value.value = search rules in
    let items = c.deref.ensures.value in
    let is = rw items at c.in_ok-value.ensures in
    let inside = is.inside in
    let limit = c.args.self.now.within.powers c.in_ok-value.at inside in
    let low = limit.0 in
    let high = limit.1 in
    let len : vec_len c.args.self.now.values ≡ length c.args.self.now.values.items = c.args.self.now.values.ok.0 in
    let value : to_z w64 (of_z w64 c.in_ok-value.value) ≡ c.in_ok-value.value = to_z-of_z w64 _ value_fits in
    let power : to_z w64 (of_z w64 (to_z w64 (of_z w64 c.args.self.now.lo) +ℤ to_z w64 c.in_ok-value.at))
    ≡ c.args.self.now.lo +ℤ pos c.in_ok-value.at = omega (arith, ints) in
    rw (value, power) (IsLeast-from_list c.args.self.now.lo c.args.self.now.values.items c.in_ok-value.value
    c.in_ok-value.at is)
