use Rattle.level_table.proofs.Common.{◌≡◌, ℕ, ◌-◌, ◌<◌, length, arith, to_z, of_z, vec_len, ℤ, pos, ◌+ℤ◌, ◌-ℤ◌, w64}
use Rattle.level_table.proofs.Common.{int_max, int_min, ints, clamps, to_z-of_z, IsWindow, IsPlace, table}
use Rattle.level_table.proofs.Common.{within_limits}
use Rattle.level_table.proofs.Lemmas.{AreWithin-from_limits}
use Rattle.level_table.proofs.WindowLaws.{ends_are_powers, power_inside, some_in_reach, window_is}
use Rattle.level_table.proofs.window_of.Goals as goal
use Rattle.level_table.proofs.window_of.Goals.{After-min-to, After-count_between-count, In_ok-values}

pub overflow_add-last-2 : goal.overflow_add-last-2
overflow_add-last-2 c =
    let len : vec_len c.args.s.now.values ≡ length c.args.s.now.values.items = c.args.s.now.values.ok.0 in
    let some : 0 < length c.args.s.now.values.items = omega arith in
    let old = ends_are_powers c.args.s.now.lo c.args.s.now.values.items c.args.s.now.within some in
    let first = old.0.0 in
    let last = old.1.1 in
    let least = old.1.0 in
    let most = old.0.1 in
    omega (arith, ints)

-- the new ends at plain numbers
record Ends (own up down lo hi : ℤ) (n : ℕ) (from to : ℤ) : Type 0 where
  some : 0 < n
  from_is : from ≡ int_max lo (own -ℤ down)
  to_is : to ≡ int_min hi (((own +ℤ pos n) -ℤ pos 1) +ℤ up)
  from_power : IsPlace from
  to_power : IsPlace to

ends : (c : After-min-to) → Ends c.args.s.now.lo c.args.up c.args.down c.args.lo c.args.hi
    (length c.args.s.now.values.items) c.max-from.result c.min-to.result
ends c =
    let len : vec_len c.args.s.now.values ≡ length c.args.s.now.values.items = c.args.s.now.values.ok.0 in
    let some : 0 < length c.args.s.now.values.items = omega arith in
    let old = ends_are_powers c.args.s.now.lo c.args.s.now.values.items c.args.s.now.within some in
    let first = old.0.0 in
    let last = old.1.1 in
    let least = old.1.0 in
    let most = old.0.1 in
    let lo : to_z w64 (of_z w64 c.args.lo) ≡ c.args.lo = to_z-of_z w64 _ c.ranges.lo in
    let hi : to_z w64 (of_z w64 c.args.hi) ≡ c.args.hi = to_z-of_z w64 _ c.ranges.hi in
    let before : to_z w64 (of_z w64 (to_z w64 (of_z w64 c.args.s.now.lo) -ℤ to_z w64 (of_z w64 c.args.down)))
    ≡ c.args.s.now.lo -ℤ c.args.down = omega (arith, ints) in
    let after : to_z w64
    (of_z w64 (to_z w64 (of_z w64 (to_z w64 (of_z w64 c.args.s.now.lo) +ℤ to_z w64 (c.len-len.result - 1)))
    +ℤ to_z w64 (of_z w64 c.args.up))) ≡ ((c.args.s.now.lo +ℤ pos (length c.args.s.now.values.items)) -ℤ pos 1)
    +ℤ c.args.up = omega (arith, ints) in
    let from_is : c.max-from.result ≡ int_max c.args.lo (c.args.s.now.lo -ℤ c.args.down) =
    rw (lo, before) at c.max-from.ensures.value in
    let to_is : c.min-to.result ≡ int_min c.args.hi
    (((c.args.s.now.lo +ℤ pos (length c.args.s.now.values.items)) -ℤ pos 1) +ℤ c.args.up) =
    rw (hi, after) at c.min-to.ensures.value in
    record {
      some = some;
      from_is = from_is;
      to_is = to_is;
      from_power = (omega (arith, ints, clamps), omega (arith, ints, clamps));
      to_power = (omega (arith, ints, clamps), omega (arith, ints, clamps));
    }

pub count_between-count-requires-clause-from : goal.count_between-count-requires-clause-from
count_between-count-requires-clause-from c =
    let from : to_z w64 (of_z w64 c.max-from.result) ≡ c.max-from.result =
    to_z-of_z w64 _ (record { sfits = c.max-from.type_inv }) in
    rw from (ends (goal.at.count_between-count-requires-clause-from c).After-min-to).from_power

pub count_between-count-requires-clause-to : goal.count_between-count-requires-clause-to
count_between-count-requires-clause-to c =
    let to : to_z w64 (of_z w64 c.min-to.result) ≡ c.min-to.result =
    to_z-of_z w64 _ (record { sfits = c.min-to.type_inv }) in
    rw to (ends (goal.at.count_between-count-requires-clause-to c).After-min-to).to_power

count_is : (c : After-count_between-count) →
    pos c.count_between-count.result ≡ int_max (pos 0) ((c.min-to.result +ℤ pos 1) -ℤ c.max-from.result)
count_is c =
    let from : to_z w64 (of_z w64 c.max-from.result) ≡ c.max-from.result =
    to_z-of_z w64 _ (record { sfits = c.max-from.type_inv }) in
    let to : to_z w64 (of_z w64 c.min-to.result) ≡ c.min-to.result =
    to_z-of_z w64 _ (record { sfits = c.min-to.type_inv }) in
    rw (from, to) at c.count_between-count.ensures

pub windowed-requires-clause-powers : goal.windowed-requires-clause-powers
windowed-requires-clause-powers c = λ k h.
    let e = ends (goal.at.windowed-requires-clause-powers c).After-min-to in
    let n = count_is (goal.at.windowed-requires-clause-powers c).After-count_between-count in
    let from : to_z w64 (of_z w64 c.max-from.result) ≡ c.max-from.result =
    to_z-of_z w64 _ (record { sfits = c.max-from.type_inv }) in
    let inside = power_inside c.args.s.now.values.items c.args.s.now.lo _ c.args.up c.args.down c.args.lo c.args.hi
    c.max-from.result c.min-to.result c.count_between-count.result e.some c.requires.up c.requires.down
    (omega (arith, ints)) e.from_is e.to_is n k h in
    let low = inside.0 in
    let high = inside.1 in
    let first = c.requires.lo.0 in
    let last = c.requires.hi.1 in
    rw from (omega (arith, ints), omega (arith, ints))

pub windowed-requires-clause-some : goal.windowed-requires-clause-some
windowed-requires-clause-some c = λ k h.
    let e = ends (goal.at.windowed-requires-clause-some c).After-min-to in
    let n = count_is (goal.at.windowed-requires-clause-some c).After-count_between-count in
    let from : to_z w64 (of_z w64 c.max-from.result) ≡ c.max-from.result =
    to_z-of_z w64 _ (record { sfits = c.max-from.type_inv }) in
    let up : to_z w64 (of_z w64 c.args.up) ≡ c.args.up = to_z-of_z w64 _ c.ranges.up in
    let down : to_z w64 (of_z w64 c.args.down) ≡ c.args.down = to_z-of_z w64 _ c.ranges.down in
    rw (from, up, down) (some_in_reach c.args.s.now.values.items c.args.s.now.lo _ c.args.up c.args.down c.args.lo
    c.args.hi c.max-from.result c.min-to.result c.count_between-count.result e.some c.requires.up c.requires.down
    (omega (arith, ints)) e.from_is e.to_is n k h)

window : (c : In_ok-values) → Ends c.args.s.now.lo c.args.up c.args.down c.args.lo c.args.hi
    (length c.args.s.now.values.items) c.max-from.result c.min-to.result
    → pos c.count_between-count.result ≡ int_max (pos 0) ((c.min-to.result +ℤ pos 1) -ℤ c.max-from.result)
    → IsWindow c.args.up c.args.down c.args.lo c.args.hi (table c.args.s.now.lo c.args.s.now.values.items)
    (table c.max-from.result c.in_ok-values.values.items)
window c e n =
    let from : to_z w64 (of_z w64 c.max-from.result) ≡ c.max-from.result =
    to_z-of_z w64 _ (record { sfits = c.max-from.type_inv }) in
    let up : to_z w64 (of_z w64 c.args.up) ≡ c.args.up = to_z-of_z w64 _ c.ranges.up in
    let down : to_z w64 (of_z w64 c.args.down) ≡ c.args.down = to_z-of_z w64 _ c.ranges.down in
    let each = rw (from, up, down) at c.in_ok-values.ensures.each in
    window_is c.args.s.now.values.items c.args.s.now.lo _ c.args.up c.args.down c.args.lo c.args.hi c.max-from.result
    c.min-to.result c.count_between-count.result e.some c.requires.up c.requires.down (omega (arith, ints))
    e.from_is e.to_is n
    c.in_ok-values.values.items c.in_ok-values.ensures.len each

pub invariant_of-result-2-clause-convex : goal.invariant_of-result-2-clause-convex
invariant_of-result-2-clause-convex c =
    let at = goal.at.invariant_of-result-2-clause-convex c in
    c.operations_keep_convexity.ensures.window c.args.up c.args.down c.args.lo c.args.hi _ _
    (window at.In_ok-values (ends at.After-min-to) (count_is at.After-count_between-count)) c.args.s.now.convex

pub invariant_of-result-2-clause-within : goal.invariant_of-result-2-clause-within
invariant_of-result-2-clause-within c =
    let at = goal.at.invariant_of-result-2-clause-within c in
    let from : to_z w64 (of_z w64 c.max-from.result) ≡ c.max-from.result =
    to_z-of_z w64 _ (record { sfits = c.max-from.type_inv }) in
    let w = window at.In_ok-values (ends at.After-min-to) (count_is at.After-count_between-count) in
    rw from (AreWithin-from_limits c.max-from.result c.in_ok-values.values.items
    (c.operations_keep_limits.ensures.window c.args.up c.args.down c.args.lo c.args.hi _ _ c.requires.lo c.requires.hi w
    (within_limits c.args.s.now.lo c.args.s.now.values.items c.args.s.now.within)))

pub returns : goal.returns
returns c =
    let at = goal.at.returns c in
    let from : to_z w64 (of_z w64 c.max-from.result) ≡ c.max-from.result =
    to_z-of_z w64 _ (record { sfits = c.max-from.type_inv }) in
    rw from (window at.In_ok-values (ends at.After-min-to) (count_is at.After-count_between-count))
