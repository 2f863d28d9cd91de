use Rattle.level_table.proofs.Common.{rules, ◌≡◌, ◌<◌, length, arith, ap, length-append, to_z, of_z, below_more, ℤ, pos}
use Rattle.level_table.proofs.Common.{◌+ℤ◌, FitsSigned, w64, ints, to_z-of_z, get_or_append_left, get_or_push}
use Rattle.level_table.proofs.windowed.Goals as goal

pub overflow_cast-k : goal.overflow_cast-k
overflow_cast-k c =
    let here = c.requires.powers c.loop-k.k c.loop-k-test.true in
    let first = c.requires.powers 0 (omega arith) in
    let high = here.1 in
    let low = first.0 in
    omega (arith, ints)

pub least_in_reach-least-requires-clause-x : goal.least_in_reach-least-requires-clause-x
least_in_reach-least-requires-clause-x c =
    let here = c.requires.powers c.loop-k.k c.loop-k-test.true in
    let low = here.0 in
    let high = here.1 in
    (omega (arith, ints), omega (arith, ints))

pub least_in_reach-least-requires-clause-some : goal.least_in_reach-least-requires-clause-some
least_in_reach-least-requires-clause-some c =
    let k = c.loop-k.k in
    let here = c.requires.powers k c.loop-k-test.true in
    let low = here.0 in
    let high = here.1 in
    let own_fits : FitsSigned w64 c.args.s.now.lo = search rules in
    let own : to_z w64 (of_z w64 c.args.s.now.lo) ≡ c.args.s.now.lo = to_z-of_z w64 _ own_fits in
    let up : to_z w64 (of_z w64 c.args.up) ≡ c.args.up = to_z-of_z w64 _ c.ranges.up in
    let down : to_z w64 (of_z w64 c.args.down) ≡ c.args.down = to_z-of_z w64 _ c.ranges.down in
    let power : to_z w64 (of_z w64 (to_z w64 (of_z w64 c.args.from) +ℤ to_z w64 k)) ≡ c.args.from +ℤ pos k =
    omega (arith, ints) in
    let items = c.deref.ensures.value in
    rw (own, up, down, power, items) (c.requires.some k c.loop-k-test.true)

pub loop-k-preserved : goal.loop-k-preserved
loop-k-preserved c =
    let k = c.loop-k.k in
    let here = c.requires.powers k c.loop-k-test.true in
    let low = here.0 in
    let high = here.1 in
    let items = c.in_ok-push.ensures.items in
    let len : length c.loop-k.out.items ≡ k = c.loop-k.invariant.len in
    let own_fits : FitsSigned w64 c.args.s.now.lo = search rules in
    let own : to_z w64 (of_z w64 c.args.s.now.lo) ≡ c.args.s.now.lo = to_z-of_z w64 _ own_fits in
    let power : to_z w64 (of_z w64 (to_z w64 (of_z w64 c.args.from) +ℤ to_z w64 k)) ≡ to_z w64
    (of_z w64 c.args.from) +ℤ pos k = omega (arith, ints) in
    let old = c.deref.ensures.value in
    let least = rw (power, own, old) at c.least_in_reach-least.ensures in
    let fits : FitsSigned w64 c.least_in_reach-least.result = search rules in
    let same : to_z w64 (of_z w64 c.least_in_reach-least.result) ≡ c.least_in_reach-least.result =
    to_z-of_z w64 _ fits in
    record {
      len = omega (arith, ap length items, length-append {A = ℤ});
      each = below_more _ _
          (λ j h. let lt : j < length c.loop-k.out.items = omega arith in
          rw (items, get_or_append_left) (c.loop-k.invariant.each j h))
          (rw (items, get_or_push) (rw same least));
    }

pub returns-clause-each : goal.returns-clause-each
returns-clause-each c = λ k h.
    let up : FitsSigned w64 c.args.up = c.ranges.up in
    let down : FitsSigned w64 c.args.down = c.ranges.down in
    let from : FitsSigned w64 c.args.from = c.ranges.from in
    let r = simp to_z-of_z at (c.loop-k.invariant.each k (omega arith)) in r
