use Rattle.level_table.proofs.Common.{rules, ◌≡◌, ◌≢◌, ◌<◌, length, get_or, arith, ◌∙◌, below_more, get_or-set_same}
use Rattle.level_table.proofs.Common.{get_or-set_other, to_z, of_z, pos, ◌+ℤ◌, FitsSigned, w64, ints, to_z-of_z}
use Rattle.level_table.proofs.add_term.Goals as goal

pub loop-k-preserved : goal.loop-k-preserved
loop-k-preserved g c =
    let k = c.loop-k.k in
    let inside : k < length c.loop-k.values = omega arith in
    let now = get_or c.loop-k.values k (pos 0) in
    let was = get_or c.args.values.now k (pos 0) in
    let limit = c.requires.within.powers k c.loop-k-test.true in
    let low = limit.0 in
    let high = limit.1 in
    let same : now ≡ was = c.loop-k.invariant.rest k (omega arith) in
    let fits : FitsSigned w64 now = search rules in
    let value : to_z w64 (of_z w64 now) ≡ was = to_z-of_z w64 _ fits ∙ same in
    let power : to_z w64 (of_z w64 (to_z w64 (of_z w64 c.args.lo) +ℤ to_z w64 k)) ≡ to_z w64 (of_z w64 c.args.lo) +ℤ pos
    k = omega (arith, ints) in
    let is = rw (power, value) at c.plus.ensures in
    let result : to_z w64 (of_z w64 c.plus.result) ≡ c.plus.result =
    to_z-of_z w64 _ (record { sfits = c.plus.type_inv }) in
    record {
      below = below_more _ _ (λ j h. let ne : j ≢ k = omega arith in rw get_or-set_other (c.loop-k.invariant.below j h))
          (rw get_or-set_same (rw result is));
      rest = λ j past. let ne : j ≢ k = omega arith in rw get_or-set_other (c.loop-k.invariant.rest j (omega arith));
    }

pub plus-requires-clause-x : goal.plus-requires-clause-x
plus-requires-clause-x g c =
    let limit = c.requires.within.powers c.loop-k.k c.loop-k-test.true in
    let low = limit.0 in
    let high = limit.1 in
    (omega (arith, ints), omega (arith, ints))

pub plus-requires-clause-before : goal.plus-requires-clause-before
plus-requires-clause-before g c =
    let k = c.loop-k.k in
    let now = get_or c.loop-k.values k (pos 0) in
    let was = get_or c.args.values.now k (pos 0) in
    let same : now ≡ was = c.loop-k.invariant.rest k (omega arith) in
    let fits : FitsSigned w64 now = search rules in
    let value : to_z w64 (of_z w64 now) ≡ was = to_z-of_z w64 _ fits ∙ same in
    rw value (c.requires.within.amounts k c.loop-k-test.true)

pub plus-requires-clause-fits : goal.plus-requires-clause-fits
plus-requires-clause-fits g c =
    let k = c.loop-k.k in
    let now = get_or c.loop-k.values k (pos 0) in
    let was = get_or c.args.values.now k (pos 0) in
    let limit = c.requires.within.powers k c.loop-k-test.true in
    let low = limit.0 in
    let high = limit.1 in
    let same : now ≡ was = c.loop-k.invariant.rest k (omega arith) in
    let fits : FitsSigned w64 now = search rules in
    let value : to_z w64 (of_z w64 now) ≡ was = to_z-of_z w64 _ fits ∙ same in
    let power : to_z w64 (of_z w64 (to_z w64 (of_z w64 c.args.lo) +ℤ to_z w64 k)) ≡ c.args.lo +ℤ pos k =
    omega (arith, ints) in
    rw (power, value) (c.requires.fits k c.loop-k-test.true)

pub returns : goal.returns
returns g c = λ k h.
    let lo : to_z w64 (of_z w64 c.args.lo) ≡ c.args.lo = to_z-of_z w64 _ c.ranges.lo in
    rw lo at (c.loop-k.invariant.below k (omega arith))
