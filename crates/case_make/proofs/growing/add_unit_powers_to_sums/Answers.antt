use Rattle.case_make.proofs.Common.{◌<◌, pos, length, slice_index, ap, ◌∙◌, arith, ints}
use Rattle.std.proofs.Math.ListN.{length-set}
use Rattle.std.proofs.lemmas.Option.{get_or_from_slice_get}
use Rattle.case_make.proofs.Lemmas.{added_more, left_more}
use Rattle.case_make.proofs.growing.add_unit_powers_to_sums.Goals as goal

pub loop-k-preserved : goal.loop-k-preserved
loop-k-preserved c =
    let inv = c.loop-k.invariant in
    let k = c.loop-k.k in
    let inside : k < length c.loop-k.sums.items =
    omega (arith, c.loop-k-test.true, c.len-k-end.ensures, c.requires.lengths, inv.count) in
    let sum = get_or_from_slice_get c.loop-k.sums.items k c.get.result.now (pos 0) c.get.ensures.item in
    let power = get_or_from_slice_get c.args.powers.now.items k c.get-in-loop-k.result.now 0
    c.get-in-loop-k.ensures.item in
    let limit = c.requires.sums k (pos 0) (omega (arith, inside, inv.count)) in
    let same = inv.rest k (omega arith) in
    record {
      count = ap length c.set.ensures.items ∙ (length-set c.loop-k.sums.items k _ ∙ inv.count);
      done = added_more c.args.sums.now.items c.loop-k.sums.items c.set.new.self.items
          (λ j. pos (slice_index c.args.powers.now.items j)) k _ c.set.ensures.items inside
          (omega (arith, ints, limit.at_least, limit.at_most, same, sum, power, c.from.ensures)) inv.done;
      rest = left_more c.args.sums.now.items c.loop-k.sums.items c.set.new.self.items k _ c.set.ensures.items inv.rest;
    }
