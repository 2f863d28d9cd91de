use Rattle.price_space.proofs.Common.{length, arith}
use Rattle.price_space.proofs.Lemmas.{zeros_by_places}
use Rattle.price_space.proofs.opening.write_zeros.Goals as goal

pub returns-clause-zeros : goal.returns-clause-zeros
returns-clause-zeros c =
    let last = c.loop-k-test.false in
    let end = c.len-k-end.ensures in
    let same = c.loop-k.invariant.same_length in
    zeros_by_places (length c.args.into.now.items) c.loop-k.into.items same
    (λ j h. c.loop-k.invariant.zeros j (omega (arith, h, last, end, same)))
