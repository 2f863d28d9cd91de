use Rattle.audit_check.proofs.Common.{length, arith}
use Rattle.audit_check.proofs.Lemmas.{all_zero}
use Rattle.audit_check.proofs.sums.write_zeros.Goals as goal

pub returns : goal.returns
returns c =
    let last = c.loop-k-test.false in
    let end = c.len-k-end.ensures in
    let same = c.loop-k.invariant.same_length in
    all_zero (length c.args.totals.now.items) c.loop-k.totals.items same
    (λ j h. c.loop-k.invariant.zeros j (omega (arith, h, last, end, same)))
