use Rattle.report_read.proofs.Common.{◌∙◌, ap, arith, ℤ, pos, Some, ints, neg_ℤ, MOST}
use Rattle.report_read.proofs.Lemmas.{count_most, plus_none, plus_above, plus_some}
use Rattle.report_read.proofs.numbers.parse_nonnegative_number.Goals as goal

pub returns-in_err-magnitude : goal.returns-in_err-magnitude
returns-in_err-magnitude c =
    rw c.from_residual.ensures (plus_none (neg_ℤ (pos MOST)) MOST 170141183460469231731687303715884105727
    c.args.bytes.now c.requires (omega arith) c.in_err-magnitude.ensures)

pub returns-then-magnitude : goal.returns-then-magnitude
returns-then-magnitude c =
    plus_above (neg_ℤ (pos MOST)) MOST 170141183460469231731687303715884105727 c.args.bytes.now
    c.in_ok-magnitude.magnitude c.in_ok-magnitude.rest.now c.requires (omega arith) c.in_ok-magnitude.ensures

pub overflow_cast-result : goal.overflow_cast-result
overflow_cast-result c =
    let most = count_most MOST c.args.bytes.now (c.in_ok-magnitude.magnitude, c.in_ok-magnitude.rest.now)
    c.in_ok-magnitude.ensures in
    omega arith

pub returns : goal.returns
returns c =
    let most = count_most MOST c.args.bytes.now (c.in_ok-magnitude.magnitude, c.in_ok-magnitude.rest.now)
    c.in_ok-magnitude.ensures in
    plus_some MOST MOST 170141183460469231731687303715884105727 c.args.bytes.now c.in_ok-magnitude.magnitude
    c.in_ok-magnitude.rest.now c.requires (omega arith) c.in_ok-magnitude.ensures
    ∙ ap (λ (z : ℤ). Some (z, c.in_ok-magnitude.rest.now)) (grind (arith, ints))
