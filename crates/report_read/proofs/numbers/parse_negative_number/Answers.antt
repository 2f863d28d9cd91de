use Rattle.report_read.proofs.Common.{◌∙◌, sym, ap, ℤ, pos, w128, Some, rules, to_z-of_z, MOST}
use Rattle.report_read.proofs.Lemmas.{count_most, minus_none, minus_zero, minus_some}
use Rattle.report_read.proofs.numbers.parse_negative_number.Goals as goal

pub returns-in_err-magnitude : goal.returns-in_err-magnitude
returns-in_err-magnitude c = rw c.from_residual.ensures
    (minus_none MOST (pos 170141183460469231731687303715884105727) c.args.bytes.now c.in_err-magnitude.ensures)

pub returns-then-magnitude-eq0 : goal.returns-then-magnitude-eq0
returns-then-magnitude-eq0 c = minus_zero MOST (pos 170141183460469231731687303715884105727) c.args.bytes.now
    c.in_ok-magnitude.magnitude c.in_ok-magnitude.rest.now c.in_ok-magnitude.ensures c.if-magnitude-eq0.true

pub negated_magnitude-requires-clause-most : goal.negated_magnitude-requires-clause-most
negated_magnitude-requires-clause-most c =
    count_most MOST c.args.bytes.now (c.in_ok-magnitude.magnitude, c.in_ok-magnitude.rest.now)
    c.in_ok-magnitude.ensures

pub returns : goal.returns
returns c =
    minus_some MOST 170141183460469231731687303715884105727 c.args.bytes.now c.in_ok-magnitude.magnitude
    c.in_ok-magnitude.rest.now c.in_ok-magnitude.ensures c.if-magnitude-eq0.false
    ∙ ap (λ (z : ℤ). Some (z, c.in_ok-magnitude.rest.now))
    (sym c.negated_magnitude.ensures ∙ sym (to_z-of_z w128 c.negated_magnitude.result (search rules)))
