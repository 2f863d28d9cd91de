use Rattle.report_read.proofs.Common.{◌∙◌, ap, arith, rules, ℤ, pos, Some, neg_ℤ, ints}
use Rattle.report_read.proofs.Lemmas.{int_below, int_above, int_within, integer_none, integer_some}
use Rattle.report_read.proofs.numbers.parse_signed_number_between.Goals as goal
use Rattle.report_read.proofs.numbers.parse_signed_number_between.Goals.{then-number-least-via-then-number-least}
use Rattle.report_read.proofs.numbers.parse_signed_number_between.Goals.{
  then-number-least-via-else-number-least+then-most-number,
}

pub returns-in_err-number : goal.returns-in_err-number
returns-in_err-number c =
    rw c.from_residual.ensures (integer_none (neg_ℤ (pos 170141183460469231731687303715884105728))
    (pos 170141183460469231731687303715884105727) c.args.least c.args.most c.args.bytes.now (search rules)
    (search rules) c.in_err-number.ensures)

pub returns : goal.returns
returns c =
    integer_some (neg_ℤ (pos 170141183460469231731687303715884105728)) (pos 170141183460469231731687303715884105727)
    c.args.least c.args.most c.args.bytes.now (c.in_ok-number.number, c.in_ok-number.rest.now)
    c.in_ok-number.ensures
    ∙ int_within c.args.least c.args.most (c.in_ok-number.number, c.in_ok-number.rest.now) (omega (arith, ints))
    (omega (arith, ints)) ∙ ap (λ (z : ℤ). Some (z, c.in_ok-number.rest.now)) (grind (arith, ints))

pub returns-then-number-least : goal.returns-then-number-least
returns-then-number-least c =
    let found = integer_some (neg_ℤ (pos 170141183460469231731687303715884105728))
    (pos 170141183460469231731687303715884105727) c.args.least c.args.most c.args.bytes.now
    (c.in_ok-number.number, c.in_ok-number.rest.now) c.in_ok-number.ensures in
    elim c.then-number-least.branch [
      | then-number-least-via-then-number-least w ↦ found ∙
          int_below c.args.least c.args.most (c.in_ok-number.number, c.in_ok-number.rest.now) (omega (arith, ints))
      | then-number-least-via-else-number-least+then-most-number w ↦ found ∙
          int_above c.args.least c.args.most (c.in_ok-number.number, c.in_ok-number.rest.now) (omega (arith, ints))
    ]
