use Rattle.report_read.proofs.Common.{◌∙◌, arith, MOST}
use Rattle.report_read.proofs.Lemmas.{below_least, above_most, within, count_none, count_some}
use Rattle.report_read.proofs.numbers.parse_count_between.Goals as goal
use Rattle.report_read.proofs.numbers.parse_count_between.Goals.{then-number-least-via-then-number-least}
use Rattle.report_read.proofs.numbers.parse_count_between.Goals.{
  then-number-least-via-else-number-least+then-most-number,
}

pub returns-in_err-number : goal.returns-in_err-number
returns-in_err-number c = rw c.from_residual.ensures
    (count_none c.args.least c.args.most MOST c.args.bytes.now (omega arith) c.in_err-number.ensures)

pub returns-then-number-least : goal.returns-then-number-least
returns-then-number-least c =
    let found = count_some c.args.least c.args.most MOST c.args.bytes.now
    (c.in_ok-number.number, c.in_ok-number.rest.now) c.in_ok-number.ensures in
    elim c.then-number-least.branch [
      | then-number-least-via-then-number-least w ↦
          found ∙ below_least c.args.least c.args.most (c.in_ok-number.number, c.in_ok-number.rest.now) (omega arith)
      | then-number-least-via-else-number-least+then-most-number w ↦
          found ∙ above_most c.args.least c.args.most (c.in_ok-number.number, c.in_ok-number.rest.now) (omega arith)
    ]

pub returns : goal.returns
returns c =
    count_some c.args.least c.args.most MOST c.args.bytes.now (c.in_ok-number.number, c.in_ok-number.rest.now)
    c.in_ok-number.ensures
    ∙ within c.args.least c.args.most (c.in_ok-number.number, c.in_ok-number.rest.now) (omega arith) (omega arith)
