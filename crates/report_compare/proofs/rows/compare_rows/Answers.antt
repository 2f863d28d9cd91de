use Rattle.report_compare.proofs.Common.{suc, ◌<◌, Ok, Err, map, length, arith, length-map, err_from_is_err_and}
use Rattle.report_compare.proofs.Common.{proposal_of}
use Rattle.report_compare.proofs.Lemmas.{read_item, rows_step, rows_stop, rows_end}
use Rattle.report_compare.proofs.rows.compare_rows.Goals as goal

pub returns-in_err-line-clause-lines : goal.returns-in_err-line-clause-lines
returns-in_err-line-clause-lines c =
    let index = c.loop-index.index in
    let mine = c.index-mine-index.result in
    let right = c.index-right-index.result in
    let inside : index < length c.args.right.now = omega (arith, c.loop-index-test.true, c.requires.count) in
    let p = err_from_is_err_and c.from_residual.result c.from_residual.ensures.1 in
    rw (p.1, p.2)
    (c.loop-index.invariant.rest (Err c.in_err-line.field-0.0)
    (rows_stop c.loop-index.line c.in_err-line.field-0.0 index (map proposal_of c.args.mine.now)
    (map proposal_of c.args.right.now) (proposal_of mine) (proposal_of right)
    (read_item proposal_of c.args.mine.now index mine c.loop-index-test.true c.index-mine-index.is)
    (read_item proposal_of c.args.right.now index right inside c.index-right-index.is)
    (c.in_err-line.ensures.lines (suc index))))

pub loop-index-preserved : goal.loop-index-preserved
loop-index-preserved c =
    let index = c.loop-index.index in
    let mine = c.index-mine-index.result in
    let right = c.index-right-index.result in
    let inside : index < length c.args.right.now = omega (arith, c.loop-index-test.true, c.requires.count) in
    let known = c.in_ok-line.ensures in
    let next = known.next in
    let line = c.loop-index.invariant.line in
    record {
      rest = λ result h. c.loop-index.invariant.rest result
          (rows_step c.loop-index.line c.in_ok-line.line result index (map proposal_of c.args.mine.now)
          (map proposal_of c.args.right.now) (proposal_of mine) (proposal_of right)
          (read_item proposal_of c.args.mine.now index mine c.loop-index-test.true c.index-mine-index.is)
          (read_item proposal_of c.args.right.now index right inside c.index-right-index.is)
          (known.lines (suc index)) h);
      line = omega (arith, next, line);
    }

pub returns-clause-lines : goal.returns-clause-lines
returns-clause-lines c =
    let index = c.loop-index.index in
    let done = c.loop-index-test.false in
    let count = c.requires.count in
    let mine = length-map c.args.mine.now proposal_of in
    let right = length-map c.args.right.now proposal_of in
    c.loop-index.invariant.rest (Ok c.loop-index.line)
    (rows_end c.loop-index.line index (map proposal_of c.args.mine.now) (map proposal_of c.args.right.now)
    (omega (arith, done, mine)) (omega (arith, done, count, right)))
