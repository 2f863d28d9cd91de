use Rattle.report_read.proofs.Common.{◌≡◌, ◌++◌, ◌∷◌, [], ◌+◌, map, ap, ◌∙◌, arith, err_from_is_err_and, map_push}
use Rattle.report_read.proofs.Common.{proposal_of, rows_at}
use Rattle.report_read.proofs.Lemmas.{row_goes_on, row_fails, rows_done, row_shortens}
use Rattle.report_read.proofs.rows.read_proposal_rows.Goals as goal

pub returns-in_err-row : goal.returns-in_err-row
returns-in_err-row c =
    let p = err_from_is_err_and c.from_residual-in_err-row.result c.from_residual-in_err-row.ensures.1 in
    rw (p.1, p.2) (row_fails c.in_err-row.field-0.0 c.args.periods c.args.count c.loop-place.place
    (map proposal_of c.loop-place.rows.items) c.loop-place.reader.rest.now
    (rows_at c.args.periods 1 c.args.count c.args.reader.now.rest.now)
    c.loop-place-test.true c.in_err-row.ensures c.loop-place.invariant.reads)

pub push-requires : goal.push-requires
push-requires c =
    let shorter = row_shortens c.args.periods (c.loop-place.place + 1) c.loop-place.reader.rest.now
    (proposal_of c.in_ok-row.row) c.read_proposal_row.new.reader.rest.now c.in_ok-row.ensures in
    let left = c.loop-place.invariant.left in
    let room = c.loop-place.invariant.room in
    omega arith

pub loop-place-preserved : goal.loop-place-preserved
loop-place-preserved c =
    let shorter = row_shortens c.args.periods (c.loop-place.place + 1) c.loop-place.reader.rest.now
    (proposal_of c.in_ok-row.row) c.read_proposal_row.new.reader.rest.now c.in_ok-row.ensures in
    let pushed : map proposal_of c.push.new.self.items ≡ map proposal_of c.loop-place.rows.items ++ proposal_of
    c.in_ok-row.row ∷ [] = ap (map proposal_of) c.push.ensures.items ∙
    map_push proposal_of c.loop-place.rows.items c.in_ok-row.row in
    record {
      reads = rw pushed (row_goes_on c.args.periods c.args.count c.loop-place.place
          (map proposal_of c.loop-place.rows.items) c.loop-place.reader.rest.now (proposal_of c.in_ok-row.row)
          c.read_proposal_row.new.reader.rest.now
          (rows_at c.args.periods 1 c.args.count c.args.reader.now.rest.now) c.loop-place-test.true
          c.in_ok-row.ensures
          c.loop-place.invariant.reads);
      room = (let room = c.loop-place.invariant.room in omega (arith, c.push.ensures.spare));
      left = (let left = c.loop-place.invariant.left in omega arith);
    }

pub returns : goal.returns
returns c =
    rows_done c.args.periods c.args.count c.loop-place.place (map proposal_of c.loop-place.rows.items)
    c.loop-place.reader.rest.now (rows_at c.args.periods 1 c.args.count c.args.reader.now.rest.now)
    c.loop-place-test.false
    c.loop-place.invariant.reads
