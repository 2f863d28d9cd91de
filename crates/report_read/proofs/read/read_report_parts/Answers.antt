use Rattle.report_read.proofs.Common.{arith, rules, map, proposal_of, told_of, err_from_is_err_and}
use Rattle.report_read.proofs.Lemmas.{head_is, head_shorter, units_order}
use Rattle.report_read.proofs.Stopped.{no_head, no_rows, no_ending, no_chosen, no_lines, no_foot}
use Rattle.report_read.proofs.read.read_report_parts.Goals as goal

pub read_proposal_rows-requires : goal.read_proposal_rows-requires
read_proposal_rows-requires c =
    let h = head_is c.args.reader.now.rest.now c.in_ok-head.head c.read_head.new.reader.rest.now c.in_ok-head.ensures
    in
    let shorter = head_shorter c.args.reader.now.rest.now c.in_ok-head.head c.read_head.new.reader.rest.now
    c.in_ok-head.ensures in
    let low = h.periods.at_least in
    let high = h.periods.at_most in
    record { some = low; limit = high; few = omega arith; numbers = search rules }

pub returns-in_err-head-clause-exact : goal.returns-in_err-head-clause-exact
returns-in_err-head-clause-exact c =
    let p = err_from_is_err_and c.from_residual.result c.from_residual.ensures.1 in
    rw (p.1, p.2) (no_head c.in_err-head.field-0.0 c.args.reader.now.rest.now c.in_err-head.ensures)

pub returns-in_err-rows-clause-exact : goal.returns-in_err-rows-clause-exact
returns-in_err-rows-clause-exact c =
    let p = err_from_is_err_and c.from_residual-in_err-rows.result c.from_residual-in_err-rows.ensures.1 in
    rw (p.1, p.2) (no_rows c.in_err-rows.field-0.0 c.args.reader.now.rest.now c.in_ok-head.head
    c.read_head.new.reader.rest.now
    c.in_ok-head.ensures c.in_err-rows.ensures)

pub returns-in_err-chosen-clause-exact : goal.returns-in_err-chosen-clause-exact
returns-in_err-chosen-clause-exact c =
    let p = err_from_is_err_and c.from_residual-in_err-chosen.result c.from_residual-in_err-chosen.ensures.1 in
    rw (p.1, p.2) (no_ending c.in_err-chosen.field-0.0 c.args.reader.now.rest.now c.in_ok-head.head
    c.read_head.new.reader.rest.now
    (map proposal_of c.in_ok-rows.rows.items) c.read_proposal_rows.new.reader.rest.now c.in_ok-head.ensures
    c.in_ok-rows.ensures
    (no_chosen c.in_err-chosen.field-0.0 c.in_ok-head.head.periods c.in_ok-head.head.units
    c.read_proposal_rows.new.reader.rest.now
    c.in_err-chosen.ensures))

pub returns-in_err-lines-clause-exact : goal.returns-in_err-lines-clause-exact
returns-in_err-lines-clause-exact c =
    let p = err_from_is_err_and c.from_residual-in_err-lines.result c.from_residual-in_err-lines.ensures.1 in
    rw (p.1, p.2) (no_ending c.in_err-lines.field-0.0 c.args.reader.now.rest.now c.in_ok-head.head
    c.read_head.new.reader.rest.now
    (map proposal_of c.in_ok-rows.rows.items) c.read_proposal_rows.new.reader.rest.now c.in_ok-head.ensures
    c.in_ok-rows.ensures
    (no_lines c.in_err-lines.field-0.0 c.in_ok-head.head.periods c.in_ok-head.head.units
    c.read_proposal_rows.new.reader.rest.now
    c.in_ok-chosen.chosen c.read_proposal_value_line.new.reader.rest.now c.in_ok-chosen.ensures c.in_err-lines.ensures))

pub returns-in_err-foot-clause-exact : goal.returns-in_err-foot-clause-exact
returns-in_err-foot-clause-exact c =
    let p = err_from_is_err_and c.from_residual-in_err-foot.result c.from_residual-in_err-foot.ensures.1 in
    rw (p.1, p.2) (no_ending c.in_err-foot.field-0.0 c.args.reader.now.rest.now c.in_ok-head.head
    c.read_head.new.reader.rest.now
    (map proposal_of c.in_ok-rows.rows.items) c.read_proposal_rows.new.reader.rest.now c.in_ok-head.ensures
    c.in_ok-rows.ensures
    (no_foot c.in_err-foot.field-0.0 c.in_ok-head.head.periods c.in_ok-head.head.units
    c.read_proposal_rows.new.reader.rest.now
    c.in_ok-chosen.chosen c.read_proposal_value_line.new.reader.rest.now (map told_of c.in_ok-lines.lines.items)
    c.read_units.new.reader.rest.now
    c.in_ok-chosen.ensures c.in_ok-lines.ensures c.in_err-foot.ensures))

pub returns-clause-order : goal.returns-clause-order
returns-clause-order c =
    units_order c.in_ok-head.head.periods c.in_ok-head.head.units c.read_proposal_value_line.new.reader.rest.now
    (map told_of c.in_ok-lines.lines.items) c.read_units.new.reader.rest.now c.in_ok-lines.ensures
