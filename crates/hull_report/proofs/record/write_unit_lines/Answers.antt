use Rattle.hull_report.proofs.Common.{arith, ap, unit_count, unit_text, unit_of, line_of}
use Rattle.hull_report.proofs.Lemmas.{all_texts, no_more_texts, units_told, all_items, writes_same, line_stands}
use Rattle.hull_report.proofs.Lemmas.{line_gained, line_cut}
use Rattle.hull_report.proofs.record.write_unit_lines.Goals as goal

pub returns-in_err-write_unit-clause-text : goal.returns-in_err-write_unit-clause-text
returns-in_err-write_unit-clause-text g c =
    line_cut c.texts_written_in_turn_add_up.ensures
    (all_texts unit_text (line_of c.args.closed.now c.args.settlement.now c.args.proposal)
    c.args.closed.now.setup.market)
    c.loop-number.number _
    (line_stands unit_text (line_of c.args.closed.now c.args.settlement.now c.args.proposal) _
    c.args.closed.now.setup.market c.case-case.ensures c.loop-number.number
    (unit_of c.unit_at.result.unit) c.unit_at.result.name.now _ c.unit_at.ensures.unit c.unit_at.ensures.name
    (c.fetch_unit_response_and_payment-owed.ensures.line c.unit_at.result.name.now))
    _ (units_told (line_of c.args.closed.now c.args.settlement.now c.args.proposal) c.args.closed.now.setup.market)
    _ c.from_residual.ensures.0 c.in_err-write_unit.ensures.err c.loop-number.invariant.gained

pub loop-number-preserved : goal.loop-number-preserved
loop-number-preserved g c = record {
  gained = line_gained c.texts_written_in_turn_add_up.ensures
      (all_texts unit_text (line_of c.args.closed.now c.args.settlement.now c.args.proposal)
      c.args.closed.now.setup.market)
      c.loop-number.number _
      (line_stands unit_text (line_of c.args.closed.now c.args.settlement.now c.args.proposal) _
      c.args.closed.now.setup.market c.case-case.ensures c.loop-number.number
      (unit_of c.unit_at.result.unit) c.unit_at.result.name.now _ c.unit_at.ensures.unit c.unit_at.ensures.name
      (c.fetch_unit_response_and_payment-owed.ensures.line c.unit_at.result.name.now))
      c.in_ok-write_unit.ensures.ok c.loop-number.invariant.gained;
  horizon = c.fetch_unit_response_and_payment-owed.ensures.horizon;
}

pub returns-clause-text : goal.returns-clause-text
returns-clause-text g c =
    let m = c.args.closed.now.setup.market in
    let count = ap unit_count c.case-case.ensures in
    let line = line_of c.args.closed.now c.args.settlement.now c.args.proposal in
    writes_same (units_told line m)
    (all_items (λ t. t) (all_texts unit_text line m) c.loop-number.number
    (no_more_texts unit_text line m c.loop-number.number
    (omega (arith, c.unit_count-number-end.ensures.value, count))) c.loop-number.invariant.gained)
