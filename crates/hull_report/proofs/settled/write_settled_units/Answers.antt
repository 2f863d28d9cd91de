use Rattle.hull_report.proofs.Common.{arith, refl, market_of, unit_text, unit_of, settled_of, settled_line}
use Rattle.hull_report.proofs.Lemmas.{all_texts, no_more_texts, units_told, all_items, writes_same, line_stands}
use Rattle.hull_report.proofs.Lemmas.{line_gained, line_cut}
use Rattle.hull_report.proofs.settled.write_settled_units.Goals as goal

pub returns-in_err-write_unit : goal.returns-in_err-write_unit
returns-in_err-write_unit g c =
    line_cut c.texts_written_in_turn_add_up.ensures (all_texts unit_text (settled_line (settled_of c.args.settled.now))
    (market_of c.args.case.now))
    c.loop-number.number _
    (line_stands unit_text (settled_line (settled_of c.args.settled.now)) (market_of c.args.case.now)
    (market_of c.args.case.now) refl c.loop-number.number
    (unit_of c.unit_at.result.unit) c.unit_at.result.name.now _ c.unit_at.ensures.unit c.unit_at.ensures.name
    (c.settled_line_of_unit-line.ensures c.unit_at.result.name.now))
    _ (units_told (settled_line (settled_of c.args.settled.now)) (market_of c.args.case.now))
    _ c.from_residual.ensures.0 c.in_err-write_unit.ensures.err c.loop-number.invariant

pub loop-number-preserved : goal.loop-number-preserved
loop-number-preserved g c =
    line_gained c.texts_written_in_turn_add_up.ensures
    (all_texts unit_text (settled_line (settled_of c.args.settled.now))
    (market_of c.args.case.now))
    c.loop-number.number _
    (line_stands unit_text (settled_line (settled_of c.args.settled.now)) (market_of c.args.case.now)
    (market_of c.args.case.now) refl c.loop-number.number
    (unit_of c.unit_at.result.unit) c.unit_at.result.name.now _ c.unit_at.ensures.unit c.unit_at.ensures.name
    (c.settled_line_of_unit-line.ensures c.unit_at.result.name.now))
    c.in_ok-write_unit.ensures.ok c.loop-number.invariant

pub returns : goal.returns
returns g c =
    let m = market_of c.args.case.now in
    let line = settled_line (settled_of c.args.settled.now) in
    writes_same (units_told line m)
    (all_items (λ t. t) (all_texts unit_text line m) c.loop-number.number
    (no_more_texts unit_text line m c.loop-number.number (omega arith)) c.loop-number.invariant)
