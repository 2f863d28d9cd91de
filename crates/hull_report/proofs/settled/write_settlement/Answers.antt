use Rattle.hull_report.proofs.Common.{◌-ℤ◌, subst, rules, w128, to_z-of_z, market_of, settled_of, Gains, FallsShort}
use Rattle.hull_report.proofs.Common.{priced_text, proposal_of}
use Rattle.hull_report.proofs.Lemmas.{first_of_three, second_of_three, last_of_three, whole_settlement, writes_same}
use Rattle.hull_report.proofs.settled.write_settlement.Goals as goal

pub returns-in_err-write_settlement_before_units : goal.returns-in_err-write_settlement_before_units
returns-in_err-write_settlement_before_units g c =
    writes_same (whole_settlement (market_of c.args.case.now) c.args.cost (settled_of c.args.settled.now))
    (first_of_three c.texts_written_in_turn_add_up.ensures _ _ _ _ c.from_residual.ensures.0
    (subst (FallsShort g.S.Sink.held g.S.Sink.faults g.S.Sink.last c.args.out.now
    c.write_settlement_before_units.new.out)
    (λ i. priced_text c.args.case.now.periods (c.unit_count.ensures.value i)
    (to_z-of_z w128 c.args.cost (search rules) i)
    (proposal_of c.args.settled.now.row))
    c.in_err-write_settlement_before_units.ensures.err))

pub returns-in_err-write_settled_units : goal.returns-in_err-write_settled_units
returns-in_err-write_settled_units g c =
    writes_same (whole_settlement (market_of c.args.case.now) c.args.cost (settled_of c.args.settled.now))
    (second_of_three c.texts_written_in_turn_add_up.ensures _ _ _ _ c.from_residual-in_err-write_settled_units.ensures.0
    c.in_err-write_settled_units.ensures.err
    (subst (Gains g.S.Sink.held g.S.Sink.faults c.args.out.now c.write_settlement_before_units.new.out)
    (λ i. priced_text c.args.case.now.periods (c.unit_count.ensures.value i)
    (to_z-of_z w128 c.args.cost (search rules) i)
    (proposal_of c.args.settled.now.row))
    c.in_ok-write_settlement_before_units.ensures.ok))

pub returns : goal.returns
returns g c =
    let s = c.args.settled.now in
    let foot = rw (
      to_z-of_z w128 s.settlement.surplus (search rules),
      to_z-of_z w128 s.settlement.total (search rules),
      to_z-of_z w128 c.args.cost (search rules),
      to_z-of_z w128 s.row.value (search rules),
      to_z-of_z w128 (c.args.cost -ℤ s.row.value) (search rules),
    ) at c.write_report_foot.ensures in
    writes_same (whole_settlement (market_of c.args.case.now) c.args.cost (settled_of s))
    (last_of_three c.texts_written_in_turn_add_up.ensures _ _ _ _ foot
    c.in_ok-write_settled_units.ensures.ok
    (subst (Gains g.S.Sink.held g.S.Sink.faults c.args.out.now c.write_settlement_before_units.new.out)
    (λ i. priced_text c.args.case.now.periods (c.unit_count.ensures.value i)
    (to_z-of_z w128 c.args.cost (search rules) i)
    (proposal_of s.row))
    c.in_ok-write_settlement_before_units.ensures.ok))
