use Rattle.hull_report.proofs.Common.{ap, subst, rules, w128, to_z-of_z, Gains, FallsShort, Writes}
use Rattle.hull_report.proofs.Lemmas.{first_of_three, second_of_three, last_of_three, front_text, units_text}
use Rattle.hull_report.proofs.Lemmas.{whole_report}
use Rattle.hull_report.proofs.record.write_report.Goals as goal

pub returns-in_err-write_head_and_proposals-clause-text : goal.returns-in_err-write_head_and_proposals-clause-text
returns-in_err-write_head_and_proposals-clause-text g c =
    let e = c.chosen_proposal_of_finished_board-choice.ensures in
    let held = g.S.Sink.held in
    subst (Writes held g.S.Sink.faults g.S.Sink.last c.args.out.now c.write_head_and_proposals.new.out
    c.from_residual.result) (whole_report c.args.closed.now c.args.settlement.now)
    (first_of_three c.texts_written_in_turn_add_up.ensures _ _ _ _ c.from_residual.ensures.0
    (subst (FallsShort held g.S.Sink.faults g.S.Sink.last c.args.out.now c.write_head_and_proposals.new.out)
    (λ i. front_text c.args.closed.now (e.proposals i) (e.chosen i) (e.value i))
    c.in_err-write_head_and_proposals.ensures.err))

pub returns-in_err-write_unit_lines-clause-text : goal.returns-in_err-write_unit_lines-clause-text
returns-in_err-write_unit_lines-clause-text g c =
    let e = c.chosen_proposal_of_finished_board-choice.ensures in
    let held = g.S.Sink.held in
    subst (Writes held g.S.Sink.faults g.S.Sink.last c.args.out.now c.write_unit_lines.new.out
    c.from_residual-in_err-write_unit_lines.result) (whole_report c.args.closed.now c.args.settlement.now)
    (second_of_three c.texts_written_in_turn_add_up.ensures _ _ _ _ c.from_residual-in_err-write_unit_lines.ensures.0
    (subst (FallsShort held g.S.Sink.faults g.S.Sink.last c.write_head_and_proposals.new.out
    c.write_unit_lines.new.out) (ap (units_text c.args.closed.now c.args.settlement.now) e.chosen)
    c.in_err-write_unit_lines.ensures.text.err)
    (subst (Gains held g.S.Sink.faults c.args.out.now c.write_head_and_proposals.new.out)
    (λ i. front_text c.args.closed.now (e.proposals i) (e.chosen i) (e.value i))
    c.in_ok-write_head_and_proposals.ensures.ok))

pub returns-clause-text : goal.returns-clause-text
returns-clause-text g c =
    let e = c.chosen_proposal_of_finished_board-choice.ensures in
    let held = g.S.Sink.held in
    let foot = rw (
      to_z-of_z w128 c.args.settlement.now.surplus (search rules),
      to_z-of_z w128 c.args.settlement.now.total (search rules),
      to_z-of_z w128 c.chosen_proposal_of_finished_board-choice.result.gap (search rules),
      e.gap,
    ) at c.write_report_foot.ensures in
    subst (Writes held g.S.Sink.faults g.S.Sink.last c.args.out.now c.write_report_foot.new.out
    c.write_report_foot.result) (whole_report c.args.closed.now c.args.settlement.now)
    (last_of_three c.texts_written_in_turn_add_up.ensures _ _ _ _ foot
    (subst (Gains held g.S.Sink.faults c.write_head_and_proposals.new.out c.write_unit_lines.new.out)
    (ap (units_text c.args.closed.now c.args.settlement.now) e.chosen) c.in_ok-write_unit_lines.ensures.text.ok)
    (subst (Gains held g.S.Sink.faults c.args.out.now c.write_head_and_proposals.new.out)
    (λ i. front_text c.args.closed.now (e.proposals i) (e.chosen i) (e.value i))
    c.in_ok-write_head_and_proposals.ensures.ok))
