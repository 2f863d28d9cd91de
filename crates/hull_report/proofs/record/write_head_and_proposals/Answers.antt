use Rattle.hull_report.proofs.Common.{ap, length, subst, arith, rules, w128, to_z-of_z, length-map, proposal_of}
use Rattle.hull_report.proofs.Common.{own_rows, unit_count, Gains, FallsShort, head_text, rows_text, chosen_text}
use Rattle.hull_report.proofs.Lemmas.{first_of_three, second_of_three, last_of_three}
use Rattle.hull_report.proofs.record.write_head_and_proposals.Goals as goal

pub returns-in_err-write_report_head : goal.returns-in_err-write_report_head
returns-in_err-write_report_head g c =
    let c0 = c.args.closed.now in
    let e = c.report_head_of-head.ensures in
    let head = head_text c0.setup.market.periods (unit_count c0.setup.market) c0.setup.budget c0.setup.ahead
    c0.setup.cost c.args.choice.proposals in
    let rows = rows_text 1 (own_rows c0) in
    let chosen = chosen_text c.args.choice.chosen c.args.choice.value in
    first_of_three c.texts_written_in_turn_add_up.ensures head rows chosen _ c.from_residual.ensures.0
    (subst (FallsShort g.S.Sink.held g.S.Sink.faults g.S.Sink.last c.args.out.now c.write_report_head.new.out)
    (λ i. head_text (e.periods i) (e.units i) (e.budget i) (e.ahead i) (e.cost i) (e.proposals i))
    c.in_err-write_report_head.ensures.err)

pub write_all_proposals-requires : goal.write_all_proposals-requires
write_all_proposals-requires g c =
    let long = ap length c.rows.ensures.rows in
    omega (arith, c.requires.proposals, c.requires.most, long, length-map c.rows.result.now proposal_of)

pub returns-in_err-write_all_proposals : goal.returns-in_err-write_all_proposals
returns-in_err-write_all_proposals g c =
    let c0 = c.args.closed.now in
    let e = c.report_head_of-head.ensures in
    let head = head_text c0.setup.market.periods (unit_count c0.setup.market) c0.setup.budget c0.setup.ahead
    c0.setup.cost c.args.choice.proposals in
    let rows = rows_text 1 (own_rows c0) in
    let chosen = chosen_text c.args.choice.chosen c.args.choice.value in
    second_of_three c.texts_written_in_turn_add_up.ensures head rows chosen _
    c.from_residual-in_err-write_all_proposals.ensures.0
    (subst (FallsShort g.S.Sink.held g.S.Sink.faults g.S.Sink.last c.write_report_head.new.out
    c.write_all_proposals.new.out) (ap (rows_text 1) c.rows.ensures.rows) c.in_err-write_all_proposals.ensures.err)
    (subst (Gains g.S.Sink.held g.S.Sink.faults c.args.out.now c.write_report_head.new.out)
    (λ i. head_text (e.periods i) (e.units i) (e.budget i) (e.ahead i) (e.cost i) (e.proposals i))
    c.in_ok-write_report_head.ensures.ok)

pub returns : goal.returns
returns g c =
    let c0 = c.args.closed.now in
    let e = c.report_head_of-head.ensures in
    let head = head_text c0.setup.market.periods (unit_count c0.setup.market) c0.setup.budget c0.setup.ahead
    c0.setup.cost c.args.choice.proposals in
    let rows = rows_text 1 (own_rows c0) in
    let chosen = chosen_text c.args.choice.chosen c.args.choice.value in
    last_of_three c.texts_written_in_turn_add_up.ensures head rows chosen _
    (rw (to_z-of_z w128 c.args.choice.value (search rules)) at c.write_chosen.ensures)
    (subst (Gains g.S.Sink.held g.S.Sink.faults c.write_report_head.new.out c.write_all_proposals.new.out)
    (ap (rows_text 1) c.rows.ensures.rows) c.in_ok-write_all_proposals.ensures.ok)
    (subst (Gains g.S.Sink.held g.S.Sink.faults c.args.out.now c.write_report_head.new.out)
    (λ i. head_text (e.periods i) (e.units i) (e.budget i) (e.ahead i) (e.cost i) (e.proposals i))
    c.in_ok-write_report_head.ensures.ok)
