use Rattle.hull_report.proofs.Common.{subst, rules, ap, ◌∙◌, w128, to_z-of_z, Writes, Market, try_lines}
use Rattle.hull_report.proofs.Lemmas.{counts_of, whole_try}
use Rattle.hull_report.proofs.record.write_try.Goals as goal

pub returns : goal.returns
unfolding try_lines
returns g c =
    let e = c.chosen_proposal_of_finished_board-choice.ensures in
    let counts = counts_of c.case-case.result.now c.args.closed.now.setup.market c.case-case.ensures in
    let periods = ap (λ (m : Market). m.periods) c.case-case.ensures in
    let thermal = c.len-thermal.ensures ∙ counts.thermal in
    let flat = c.len-flat.ensures ∙ counts.flat in
    let text = rw (
      to_z-of_z w128 c.chosen_proposal_of_finished_board-choice.result.value (search rules),
      to_z-of_z w128 c.cost-cost.result (search rules),
      to_z-of_z w128 c.args.settlement.now.total (search rules),
      to_z-of_z w128 c.args.settlement.now.surplus (search rules),
      to_z-of_z w128 c.chosen_proposal_of_finished_board-choice.result.gap (search rules),
    ) at c.write_form_filled_with_parts.ensures in
    subst (Writes g.S.Sink.held g.S.Sink.faults g.S.Sink.last c.args.out.now c.write_form_filled_with_parts.new.out
    c.write_form_filled_with_parts.result)
    ((λ i. try_lines c.args.number (periods i) (thermal i) (flat i) (e.proposals i) (e.chosen i) (e.value i)
    (c.cost-cost.ensures.cost i) c.args.settlement.now.total c.args.settlement.now.surplus (e.gap i))
    ∙ whole_try c.args.number c.args.closed.now c.args.settlement.now)
    text
