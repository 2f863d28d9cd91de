use Rattle.plan_settle.proofs.Lemmas.{own_right}
use Rattle.plan_settle.proofs.sides.fixed_report_side_of_free_run.Goals as goal

pub returns-clause-side : goal.returns-clause-side
returns-clause-side c =
    let right = own_right c.settled_sides_of_fixed_report_are_right.ensures
    c.settlement_has_entry_for_each_unit.ensures c.args.done
    c.fixed_report_side_of_finished_board-side.result
    c.requires.ended c.into_terms.ensures.setup c.fixed_report_side_of_finished_board-side.ensures.choice
    c.fixed_report_side_of_finished_board-side.ensures.settlement in
    record { right = right.0; count = right.1 }
